-- The runs of a picture's slices fit their datagrams, and at index 0 they are taken from them again.
use Rattle.std.proofs.Common.{◌≡◌, ◌<◌, ◌≤◌, ℕ, ◌*◌, List, [], ◌∷◌, ◌++◌, length, take, get_or, Some, None, Ok, refl, sym, ap, subst, ◌∙◌, arith, All, slice_get, flat_map, length-append, length-take, get_or-take}
use Rattle.std.proofs.lemmas.List.Concat.{flat_map-append, flat_map-cons}
use Rattle.std.proofs.lemmas.List.Elements.{All-head, All-tail, All-map, All-weaker}
use Rattle.std.proofs.lemmas.Option.{slice_get_past, get_or_from_slice_get}
use Rattle.link_laws.proofs.Among.{IsAmong, among_all, All-front, All-back}
use Rattle.link_laws.proofs.CodedSlices.{slice_length-encoded}
use Rattle.link_laws.proofs.SentStream.{HasBytes, all_have_bytes, length-sent_slices, none_too_large, not_too_long, IsSmall, all_enumerated}
use Rattle.link_laws.proofs.SentRuns.{IsRun, runs_of_slices-are_runs, slices_in_runs_of_slices}
use Rattle.link_laws.proofs.OwnParts.{IsWhole, sent_part, slice_run-sent_part}
use Rattle.link_model.specs.Kept.{SliceRun, slice_run}
use Rattle.link_model.specs.Sending.{runs_of_slices, picture_runs, IsRunOf}
use Rattle.link_model.specs.SendingFaults.{first_of_slices}
use Rattle.link_model.specs.SendingPictures.{sent_parameters, sent_coefficients, sent_slice, sent_slices, slices_with_indices, slice_room}
use Rattle.link_model.proofs.SentHeads.{between}
use Rattle.vc_types.specs.declared.settings.SendSettings.{SendSettings}
use Rattle.vc_types.specs.Fields.{joined}
use Rattle.vc_types.specs.Planes.{Planes}
use Rattle.vc_types.specs.SenderSettings.{Sending, sending_view}
use Rattle.vc_types.specs.Settings.{within}
use Rattle.vc_types.specs.Subbands.{slice_count}
use Rattle.vc_types.specs.TransformParameters.{Parameters}
use Rattle.vc_types.proofs.SliceCounts.{some_across}

-- what holds of all slices holds of each run's
pub run_slices : (P : List ℕ → Type 0) (room : ℕ) (slices : List (List ℕ)) (run : SliceRun) → All P slices → IsAmong (runs_of_slices room slices) run → All P run.slices
run_slices P room slices run all is =
    let same : slices ≡ flat_map (λ (r : SliceRun). r.slices) is.0 ++ (run.slices ++ flat_map (λ (r : SliceRun). r.slices) is.1) =
    sym (slices_in_runs_of_slices room slices)
    ∙ ap (flat_map (λ (r : SliceRun). r.slices)) is.2
    ∙ flat_map-append (λ (r : SliceRun). r.slices) is.0 (run ∷ is.1)
    ∙ ap (λ (l : List (List ℕ)). flat_map (λ (r : SliceRun). r.slices) is.0 ++ l) (flat_map-cons (λ (r : SliceRun). r.slices) run is.1) in
    All-front P run.slices (flat_map (λ (r : SliceRun). r.slices) is.1)
    (All-back P (flat_map (λ (r : SliceRun). r.slices) is.0) (run.slices ++ flat_map (λ (r : SliceRun). r.slices) is.1) (subst (λ (l : List (List ℕ)). All P l) same all))

-- where each has a byte there are no more than bytes
few_joined : (xs : List (List ℕ)) → All (λ x. 1 ≤ length x) xs → length xs ≤ length (joined xs)
few_joined [] all = omega arith
few_joined (x ∷ xs) all =
    grind (arith, All-head, length-append, few_joined xs (All-tail (λ x. 1 ≤ length x) x xs all))

module _ (settings : SendSettings) where
  abbrev s : Sending
  s = sending_view settings

  abbrev p : Parameters
  p = sent_parameters s

  pub scaler_is_some : 0 < (sent_parameters (sending_view settings)).scaler
  unfolding sent_parameters
  scaler_is_some = (between 1 255 settings.scaler settings.scaler_fits).least

  pub across_some : 1 ≤ (sent_parameters (sending_view settings)).slices_x
  unfolding sent_parameters
  across_some = (let some = some_across settings.slices_x settings.slices_y settings.slices in omega (arith, some))

  count_is : slice_count (sent_parameters (sending_view settings)) ≡ s.across * s.down
  unfolding sent_parameters
  count_is = refl

  pub room_few : slice_room (sending_view settings) ≤ 65475
  room_few = (let fits = between 64 65507 settings.size settings.size_fits in omega (arith, fits.most))

  module _ (planes : Planes) (indices : List ℕ) (none : first_of_slices s planes (slices_with_indices p indices) ≡ None) where
    abbrev slices : List (List ℕ)
    slices = sent_slices p planes indices

    have_bytes : All (HasBytes s planes scaler_is_some) slices
    have_bytes = all_have_bytes s planes scaler_is_some indices none

    few_slices : length slices ≤ slice_count p
    few_slices = omega (arith, length-sent_slices s planes indices, length-take (slice_count p) indices)

    pub run_is : (run : SliceRun) → IsAmong (picture_runs s indices planes) run → IsRun (slice_room s) (length slices) run
    run_is run is = among_all (IsRun (slice_room s) (length slices)) run (runs_of_slices (slice_room s) slices)
        (runs_of_slices-are_runs (slice_room s) slices (All-weaker (HasBytes s planes scaler_is_some) (λ x. length x ≤ slice_room s) (λ x has. has.few) slices have_bytes)) is

    pub run_fits : (run : SliceRun) → IsAmong (picture_runs s indices planes) run → IsRunOf s run
    run_fits run is =
        let own = run_is run is in
        let any = run_slices (λ x. 1 ≤ length x) (slice_room s) slices run (All-weaker (HasBytes s planes scaler_is_some) (λ x. 1 ≤ length x) (λ x has. has.any) slices have_bytes) is in
        let few = few_joined run.slices any in
        record {
          some = own.some;
          few = omega (arith, few, own.fits, room_few);
          inside = omega (arith, own.within, own.some, few_slices, count_is);
          short = omega (arith, own.fits, room_few);
        }

    module _ (zeros : (k : ℕ) → k < slice_count p → slice_get indices k ≡ Some 0) where
      pub all_slices : length slices ≡ slice_count p
      all_slices = grind (arith, length-sent_slices, length-take, slice_get_past)

      index_zero : All (λ (z : ℕ × ℕ). z.1 ≡ 0) (slices_with_indices p indices)
      index_zero = all_enumerated (λ (n : ℕ). n ≡ 0) 0 (take (slice_count p) indices)
          (λ k d h. (let below : k < slice_count p = omega (arith, h, length-take (slice_count p) indices) in
          get_or-take (slice_count p) indices k d below ∙ get_or_from_slice_get indices k 0 d (zeros k below)))

      whole_slice : (n index : ℕ) → index ≡ 0 → IsSmall s planes (n, index) → IsWhole p (sent_slice p planes n index)
      unfolding sent_slice
      whole_slice n index is fits behind = slice_length-encoded p n index (sent_coefficients p planes n) scaler_is_some (omega (arith, is)) (not_too_long s planes n index fits) behind

      both_of : (zs : List (ℕ × ℕ)) → All (λ (z : ℕ × ℕ). z.1 ≡ 0) zs → All (IsSmall s planes) zs → All (λ (z : ℕ × ℕ). IsWhole p (sent_slice p planes z.0 z.1)) zs
      both_of zs none_above small k d h = whole_slice (get_or zs k d).0 (get_or zs k d).1 (none_above k d h) (small k d h)

      whole_slices : All (IsWhole p) slices
      unfolding sent_slices
      whole_slices = All-map (IsWhole p) (λ z. sent_slice p planes z.0 z.1) (slices_with_indices p indices)
          (both_of (slices_with_indices p indices) index_zero (none_too_large s planes (slices_with_indices p indices) none))

      -- a run is taken as it was sent
      pub run_taken_again : (run : SliceRun) → IsAmong (picture_runs s indices planes) run → slice_run p (sent_part p run) ≡ Ok run
      run_taken_again run is =
          let own = run_is run is in
          slice_run-sent_part p run across_some own.some (omega (arith, own.within, few_slices)) (run_slices (IsWhole p) (slice_room s) slices run whole_slices is)
