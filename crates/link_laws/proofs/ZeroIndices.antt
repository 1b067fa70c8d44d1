-- Where the settings choose index 0 for all slices, the indices of frames are zeros, and as many as there are slices.
use Rattle.std.proofs.Common.{◌≡◌, ◌<◌, ◌≤◌, ℕ, suc, ◌+◌, ◌-◌, ◌*◌, List, [], ◌∷◌, ◌++◌, length, drop, map, Some, None, refl, sym, ap, ◌∙◌, arith}
use Rattle.std.specs.Prelude.{replicate, slice_get}
use Rattle.std.specs.List.{enumerate_from, flat_map}
use Rattle.std.specs.Option.{option_or}
use Rattle.std.proofs.Math.Nat.{mul-le-mul_right, suc-mul, mul_assoc}
use Rattle.std.proofs.lemmas.List.{drop-replicate, get_or-replicate, length-map, length-replicate, replicate-append-replicate, take-replicate}
use Rattle.std.proofs.lemmas.List.Concat.{flat_map-cons}
use Rattle.std.proofs.lemmas.List.FromFn.{length-range_with_len}
use Rattle.std.proofs.lemmas.Option.{slice_get-get_or, slice_get_within}
use Rattle.cmd_send.specs.FramesSent.{AreSendable, frame_fault, frame_indices}
use Rattle.link_laws.specs.FramesToSend.{AreAtIndexZero, slices_per_frame}
use Rattle.link_laws.proofs.Among.{among_all, among_from}
use Rattle.link_laws.proofs.FramePictures.{all_pictures, length-all_pictures, pictures_many}
use Rattle.link_laws.proofs.SentStream.{count}
use Rattle.link_model.specs.Sending.{frames_indices, pictures_of, pictures_per_frame}
use Rattle.link_model.specs.SendingFaults.{first_of_slices, first_sample_fault, first_slice_fault, send_fault}
use Rattle.link_model.specs.SendingPictures.{Need, chosen_by, chosen_index, chosen_indices, picture_needs, sent_parameters, slices_with_indices, wants_lengths}
use Rattle.vc_types.specs.declared.choice.IndexChoice.TheVariants.{Index}
use Rattle.vc_types.specs.Planes.{Planes}
use Rattle.vc_types.specs.SenderSettings.{Sending}
use Rattle.vc_types.specs.Subbands.{slice_count}

abbrev pub zeros : ℕ → List ℕ
zeros n = replicate n 0

zero_at : (n i : ℕ) → i < n → slice_get (zeros n) i ≡ Some 0
zero_at n i below =
    let none : ℕ = 0 in
    let long = length-replicate n none in
    slice_get-get_or (zeros n) i 0 (omega (arith, below, long)) ∙ ap Some (get_or-replicate n i 0 0 below)

module _ (s : Sending) (chooses : s.choice ≡ Index 0) where
  mapped : (needs : List Need) → map (chosen_index s) needs ≡ zeros (length needs)
  mapped [] = refl
  mapped (need ∷ needs) = (λ i. chosen_by (slice_count (sent_parameters s)) (chooses i) need ∷ mapped needs i)

  chosen_zeros : (planes : Planes) → chosen_indices s planes ≡ zeros (count s)
  unfolding chosen_indices picture_needs
  chosen_zeros planes = mapped (picture_needs s (wants_lengths s.choice) planes) ∙ ap zeros (length-map _ _ ∙ length-range_with_len 0 (count s))

  all_zeros : (pictures : List Planes) → flat_map (chosen_indices s) pictures ≡ zeros (length pictures * count s)
  all_zeros [] = ap zeros (none (count s))
    where
      none : (n : ℕ) → 0 ≡ 0 * n
      none n = omega arith
  all_zeros (planes ∷ pictures) =
      let more : count s + length pictures * count s ≡ suc (length pictures) * count s = omega (arith, suc-mul (length pictures) (count s)) in
      flat_map-cons (chosen_indices s) planes pictures
      ∙ (λ i. chosen_zeros planes i ++ all_zeros pictures i)
      ∙ replicate-append-replicate (count s) (length pictures * count s) 0
      ∙ ap zeros more

  pub indices_zeros : (frames : List Planes) → frames_indices s frames ≡ zeros (length frames * pictures_per_frame s * count s)
  unfolding frames_indices
  indices_zeros frames = all_zeros (all_pictures s frames) ∙ ap (λ (n : ℕ). zeros (n * count s)) (length-all_pictures s frames)

  own_zeros : (frame : Planes) → frame_indices s frame ≡ zeros (pictures_per_frame s * count s)
  own_zeros frame = all_zeros (pictures_of s frame) ∙ ap (λ (n : ℕ). zeros (n * count s)) (pictures_many s frame)

  -- ---- all slices have index 0

  pub all_at_zero : (frames : List Planes) → AreAtIndexZero s (frames_indices s frames) frames
  all_at_zero frames picture inside i below =
      let all : ℕ = length frames * pictures_per_frame s * count s in
      let more = mul-le-mul_right {m = suc picture} {n = length frames * pictures_per_frame s} (count s) inside in
      ap (λ (l : List ℕ). slice_get (drop (picture * count s) l) i) (indices_zeros frames)
      ∙ ap (λ (l : List ℕ). slice_get l i) (drop-replicate (picture * count s) all 0)
      ∙ zero_at (all - picture * count s) i (omega (arith, below, more, suc-mul picture (count s)))

  -- ---- the faults of a frame by more zeros are those by its own

  enough : (planes : Planes) (m : ℕ) → count s ≤ m → first_of_slices s planes (slices_with_indices (sent_parameters s) (zeros m)) ≡ first_of_slices s planes (slices_with_indices (sent_parameters s) (zeros (count s)))
  enough planes m long = ap (λ (l : List ℕ). first_of_slices s planes (enumerate_from 0 l)) (take-replicate (count s) m 0 long ∙ sym (take-replicate (count s) (count s) 0 (omega arith)))

  same_faults : (pictures : List Planes) (m n : ℕ) → length pictures * count s ≤ m → length pictures * count s ≤ n → first_slice_fault s (zeros m) pictures ≡ first_slice_fault s (zeros n) pictures
  unfolding first_slice_fault
  same_faults [] m n long other = refl
  same_faults (planes ∷ pictures) m n long other =
      let more = suc-mul (length pictures) (count s) in
      let first = enough planes m (omega (arith, long, more)) ∙ sym (enough planes n (omega (arith, other, more))) in
      let rest = same_faults pictures (m - count s) (n - count s) (omega (arith, long, more)) (omega (arith, other, more)) in
      let later : first_slice_fault s (drop (count s) (zeros m)) pictures ≡ first_slice_fault s (drop (count s) (zeros n)) pictures =
      ap (λ (l : List ℕ). first_slice_fault s l pictures) (drop-replicate (count s) m 0) ∙ rest ∙ sym (ap (λ (l : List ℕ). first_slice_fault s l pictures) (drop-replicate (count s) n 0)) in
      (λ i. option_or (first i) (later i))

  same_fault : (frame : Planes) (m : ℕ) → pictures_per_frame s * count s ≤ m → send_fault s (zeros m) frame ≡ frame_fault s frame
  unfolding send_fault
  same_fault frame m long =
      let many = ap (λ (n : ℕ). n * count s) (pictures_many s frame) in
      ap (option_or (first_sample_fault s frame)) (same_faults (pictures_of s frame) m (pictures_per_frame s * count s) (omega (arith, long, many)) (omega (arith, many)))
      ∙ ap (λ (l : List ℕ). option_or (first_sample_fault s frame) (first_slice_fault s l (pictures_of s frame))) (sym (own_zeros frame))

  pub sound_at_zero : (frames : List Planes) → AreSendable s frames → (f : ℕ) (frame : Planes) → slice_get frames f ≡ Some frame → send_fault s (drop (f * slices_per_frame s) (frames_indices s frames)) frame ≡ None
  sound_at_zero frames sendable f frame at =
      let each : ℕ = pictures_per_frame s * count s in
      let all : ℕ = length frames * pictures_per_frame s * count s in
      let whole : all ≡ length frames * each = mul_assoc (length frames) (pictures_per_frame s) (count s) in
      let more = mul-le-mul_right {m = suc f} {n = length frames} each (slice_get_within frames f frame at) in
      ap (λ (l : List ℕ). send_fault s (drop (f * each) l) frame) (indices_zeros frames)
      ∙ ap (λ (l : List ℕ). send_fault s l frame) (drop-replicate (f * each) all 0)
      ∙ same_fault frame (all - f * each) (omega (arith, whole, more, suc-mul f each))
      ∙ among_all (λ own. frame_fault s own ≡ None) frame frames sendable (among_from frame frames f at)
