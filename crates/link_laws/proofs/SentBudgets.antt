-- The slices in the datagrams of a picture are the picture's, and keep to its budget.
use Rattle.std.proofs.Common.{◌≡◌, ◌≤◌, ◌<◌, ℕ, zero, suc, ◌+◌, List, [], ◌∷◌, ◌++◌, length, map, take, drop, Some, refl, sym, ap, ◌∙◌, subst, cond, arith, append-nil, append_assoc, Bool, slice_get}
use Rattle.std.specs.List.{enumerate_from, flat_map}
use Rattle.std.proofs.lemmas.Bool.{eq-eqb, ne_eqb}
use Rattle.std.proofs.lemmas.List.{length-map}
use Rattle.std.proofs.lemmas.List.Concat.{flat_map-append, flat_map-cons}
use Rattle.std.proofs.lemmas.List.FromFn.{length-range_with_len}
use Rattle.std.proofs.lemmas.Option.{none-some, same_Some}
use Rattle.std.proofs.Math.Seq.{take-append_seam, drop-append_seam}
use Rattle.link_laws.proofs.KeptBudgets.{budgets_are_kept}
use Rattle.link_laws.proofs.SentRuns.{slices_in_runs_of_slices}
use Rattle.link_laws.proofs.SentStream.{contents, count, more_outgoing, none_outgoing, picture_contents}
use Rattle.link_laws.specs.Budgets.{SentBudgetsAreKept, coded_slices, slice_bytes, slices_of_picture, slices_sent}
use Rattle.link_laws.specs.FramesToSend.{pictures_of_all}
use Rattle.link_model.specs.Kept.{SliceRun}
use Rattle.link_model.specs.Sending.{DatagramContent, SlicesContent, frames_indices, outgoing, picture_outgoing, picture_runs, pictures_outgoing, run_bytes}
use Rattle.link_model.specs.SendingPictures.{chosen_index, chosen_indices, picture_needs, sent_parameters, sent_slice, sent_slices, slice_room, wants_lengths}
use Rattle.vc_types.specs.Fields.{joined}
use Rattle.vc_types.specs.Planes.{Planes}
use Rattle.vc_types.specs.SenderSettings.{Sending, sending_view}

-- ---- what is carried of one picture

joined-append : (a b : List (List ℕ)) → joined (a ++ b) ≡ joined a ++ joined b
joined-append [] b = refl
joined-append (x ∷ a) b = ap (λ (l : List ℕ). x ++ l) (joined-append a b) ∙ sym (append_assoc x (joined a) (joined b))

-- the bytes of runs are those of their slices
runs_joined : (runs : List SliceRun) → flat_map slice_bytes (map SlicesContent runs) ≡ joined (flat_map (λ run. run.slices) runs)
runs_joined [] = refl
runs_joined (run ∷ runs) =
    flat_map-cons slice_bytes (SlicesContent run) (map SlicesContent runs)
    ∙ ap (λ (l : List ℕ). run_bytes run ++ l) (runs_joined runs)
    ∙ sym (ap (λ (l : List (List ℕ)). joined l) (flat_map-cons (λ (r : SliceRun). r.slices) run runs)
    ∙ joined-append run.slices (flat_map (λ (r : SliceRun). r.slices) runs))

its_contents : (picture : ℕ) (cs : List DatagramContent)
    → flat_map (slices_of_picture picture) (map (outgoing picture) cs) ≡ flat_map slice_bytes cs
its_contents picture [] = refl
its_contents picture (c ∷ cs) =
    flat_map-cons (slices_of_picture picture) (outgoing picture c) (map (outgoing picture) cs)
    ∙ ap (λ (b : Bool). cond b (slice_bytes c) [] ++ flat_map (slices_of_picture picture) (map (outgoing picture) cs)) (eq-eqb picture picture refl)
    ∙ ap (λ (l : List ℕ). slice_bytes c ++ l) (its_contents picture cs)
    ∙ sym (flat_map-cons slice_bytes c cs)

other_contents : (picture other : ℕ) → (other ≡ picture → ⊥) → (cs : List DatagramContent)
    → flat_map (slices_of_picture picture) (map (outgoing other) cs) ≡ []
other_contents picture other apart [] = refl
other_contents picture other apart (c ∷ cs) =
    flat_map-cons (slices_of_picture picture) (outgoing other c) (map (outgoing other) cs)
    ∙ ap (λ (b : Bool). cond b (slice_bytes c) [] ++ flat_map (slices_of_picture picture) (map (outgoing other) cs)) (ne_eqb other picture apart)
    ∙ other_contents picture other apart cs

-- ---- and of one among others

module _ (s : Sending) where
  abbrev indices_of : List Planes → List ℕ
  indices_of pictures = flat_map (chosen_indices s) pictures

  many_chosen : (planes : Planes) → length (chosen_indices s planes) ≡ count s
  unfolding chosen_indices picture_needs
  many_chosen planes =
      length-map (picture_needs s (wants_lengths s.choice) planes) (chosen_index s) ∙ length-map _ _ ∙ length-range_with_len 0 (count s)

  -- the first picture's indices stand in front
  front_chosen : (planes : Planes) (more : List ℕ) → sent_slices (sent_parameters s) planes (chosen_indices s planes ++ more) ≡ sent_slices (sent_parameters s) planes (chosen_indices s planes)
  unfolding sent_slices
  front_chosen planes more =
      ap (λ (l : List ℕ). map (λ (z : ℕ × ℕ). sent_slice (sent_parameters s) planes z.0 z.1) (enumerate_from 0 l))
      (ap (λ (n : ℕ). take n (chosen_indices s planes ++ more)) (sym (many_chosen planes))
      ∙ take-append_seam (chosen_indices s planes) more
      ∙ sym (ap (λ (n : ℕ). take n (chosen_indices s planes)) (sym (many_chosen planes))
      ∙ ap (take (length (chosen_indices s planes))) (sym (append-nil (chosen_indices s planes)))
      ∙ take-append_seam (chosen_indices s planes) []))

  later_chosen : (planes : Planes) (more : List ℕ) → drop (count s) (chosen_indices s planes ++ more) ≡ more
  later_chosen planes more =
      ap (λ (n : ℕ). drop n (chosen_indices s planes ++ more)) (sym (many_chosen planes))
      ∙ drop-append_seam (chosen_indices s planes) more

  picture_slices : (picture : ℕ) (planes : Planes) (more : List ℕ)
      → flat_map (slices_of_picture picture) (picture_outgoing s picture (chosen_indices s planes ++ more) planes) ≡ coded_slices s planes
  picture_slices picture planes more =
      let indices = chosen_indices s planes ++ more in
      ap (flat_map (slices_of_picture picture)) (picture_contents s picture indices planes)
      ∙ its_contents picture (contents s (picture_runs s indices planes))
      ∙ runs_joined (picture_runs s indices planes)
      ∙ ap (λ (l : List (List ℕ)). joined l) (slices_in_runs_of_slices (slice_room s) (sent_slices (sent_parameters s) planes indices) ∙ front_chosen planes more)

  other_slices : (picture other : ℕ) → (other ≡ picture → ⊥) → (indices : List ℕ) (planes : Planes)
      → flat_map (slices_of_picture picture) (picture_outgoing s other indices planes) ≡ []
  other_slices picture other apart indices planes =
      ap (flat_map (slices_of_picture picture)) (picture_contents s other indices planes)
      ∙ other_contents picture other apart (contents s (picture_runs s indices planes))

  abbrev of_all : (picture first : ℕ) → List Planes → List ℕ
  of_all picture first pictures = flat_map (slices_of_picture picture) (pictures_outgoing s first (indices_of pictures) pictures)

  of_more : (picture first : ℕ) (planes : Planes) (pictures : List Planes) → of_all picture first (planes ∷ pictures)
      ≡ flat_map (slices_of_picture picture) (picture_outgoing s first (chosen_indices s planes ++ indices_of pictures) planes)
      ++ of_all picture (first + 1) pictures
  of_more picture first planes pictures =
      let indices = chosen_indices s planes ++ indices_of pictures in
      ap (λ (l : List ℕ). flat_map (slices_of_picture picture) (pictures_outgoing s first l (planes ∷ pictures))) (flat_map-cons (chosen_indices s) planes pictures)
      ∙ ap (flat_map (slices_of_picture picture)) (more_outgoing s first indices planes pictures)
      ∙ flat_map-append (slices_of_picture picture) (picture_outgoing s first indices planes) (pictures_outgoing s (first + 1) (drop (count s) indices) pictures)
      ∙ ap (λ (l : List ℕ). flat_map (slices_of_picture picture) (picture_outgoing s first indices planes)
      ++ flat_map (slices_of_picture picture) (pictures_outgoing s (first + 1) l pictures)) (later_chosen planes (indices_of pictures))

  of_later : (picture first : ℕ) (pictures : List Planes) → picture < first → of_all picture first pictures ≡ []
  of_later picture first [] before = ap (flat_map (slices_of_picture picture)) (none_outgoing s first (indices_of []))
  of_later picture first (planes ∷ pictures) before =
      of_more picture first planes pictures
      ∙ (λ i. other_slices picture first (λ same. omega (arith, same, before)) (chosen_indices s planes ++ indices_of pictures) planes i
      ++ of_later picture (first + 1) pictures (omega (arith, before)) i)

  pub all_slices : (first k : ℕ) (pictures : List Planes) (planes : Planes) → slice_get pictures k ≡ Some planes
      → of_all (first + k) first pictures ≡ coded_slices s planes
  all_slices first k [] planes at = absurd (none-some planes at)
  all_slices first zero (own ∷ pictures) planes at =
      let same : first + 0 ≡ first = omega arith in
      ap (λ (n : ℕ). of_all n first (own ∷ pictures)) same
      ∙ of_more first first own pictures
      ∙ (λ i. picture_slices first own (indices_of pictures) i ++ of_later first (first + 1) pictures (omega arith) i)
      ∙ append-nil (coded_slices s own)
      ∙ ap (coded_slices s) (same_Some own planes at)
  all_slices first (suc k) (own ∷ pictures) planes at =
      let place : first + suc k ≡ first + 1 + k = omega arith in
      of_more (first + suc k) first own pictures
      ∙ (λ i. other_slices (first + suc k) first (λ same. omega (arith, same)) (chosen_indices s own ++ indices_of pictures) own i
      ++ of_all (place i) (first + 1) pictures)
      ∙ all_slices (first + 1) k pictures planes at

-- the slices in the datagrams of a picture are those that it is coded to
slices_are_coded : (s : Sending) (frames : List Planes) (picture : ℕ) (planes : Planes) → slice_get (pictures_of_all s frames) picture ≡ Some planes
    → slices_sent s frames picture ≡ coded_slices s planes
unfolding frames_indices
slices_are_coded s frames picture planes at =
    let same : picture ≡ 0 + picture = omega arith in
    ap (λ (n : ℕ). of_all s n 0 (pictures_of_all s frames)) same
    ∙ all_slices s 0 picture (pictures_of_all s frames) planes at

pub sent_budgets_are_kept : SentBudgetsAreKept
sent_budgets_are_kept settings frames picture planes bytes is at can =
    subst (λ (l : List ℕ). length l ≤ bytes) (sym (slices_are_coded (sending_view settings) frames picture planes at))
    (budgets_are_kept settings planes bytes is can)
