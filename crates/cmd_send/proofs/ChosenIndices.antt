-- Indices that a chooser answers as the settings choose, for all slices of a frame and for the first of them.
use Rattle.std.proofs.Common.{◌≡◌, ℕ, ◌+◌, ◌-◌, ◌<◌, ◌≤◌, List, [], ◌∷◌, ◌++◌, length, take, drop, map, Option, Some, None, refl, ap, sym, ◌∙◌, arith, inl, inr}
use Rattle.std.specs.List.{AllZip, flat_map, enumerate_from}
use Rattle.std.specs.Option.{option_or}
use Rattle.std.specs.Prelude.{◌⊎◌}
use Rattle.std.proofs.Math.Seq.{take-append-add}
use Rattle.std.proofs.lemmas.Bool.{cases_lt}
use Rattle.std.proofs.lemmas.Grind.{common_steps}
use Rattle.std.proofs.lemmas.List.{map-append, take-append-le, drop-append-le, take_all, drop_all}
use Rattle.std.proofs.lemmas.List.Concat.{flat_map-cons}
use Rattle.link_model.specs.Sending.{frame_needs, pictures_of}
use Rattle.link_model.specs.SendingFaults.{SendFault, first_of_slices, first_slice_fault, first_sample_fault, send_fault}
use Rattle.link_model.specs.SendingPictures.{Need, chosen_index, chosen_indices, picture_needs, sent_parameters, slices_with_indices, wants_lengths}
use Rattle.vc_types.specs.Planes.{Planes}
use Rattle.vc_types.specs.SenderSettings.{Sending}
use Rattle.vc_types.specs.Subbands.{slice_count}
use Rattle.cmd_send.specs.FramesSent.{frame_fault, frame_indices}

map-flat_map : {A B : Type 0} (f : A → B) (g : Planes → List A) (xs : List Planes) → map f (flat_map g xs) ≡ flat_map (λ x. map f (g x)) xs
map-flat_map f g [] = refl
map-flat_map f g (x ∷ xs) = simp (flat_map-cons, map-append, map-flat_map f g xs)

-- all indices of a frame, by its needs
indices-needs : (s : Sending) (frame : Planes) → frame_indices s frame ≡ map (chosen_index s) (frame_needs s (wants_lengths s.choice) frame)
unfolding chosen_indices frame_needs
indices-needs s frame = sym (map-flat_map (chosen_index s) (picture_needs s (wants_lengths s.choice)) (pictures_of s frame))

module _ (s : Sending) (answers : Need → ℕ → Type 0) (as_chosen : (need : Need) (index : ℕ) → answers need index → index ≡ chosen_index s need) where
  chosen_all : (needs : List Need) (indices : List ℕ) → AllZip answers needs indices → indices ≡ map (chosen_index s) needs
  chosen_all [] [] all = refl
  chosen_all [] (index ∷ indices) all = absurd all
  chosen_all (need ∷ needs) [] all = absurd all
  chosen_all (need ∷ needs) (index ∷ indices) all =
      ap (λ (i : ℕ). i ∷ indices) (as_chosen need index all.0)
      ∙ ap (λ (l : List ℕ). chosen_index s need ∷ l) (chosen_all needs indices all.1)

  -- answers on all needs of a frame
  pub whole_indices : (frame : Planes) (indices : List ℕ) → AllZip answers (frame_needs s (wants_lengths s.choice) frame) indices → indices ≡ frame_indices s frame
  whole_indices frame indices all = chosen_all (frame_needs s (wants_lengths s.choice) frame) indices all ∙ sym (indices-needs s frame)

  -- answers on the first needs
  pub first_indices : (frame : Planes) (asked rest : List Need) (indices : List ℕ) → frame_needs s (wants_lengths s.choice) frame ≡ asked ++ rest → AllZip answers asked indices
      → frame_indices s frame ≡ indices ++ map (chosen_index s) rest
  first_indices frame asked rest indices are all =
      grind (arith, common_steps, indices-needs, map-append, chosen_all)

-- ---- the first fault, at the first indices alone

enumerate-append : (a : ℕ) (xs ys : List ℕ) → enumerate_from a (xs ++ ys) ≡ enumerate_from a xs ++ enumerate_from (a + length xs) ys
enumerate-append a [] ys = grind arith
enumerate-append a (x ∷ xs) ys = grind (arith, common_steps, enumerate-append (a + 1) xs ys)

first-front : (s : Sending) (planes : Planes) (xs ys : List (ℕ × ℕ)) (fault : SendFault) → first_of_slices s planes xs ≡ Some fault → first_of_slices s planes (xs ++ ys) ≡ Some fault
unfolding first_of_slices
first-front s planes [] ys fault found = absurd cc
first-front s planes (z ∷ xs) ys fault found = grind (arith, first-front s planes xs ys fault)

or-same : (a b c : Option SendFault) (fault : SendFault) → option_or a b ≡ Some fault → (b ≡ Some fault → c ≡ Some fault) → option_or a c ≡ Some fault
or-same None b c fault found more = more found
or-same (Some x) b c fault found more = found

or-none : (a : Option SendFault) → option_or a None ≡ a
or-none None = refl
or-none (Some x) = refl

no-slices : (s : Sending) (planes : Planes) → first_of_slices s planes (slices_with_indices (sent_parameters s) []) ≡ None
unfolding first_of_slices
no-slices s planes = ap (λ (l : List ℕ). first_of_slices s planes (enumerate_from 0 l)) (take_all (slice_count (sent_parameters s)) [] (omega arith))

no-indices : (s : Sending) (pictures : List Planes) → first_slice_fault s [] pictures ≡ None
unfolding first_slice_fault
no-indices s [] = refl
no-indices s (planes ∷ pictures) =
    ap (λ (a : Option SendFault). option_or a (first_slice_fault s (drop (slice_count (sent_parameters s)) []) pictures)) (no-slices s planes)
    ∙ ap (λ (l : List ℕ). first_slice_fault s l pictures) (drop_all (slice_count (sent_parameters s)) [] (omega arith))
    ∙ no-indices s pictures

module _ (s : Sending) (planes : Planes) (front more : List ℕ) (fault : SendFault) where
  abbrev n : ℕ
  n = slice_count (sent_parameters s)

  -- there are indices for all slices
  enough : n ≤ length front → first_of_slices s planes (slices_with_indices (sent_parameters s) (front ++ more)) ≡ first_of_slices s planes (slices_with_indices (sent_parameters s) front)
  enough h = ap (λ (l : List ℕ). first_of_slices s planes (enumerate_from 0 l)) (take-append-le n front more h)

  -- there are fewer
  fewer : length front < n → first_of_slices s planes (slices_with_indices (sent_parameters s) front) ≡ Some fault → first_of_slices s planes (slices_with_indices (sent_parameters s) (front ++ more)) ≡ Some fault
  fewer h found =
      let all : take n front ≡ front = take_all n front (omega arith) in
      let found_in_all : first_of_slices s planes (enumerate_from 0 front) ≡ Some fault = ap (λ (l : List ℕ). first_of_slices s planes (enumerate_from 0 l)) (sym all) ∙ found in
      let long : n ≡ length front + (n - length front) = omega arith in
      let taken : take n (front ++ more) ≡ front ++ take (n - length front) more = ap (λ (k : ℕ). take k (front ++ more)) long ∙ take-append-add front more (n - length front) in
      ap (λ (l : List ℕ). first_of_slices s planes (enumerate_from 0 l)) taken
      ∙ ap (first_of_slices s planes) (enumerate-append 0 front (take (n - length front) more))
      ∙ first-front s planes (enumerate_from 0 front) (enumerate_from (0 + length front) (take (n - length front) more)) fault found_in_all

pub fault-front : (s : Sending) (front more : List ℕ) (pictures : List Planes) (fault : SendFault) → first_slice_fault s front pictures ≡ Some fault → first_slice_fault s (front ++ more) pictures ≡ Some fault
unfolding first_slice_fault
fault-front s front more [] fault found = absurd cc
fault-front s front more (planes ∷ pictures) fault found = cases (cases_lt (length front) count) (fault-front s (drop count front) more pictures fault) where
  count : ℕ
  count = slice_count (sent_parameters s)

  first_with : List ℕ → Option SendFault
  first_with indices = first_of_slices s planes (slices_with_indices (sent_parameters s) indices)

  cases : (length front < count) ⊎ (count ≤ length front) → (first_slice_fault s (drop count front) pictures ≡ Some fault → first_slice_fault s (drop count front ++ more) pictures ≡ Some fault) → option_or (first_with (front ++ more)) (first_slice_fault s (drop count (front ++ more)) pictures) ≡ Some fault
  cases (inl h) behind =
      let none : first_slice_fault s (drop count front) pictures ≡ None = ap (λ (l : List ℕ). first_slice_fault s l pictures) (drop_all count front (omega arith)) ∙ no-indices s pictures in
      let first : first_with front ≡ Some fault = sym (ap (option_or (first_with front)) none ∙ or-none (first_with front)) ∙ found in
      ap (λ (a : Option SendFault). option_or a (first_slice_fault s (drop count (front ++ more)) pictures)) (fewer s planes front more fault h first)
  cases (inr h) behind =
      ap (λ (a : Option SendFault). option_or a (first_slice_fault s (drop count (front ++ more)) pictures)) (enough s planes front more fault h)
      ∙ ap (λ (l : List ℕ). option_or (first_with front) (first_slice_fault s l pictures)) (drop-append-le count front more h)
      ∙ or-same (first_with front) (first_slice_fault s (drop count front) pictures) (first_slice_fault s (drop count front ++ more) pictures) fault found behind

-- a frame's fault at the first indices is that at all of them
pub send_fault-front : (s : Sending) (front more : List ℕ) (frame : Planes) (fault : SendFault) → send_fault s front frame ≡ Some fault → send_fault s (front ++ more) frame ≡ Some fault
unfolding send_fault
send_fault-front s front more frame fault found =
    or-same (first_sample_fault s frame) (first_slice_fault s front (pictures_of s frame)) (first_slice_fault s (front ++ more) (pictures_of s frame)) fault found
    (fault-front s front more (pictures_of s frame) fault)

-- a frame is refused for the fault at the indices that are chosen of its first needs
pub refused_as_chosen : (s : Sending) (answers : Need → ℕ → Type 0) (as_chosen : (need : Need) (index : ℕ) → answers need index → index ≡ chosen_index s need)
    (frame : Planes) (asked rest : List Need) (indices : List ℕ) (fault : SendFault) → frame_needs s (wants_lengths s.choice) frame ≡ asked ++ rest → AllZip answers asked indices
    → send_fault s indices frame ≡ Some fault → frame_fault s frame ≡ Some fault
refused_as_chosen s answers as_chosen frame asked rest indices fault are all found =
    ap (λ (l : List ℕ). send_fault s l frame) (first_indices s answers as_chosen frame asked rest indices are all)
    ∙ send_fault-front s indices (map (chosen_index s) rest) frame fault found
