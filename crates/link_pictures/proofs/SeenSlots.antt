-- The answers to a picture's slices: none at first, and then one more each time.
use Rattle.std.proofs.Common.{◌≡◌, ◌≢◌, ℕ, ◌<◌, ◌≤◌, true, List, Option, Some, None, Ok, Err, refl}
use Rattle.std.proofs.Common.{sym, ap, ◌∙◌, inl, inr, slice_set, length-set, replicate, arith}
use Rattle.std.specs.Prelude.{map, slice_get, slice_index_or, unwrap_or, is_some, ◌||◌}
use Rattle.std.specs.List.{range_with_len}
use Rattle.std.specs.Option.{option_and_then}
use Rattle.std.proofs.lemmas.Bool.{cases_eq}
use Rattle.std.proofs.lemmas.List.{ext_get_or, get_or_past, get_or-replicate, length-replicate}
use Rattle.std.proofs.lemmas.List.{get_or-set_same, get_or-set_other}
use Rattle.std.proofs.lemmas.List.FromFn.{length-map-range_with_len, get_or-map-range_with_len}
use Rattle.std.proofs.lemmas.Option.{unwrap_or-slice_get}
use Rattle.machine_model.specs.Places.{Answered}
use Rattle.receiver_model.specs.Receptions.{Decoding, PictureAnswers, answer_at, no_answers}
use Rattle.receiver_model.specs.Receptions.{answers_with}
use Rattle.picture_build.specs.Kept.{PartPicture, no_slices, slice_that_came, with_slice}
use Rattle.link_pictures.specs.SeenAnswers.{answer_by, part_answer, part_answers, seen_answers}
use Rattle.link_pictures.specs.SeenAnswers.{HasEntries}
use Rattle.vc_types.specs.SameValues.{same_parameters}
use Rattle.vc_types.specs.Slices.{Coefficients}
use Rattle.vc_types.specs.Subbands.{slice_count}
use Rattle.vc_types.specs.TransformParameters.{Parameters}
use Rattle.vc_types.specs.declared.refusal.Unsound.{Unsound}

-- ---- answers in a list

flat : {X : Type 0} (o : Option (Option X)) → option_and_then (λ x. x) o ≡ unwrap_or o None
flat None = refl
flat (Some x) = refl

pub at_or : (slices : List (Option Decoding)) (i : ℕ)
    → answer_at slices i ≡ slice_index_or slices i None
at_or slices i = flat (slice_get slices i) ∙ unwrap_or-slice_get slices i None

-- ---- a slice's answer

by_came : (o : Option Coefficients) (why : Option Unsound)
    → answer_by o why ≡ None → (o ≡ None) × (why ≡ None)
by_came o why e = grind arith

module _ (part : PartPicture) (unsound : List (Option Unsound)) where
  -- neither sound nor unsound
  pub unanswered : (i : ℕ) → part_answer part unsound i ≡ None
      → (slice_that_came part i ≡ None) × (slice_index_or unsound i None ≡ None)
  unfolding part_answer
  unanswered i e = by_came (slice_that_came part i) (slice_index_or unsound i None) e

  pub answer_none : (i : ℕ) → slice_that_came part i ≡ None → slice_index_or unsound i None ≡ None
      → part_answer part unsound i ≡ None
  unfolding part_answer
  answer_none i came why = rw (came, why) refl

  pub answer_sound : (i : ℕ) (s : Coefficients) → slice_that_came part i ≡ Some s
      → part_answer part unsound i ≡ Some (Ok s)
  unfolding part_answer
  answer_sound i s came = rw came refl

  pub answer_unsound : (i : ℕ) (why : Unsound) → slice_that_came part i ≡ None
      → slice_index_or unsound i None ≡ Some why → part_answer part unsound i ≡ Some (Err why)
  unfolding part_answer
  answer_unsound i why came is = rw (came, is) refl

  -- whether there is one
  pub answer_some : (i : ℕ) → is_some (part_answer part unsound i)
      ≡ (is_some (slice_that_came part i) || is_some (slice_index_or unsound i None))
  unfolding part_answer
  answer_some i = grind arith

  module _ (has : HasEntries part unsound) where
    past : (i : ℕ) → slice_count part.parameters ≤ i → part_answer part unsound i ≡ None
    past i ge = grind (arith, answer_none, get_or_past)

    -- what is seen of it
    pub seen_at : (n i : ℕ)
        → answer_at (seen_answers n part unsound).slices i ≡ part_answer part unsound i
    seen_at n i =
        grind (
          arith,
          at_or,
          get_or-map-range_with_len,
          get_or_past,
          length-map-range_with_len,
          past,
        )

    module _ (n i : ℕ) (a : PictureAnswers) (view : seen_answers n part unsound ≡ a) where
      seen_there : answer_at a.slices i ≡ part_answer part unsound i
      seen_there = sym (ap (λ (b : PictureAnswers). answer_at b.slices i) view) ∙ seen_at n i

      pub part_seen : part_answer part unsound i ≡ answer_at a.slices i
      part_seen = sym seen_there

      pub has_seen : is_some (answer_at a.slices i)
          ≡ (is_some (slice_that_came part i) || is_some (slice_index_or unsound i None))
      has_seen = ap is_some seen_there ∙ answer_some i

      pub still_none : answer_at a.slices i ≡ None → part_answer part unsound i ≡ None
      still_none once = sym seen_there ∙ once

-- ---- none at first

pub seen_none : (n : ℕ) (p : Parameters) (part : PartPicture) (unsound : List (Option Unsound))
    → part ≡ no_slices p → unsound ≡ replicate (slice_count p) None
    → seen_answers n part unsound ≡ no_answers n p
seen_none n p part unsound is none =
    ap (λ (q : PartPicture). seen_answers n q unsound) is
    ∙ ap (λ (slices : List (Option Decoding)). let a : PictureAnswers =
    record { number = n; parameters = p; slices = slices } in a) nothing
  where
    at : (i : ℕ) → i < slice_count p → part_answer (no_slices p) unsound i ≡ None
    at i lt = answer_none (no_slices p) unsound i (get_or-replicate (slice_count p) i None None lt)
        (ap (λ (l : List (Option Unsound)). slice_index_or l i None) none
        ∙ get_or-replicate (slice_count p) i None None lt)

    nothing : part_answers (no_slices p) unsound ≡ replicate (slice_count p) None
    nothing =
        let f = part_answer (no_slices p) unsound in
        let long = length-map-range_with_len f 0 (slice_count p) in
        ext_get_or None (part_answers (no_slices p) unsound) (replicate (slice_count p) None)
        (long ∙ sym (length-replicate (slice_count p) None))
        (λ i h. (let lt : i < slice_count p = omega (arith, long) in
        get_or-map-range_with_len f 0 (slice_count p) i i None lt (omega arith) ∙ at i lt
        ∙ sym (get_or-replicate (slice_count p) i None None lt)))

pub entries_none : (p : Parameters) (part : PartPicture) (unsound : List (Option Unsound))
    → part ≡ no_slices p → unsound ≡ replicate (slice_count p) None → HasEntries part unsound
entries_none p part unsound is none = grind (arith, length-replicate)

-- ---- one more

pub other_sound : (part : PartPicture) (unsound : List (Option Unsound)) (i k : ℕ) (s : Coefficients)
    → k ≢ i → part_answer (with_slice part i s) unsound k ≡ part_answer part unsound k
unfolding part_answer
other_sound part unsound i k s ne = grind (arith, get_or-set_other)

other_unsound : (part : PartPicture) (unsound : List (Option Unsound)) (i k : ℕ) (why : Unsound)
    → k ≢ i → part_answer part (slice_set unsound i (Some why)) k ≡ part_answer part unsound k
unfolding part_answer
other_unsound part unsound i k why ne = ap (answer_by (slice_that_came part k))
    (get_or-set_other unsound i k (Some why) None ne)

one_changed : (f g : ℕ → Option Decoding) (count i : ℕ) (answer : Option Decoding) → g i ≡ answer
    → ((k : ℕ) → k ≢ i → g k ≡ f k)
    → map g (range_with_len 0 count) ≡ slice_set (map f (range_with_len 0 count)) i answer
one_changed f g count i answer here others =
    let old = map f (range_with_len 0 count) in
    let long = length-map-range_with_len f 0 count in
    let more = length-map-range_with_len g 0 count in
    let same = length-set old i answer in
    ext_get_or None (map g (range_with_len 0 count)) (slice_set old i answer)
    (more ∙ sym (same ∙ long))
    (λ k h. (let lt : k < count = omega (arith, more) in
    get_or-map-range_with_len g 0 count k k None lt (omega arith) ∙ elim (cases_eq k i) [
      | inl e ↦ rw e (here ∙ sym (get_or-set_same old i answer None (omega (arith, long, lt, e))))
      | inr ne ↦ others k ne
          ∙ sym (get_or-set_other old i k answer None ne
          ∙ get_or-map-range_with_len f 0 count k k None lt (omega arith))
    ]))

module _ (n : ℕ) (part : PartPicture) (unsound : List (Option Unsound))
    (has : HasEntries part unsound) (i : ℕ) (lt : i < slice_count part.parameters)
    (once : part_answer part unsound i ≡ None) where
  abbrev answered_there : Decoding → PictureAnswers
  answered_there answer = record (seen_answers n part unsound) {
    slices = slice_set (part_answers part unsound) i (Some answer);
  }

  more_sound : (s : Coefficients)
      → seen_answers n (with_slice part i s) unsound ≡ answered_there (Ok s)
  more_sound s = ap (λ (slices : List (Option Decoding)). let a : PictureAnswers =
      record { number = n; parameters = part.parameters; slices = slices } in a)
      (one_changed (part_answer part unsound) (part_answer (with_slice part i s) unsound)
      (slice_count part.parameters) i (Some (Ok s))
      (answer_sound (with_slice part i s) unsound i s
      (get_or-set_same part.slices i (Some s) None (omega (arith, has.sound_entries))))
      (λ k ne. other_sound part unsound i k s ne))

  more_unsound : (why : Unsound)
      → seen_answers n part (slice_set unsound i (Some why)) ≡ answered_there (Err why)
  more_unsound why =
      grind (arith, answer_unsound, get_or-set_same, one_changed, other_unsound, unanswered)

  module _ (a : PictureAnswers) (view : seen_answers n part unsound ≡ a) (done : Answered)
      (here : done.job.index ≡ i) (same : same_parameters part.parameters done.job.plan ≡ true) where
    kept : answered_there done.answer ≡ answers_with a done
    kept = grind arith

    pub kept_sound : (s : Coefficients) → done.answer ≡ Ok s
        → seen_answers n (with_slice part i s) unsound ≡ answers_with a done
    kept_sound s is = more_sound s ∙ ap answered_there (sym is) ∙ kept

    pub kept_unsound : (why : Unsound) → done.answer ≡ Err why
        → seen_answers n part (slice_set unsound i (Some why)) ≡ answers_with a done
    kept_unsound why is = more_unsound why ∙ ap answered_there (sym is) ∙ kept
