-- The answers that a receiver keeps: one more, and those of a picture that goes.
use Rattle.std.proofs.Common.{◌≡◌, ℕ, zero, suc, ◌<◌, refl, sym}
use Rattle.std.proofs.Common.{List, [], ◌∷◌, length, Option, Some, None}
use Rattle.std.proofs.Common.{arith, cond}
use Rattle.std.specs.Prelude.{◌==◌, ◌&&◌, replicate, slice_set, unwrap_or}
use Rattle.std.proofs.lemmas.Bool.{cond-true, cond-false, ne_eqb, eq-eqb}
use Rattle.std.proofs.lemmas.List.{length-replicate, length-set}
use Rattle.link_model.specs.Books.{Gathered}
use Rattle.machine_model.specs.Places.{Answered}
use Rattle.vc_types.specs.Subbands.{slice_count}
use Rattle.vc_types.specs.TransformParameters.{Parameters}
use Rattle.vc_types.proofs.SameValues.{parameters_exactly}
use Rattle.receiver_model.specs.Receptions.{Decoding, PictureAnswers, answers_at, answer_at}
use Rattle.receiver_model.specs.Receptions.{kept_answer, no_answers, answers_with, keeps_answer}
use Rattle.receiver_model.specs.Receptions.{answers_without}
use Rattle.receiver_model.specs.Releasing.{own_answer_at}

abbrev Slots : Type 0
Slots = List (Option Decoding)

-- ---- slots

pub none_at : (count j : ℕ) → answer_at (replicate count None) j ≡ None
none_at zero j = refl
none_at (suc count) zero = refl
none_at (suc count) (suc j) = none_at count j

slot_with : (slices : Slots) (i j : ℕ) (d : Decoding) → i < length slices
    → answer_at (slice_set slices i (Some d)) j ≡ cond (i == j) (Some d) (answer_at slices j)
slot_with [] i j d below = absurd (omega (arith, below))
slot_with (x ∷ xs) zero zero d below =
    sym (cond-true (0 == 0) (Some d) x (eq-eqb 0 0 refl))
slot_with (x ∷ xs) zero (suc j) d below = grind arith
slot_with (x ∷ xs) (suc i) zero d below =
    sym (cond-false (suc i == 0) (Some d) x (ne_eqb (suc i) 0 (λ e. omega (arith, e))))
slot_with (x ∷ xs) (suc i) (suc j) d below = grind (arith, slot_with xs i j d (omega (arith, below)))

-- ---- one answer more

module _ (done : Answered) where
  abbrev its_number : ℕ
  its_number = done.job.number

  -- those of its picture, which are by its parameters, and have room for it
  abbrev pub answers_before : List PictureAnswers → PictureAnswers
  answers_before answers =
      unwrap_or (answers_at answers its_number) (no_answers its_number done.job.plan)

  abbrev pub slots_behind : PictureAnswers → Slots
  slots_behind a = slice_set a.slices done.job.index (Some done.answer)

  pub answers_by_same : (a : PictureAnswers) → a.parameters ≡ done.job.plan
      → answers_with a done ≡ record a { slices = slots_behind a }
  answers_by_same a same = grind (arith, parameters_exactly)

  here : (a : PictureAnswers) → a.number ≡ its_number → (rest : List PictureAnswers)
      → answers_at (answers_with a done ∷ rest) its_number ≡ Some (answers_with a done)
  here a is rest = grind arith

  pub keeps_own : (answers : List PictureAnswers)
      → answers_at (keeps_answer answers done) its_number
      ≡ Some (answers_with (answers_before answers) done)
  keeps_own [] = here (no_answers its_number done.job.plan) refl []
  keeps_own (a ∷ rest) = grind (arith, keeps_own rest)

  module _ (m : ℕ) (other : its_number ≡ m → ⊥) where
    not_here : (a : PictureAnswers) → a.number ≡ its_number → (rest : List PictureAnswers)
        → answers_at (answers_with a done ∷ rest) m ≡ answers_at rest m
    not_here a is rest = grind arith

    pub keeps_others : (answers : List PictureAnswers)
        → answers_at (keeps_answer answers done) m ≡ answers_at answers m
    keeps_others [] = not_here (no_answers its_number done.job.plan) refl []
    keeps_others (a ∷ rest) = grind (arith, keeps_others rest)

  -- where there is room for it, it is found
  pub keeps_found : (answers : List PictureAnswers)
      → (answers_before answers).parameters ≡ done.job.plan
      → done.job.index < length (answers_before answers).slices → (m j : ℕ)
      → kept_answer (keeps_answer answers done) m j
      ≡ cond (its_number == m && done.job.index == j) (Some done.answer) (kept_answer answers m j)
  keeps_found answers by_same room m j =
      grind (arith, keeps_others, none_at, keeps_own, answers_by_same, slot_with)

pub room_of_none : (n : ℕ) (p : Parameters) → length (no_answers n p).slices ≡ slice_count p
room_of_none n p = length-replicate (slice_count p) None

pub room_stays : (slices : Slots) (i : ℕ) (d : Decoding)
    → length (slice_set slices i (Some d)) ≡ length slices
room_stays slices i d = length-set slices i (Some d)

-- ---- without those of a picture

module _ (n : ℕ) where
  pub without_own : (answers : List PictureAnswers)
      → answers_at (answers_without answers n) n ≡ None
  without_own [] = refl
  without_own (a ∷ rest) = grind (arith, without_own rest)

  pub without_others : (m : ℕ) → (n ≡ m → ⊥) → (answers : List PictureAnswers)
      → answers_at (answers_without answers n) m ≡ answers_at answers m
  without_others m other [] = refl
  without_others m other (a ∷ rest) = grind (arith, without_others m other rest)

-- ---- answers by the picture's own parameters

-- they are among those that are kept
pub kept_where_own : (answers : List PictureAnswers) (n : ℕ) (g : Gathered) (k : ℕ) (d : Decoding)
    → own_answer_at answers n g k ≡ Some d → kept_answer answers n k ≡ Some d
kept_where_own answers n g k d = grind arith
