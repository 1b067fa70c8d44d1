-- A picture among others: where it stands, and what the list is without it and with one answer more.
use Rattle.std.proofs.Common.{◌≡◌, ℕ, zero, suc, ◌<◌, true, false, List, [], ◌∷◌, ◌++◌, length}
use Rattle.std.proofs.Common.{Some, None, refl, sym, ap, arith, cond, get_or, set}
use Rattle.std.specs.Prelude.{not, filter, position, ◌==◌}
use Rattle.std.specs.List.{remove, list_any}
use Rattle.std.proofs.lemmas.Grind.{common_steps}
use Rattle.std.proofs.lemmas.List.Quantifiers.{position-Some}
use Rattle.machine_model.specs.Places.{Answered}
use Rattle.machine_model.proofs.Positions.{position_none}
use Rattle.receiver_model.specs.Receptions.{PictureAnswers, answers_at, no_answers, answers_with}
use Rattle.receiver_model.specs.Receptions.{keeps_answer, answers_without}
use Rattle.link_pictures.specs.SeenAnswers.{is_of_number}

module _ (n : ℕ) where
  -- the first picture of this number stands at this place
  pub record StandsAt (pictures : List PictureAnswers) (place : ℕ) (d : PictureAnswers) : Type 0 where
    pub within : place < length pictures
    pub here : is_of_number n (get_or pictures place d) ≡ true
    pub before : (k : ℕ) → k < place → is_of_number n (get_or pictures k d) ≡ false

  pub stands : (pictures : List PictureAnswers) (place : ℕ) (d : PictureAnswers)
      → position (is_of_number n) pictures ≡ Some place → StandsAt pictures place d
  stands pictures place d is =
      grind (arith, common_steps, position-Some (is_of_number n) pictures place d is)

  behind : (a : PictureAnswers) (rest : List PictureAnswers) (place : ℕ) (d : PictureAnswers)
      → StandsAt (a ∷ rest) (suc place) d → StandsAt rest place d
  behind a rest place d at = record {
    within = omega (arith, at.within);
    here = at.here;
    before = λ k h. at.before (suc k) (omega (arith, h));
  }

  first_other : (a : PictureAnswers) (rest : List PictureAnswers) (place : ℕ) (d : PictureAnswers)
      → StandsAt (a ∷ rest) (suc place) d → is_of_number n a ≡ false
  first_other a rest place d at = at.before 0 (omega arith)

  -- ---- looking up, and leaving out

  pub found_there : (pictures : List PictureAnswers) (place : ℕ) (d : PictureAnswers)
      → StandsAt pictures place d → answers_at pictures n ≡ Some (get_or pictures place d)
  found_there [] place d at = absurd (omega (arith, at.within))
  found_there (a ∷ rest) zero d at = ap (λ b. cond b (Some a) (answers_at rest n)) at.here
  found_there (a ∷ rest) (suc place) d at =
      grind (arith, first_other, found_there rest place d (behind a rest place d at))

  abbrev others_of : List PictureAnswers → List PictureAnswers
  others_of pictures = filter (λ a. not (is_of_number n a)) pictures

  pub removed : (pictures : List PictureAnswers) (place : ℕ) (d : PictureAnswers)
      → StandsAt pictures place d → others_of (remove pictures place) ≡ answers_without pictures n
  removed [] place d at = absurd (omega (arith, at.within))
  removed (a ∷ rest) zero d at =
      sym (ap (λ b. cond (not b) (a ∷ others_of rest) (others_of rest)) at.here)
  removed (a ∷ rest) (suc place) d at = grind (arith, removed rest place d (behind a rest place d at))

  -- ---- one answer more

  module _ (done : Answered) (same : done.job.number ≡ n) where
    by_number : (a : PictureAnswers) → (a.number == done.job.number) ≡ is_of_number n a
    by_number a = ap (λ k. a.number == k) same

    pub keeps_there : (pictures : List PictureAnswers) (place : ℕ) (d : PictureAnswers)
        → StandsAt pictures place d
        → set pictures place (answers_with (get_or pictures place d) done)
        ≡ keeps_answer pictures done
    keeps_there [] place d at = absurd (omega (arith, at.within))
    keeps_there (a ∷ rest) zero d at = grind (arith, by_number)
    keeps_there (a ∷ rest) (suc place) d at =
        grind (arith, first_other, keeps_there rest place d (behind a rest place d at))

  -- ---- no picture of this number

  nowhere : (pictures : List PictureAnswers) → position (is_of_number n) pictures ≡ None
      → list_any (is_of_number n) pictures ≡ false
  nowhere pictures none = position_none (is_of_number n) pictures none

  not_found : (pictures : List PictureAnswers) → list_any (is_of_number n) pictures ≡ false
      → answers_at pictures n ≡ None
  not_found [] e = refl
  not_found (a ∷ rest) e = grind (arith, not_found rest)

  none_left_out : (pictures : List PictureAnswers) → list_any (is_of_number n) pictures ≡ false
      → pictures ≡ answers_without pictures n
  none_left_out [] e = refl
  none_left_out (a ∷ rest) e = grind (arith, none_left_out rest)

  one_more : (done : Answered) → done.job.number ≡ n → (pictures : List PictureAnswers)
      → list_any (is_of_number n) pictures ≡ false
      → pictures ++ answers_with (no_answers done.job.number done.job.plan) done ∷ []
      ≡ keeps_answer pictures done
  one_more done same [] e = refl
  one_more done same (a ∷ rest) e = grind (arith, one_more done same rest)

  module _ (pictures : List PictureAnswers)
      (none : position (is_of_number n) pictures ≡ None) where
    pub not_there : answers_at pictures n ≡ None
    not_there = not_found pictures (nowhere pictures none)

    pub left_as_it_is : pictures ≡ answers_without pictures n
    left_as_it_is = none_left_out pictures (nowhere pictures none)

    pub keeps_first : (done : Answered) → done.job.number ≡ n
        → pictures ++ answers_with (no_answers done.job.number done.job.plan) done ∷ []
        ≡ keeps_answer pictures done
    keeps_first done same = one_more done same pictures (nowhere pictures none)
