-- The cells of rectangles that are taken one after another: a cell that one of them has once has one number.
use Rattle.std.proofs.Common.{◌≡◌, ℕ, ◌+◌, ◌-◌, ◌<◌, Bool, true, false, cond, List, [], ◌∷◌, arith, refl, ap, sym, ◌∙◌, inl, inr}
use Rattle.std.specs.Prelude.{count_by}
use Rattle.std.specs.List.{sum_by}
use Rattle.std.proofs.lemmas.Bool.{cases_lt, true≢false}
use Rattle.std.proofs.lemmas.List.Sums.{sum_by-cons}
use Rattle.vc_types.specs.declared.rect.Rect.{Rect}
use Rattle.vc_types.specs.Subbands.{area, place_among}
use Rattle.vc_types.proofs.RectangleCells.{has_cell, has_cell-inside, number_in, number_in-below, place_in-number, number_in-only, place_in-has_cell}
use Rattle.vc_types.proofs.SliceRectangles.{place_among-first, place_among-rest}

-- the cell in column x and row y has one number, and no other
pub record HasNumber (rs : List Rect) (x y : ℕ) : Type 0 where
  pub number : ℕ
  pub below : number < sum_by area rs
  pub place : place_among rs number ≡ (x, y)
  pub only : (j : ℕ) → j < sum_by area rs → place_among rs j ≡ (x, y) → j ≡ number

pub count-cons : (x y : ℕ) (r : Rect) (rs : List Rect) (b : Bool) → has_cell x y r ≡ b → count_by (has_cell x y) (r ∷ rs) ≡ cond b 1 0 + count_by (has_cell x y) rs
count-cons x y r rs b e = sum_by-cons (λ q. cond (has_cell x y q) 1 0) r rs ∙ ap (λ t. cond t 1 0 + count_by (has_cell x y) rs) e

pub none_numbered : (rs : List Rect) (x y : ℕ) → count_by (has_cell x y) rs ≡ 0 → (j : ℕ) → j < sum_by area rs → place_among rs j ≡ (x, y) → ⊥
none_numbered [] x y e j h at = omega arith
none_numbered (r ∷ rs) x y e j h at = elim (cases_lt j (area r)) [
  | inl lt ↦ (let has = place_in-has_cell r j x y lt (sym (place_among-first r rs j lt) ∙ at) in
      let c = count-cons x y r rs true has in omega (arith, c))
  | inr ge ↦ none_numbered rs x y (let c = sum_by-cons (λ q. cond (has_cell x y q) 1 0) r rs in omega (arith, c)) (j - area r) (let t = sum_by-cons area r rs in omega (arith, t)) (sym (place_among-rest r rs j ge) ∙ at)
]

module _ (r : Rect) (rs : List Rect) (x y : ℕ) where
  total : sum_by area (r ∷ rs) ≡ area r + sum_by area rs
  total = sum_by-cons area r rs

  here : has_cell x y r ≡ true → count_by (has_cell x y) (r ∷ rs) ≡ 1 → HasNumber (r ∷ rs) x y
  here has e =
      let w = has_cell-inside x y r has in
      let below = number_in-below r x y w in
      let c = count-cons x y r rs true has in
      record {
        number = number_in r x y;
        below = omega (arith, below, total);
        place = place_among-first r rs (number_in r x y) below ∙ place_in-number r x y w;
        only = λ j h at. elim (cases_lt j (area r)) [
          | inl lt ↦ number_in-only r x y w j (sym (place_among-first r rs j lt) ∙ at)
          | inr ge ↦ absurd (none_numbered rs x y (omega (arith, c)) (j - area r) (omega (arith, total)) (sym (place_among-rest r rs j ge) ∙ at))
        ];
      }

  there : has_cell x y r ≡ false → HasNumber rs x y → HasNumber (r ∷ rs) x y
  there lacks u =
      let back : area r + u.number - area r ≡ u.number = omega arith in
      record {
        number = area r + u.number;
        below = omega (arith, u.below, total);
        place = place_among-rest r rs (area r + u.number) (omega arith) ∙ ap (place_among rs) back ∙ u.place;
        only = λ j h at. elim (cases_lt j (area r)) [
          | inl lt ↦ absurd (true≢false (sym (place_in-has_cell r j x y lt (sym (place_among-first r rs j lt) ∙ at)) ∙ lacks))
          | inr ge ↦ (let i = u.only (j - area r) (omega (arith, total)) (sym (place_among-rest r rs j ge) ∙ at) in omega (arith, i))
        ];
      }

numbered_by : (r : Rect) (rs : List Rect) (x y : ℕ) (b : Bool) → has_cell x y r ≡ b → count_by (has_cell x y) (r ∷ rs) ≡ 1 → (count_by (has_cell x y) rs ≡ 1 → HasNumber rs x y) → HasNumber (r ∷ rs) x y
numbered_by r rs x y true has e next = here r rs x y has e
numbered_by r rs x y false lacks e next = there r rs x y lacks (next (let c = count-cons x y r rs false lacks in omega (arith, c)))

pub numbered_once : (rs : List Rect) (x y : ℕ) → count_by (has_cell x y) rs ≡ 1 → HasNumber rs x y
numbered_once [] x y e = absurd (omega arith)
numbered_once (r ∷ rs) x y e = numbered_by r rs x y (has_cell x y r) refl e (numbered_once rs x y)
