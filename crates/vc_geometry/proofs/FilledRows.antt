-- A rectangle of a grid that is filled row by row.
use Rattle.std.proofs.Common.{◌≡◌, ℕ, ◌+◌, ◌-◌, ◌*◌, ◌/◌, ◌%◌, ◌<◌, ◌≤◌, List, ℤ, arith, ap, ◌∙◌, ◌⊎◌, inl, inr}
use Rattle.std.proofs.lemmas.Bool.{cases_lt, cases_eq}
use Rattle.std.proofs.lemmas.Nat.{mul-add-lt, div-mul-add, mod-mul-add, mod_below, div_below}
use Rattle.vc_types.specs.declared.rect.Rect.{Rect}
use Rattle.vc_geometry.specs.declared.cell_rect.CellRect.{CellRect}
use Rattle.vc_types.specs.Lifting.{line_of}
use Rattle.vc_types.specs.Subbands.{area, place_in}
use Rattle.vc_geometry.specs.CellRects.{ChangesRect, cell_in, cell_number}

module _ (to : CellRect) (from : ℕ) (coeffs : ℕ → ℤ) where
  abbrev r : Rect
  r = to.rect

  abbrev stride : ℕ
  stride = to.stride

  -- the first rows have their coefficients
  abbrev pub FirstRows : ℕ → List ℤ → Type 0
  FirstRows row cells = (x y : ℕ) → x < r.width → y < row → line_of cells ((r.y + y) * stride + (r.x + x)) ≡ coeffs (from + (y * r.width + x))

  number_at : (row x : ℕ) → x < r.width → cell_number stride (place_in r (row * r.width + x)) ≡ (r.y + row) * stride + (r.x + x)
  number_at row x h =
      ap (λ n. (r.y + n) * stride + (r.x + (row * r.width + x) % r.width)) (div-mul-add row r.width x h)
      ∙ ap (λ n. (r.y + row) * stride + (r.x + n)) (mod-mul-add row r.width x h)

  module _ (row : ℕ) (below : row < r.height) (old new : List ℤ)
      (on : (x : ℕ) → x < r.width → line_of new ((r.y + row) * stride + r.x + x) ≡ coeffs (from + row * r.width + x))
      (off : (k : ℕ) → (k < (r.y + row) * stride + r.x) ⊎ ((r.y + row) * stride + r.x + r.width ≤ k) → line_of new k ≡ line_of old k) where
    pub rows_more : FirstRows row old → FirstRows (row + 1) new
    rows_more before x y h lt = elim (cases_eq y row) [
      | inl e ↦ rw e (
          let place : (r.y + row) * stride + (r.x + x) ≡ (r.y + row) * stride + r.x + x = omega arith in
          let number : from + row * r.width + x ≡ from + (row * r.width + x) = omega arith in
          ap (line_of new) place ∙ on x h ∙ ap coeffs number)
      | inr ne ↦ (
          let earlier : y < row = omega arith in
          let above = mul-add-lt (r.y + y) stride (r.x + x) (r.y + row) (omega arith) (omega (arith, to.across)) in
          off ((r.y + y) * stride + (r.x + x)) (inl (omega (arith, above))) ∙ before x y h earlier)
    ]

    pub others_more : (first : List ℤ) → ChangesRect to first old → ChangesRect to first new
    others_more first before k none = off k (apart (cases_lt k ((r.y + row) * stride + r.x)) (cases_lt k ((r.y + row) * stride + r.x + r.width))) ∙ before k none
      where
        apart : (k < (r.y + row) * stride + r.x) ⊎ ((r.y + row) * stride + r.x ≤ k) → (k < (r.y + row) * stride + r.x + r.width) ⊎ ((r.y + row) * stride + r.x + r.width ≤ k) → (k < (r.y + row) * stride + r.x) ⊎ ((r.y + row) * stride + r.x + r.width ≤ k)
        apart (inl before) second = inl before
        apart (inr past) (inr after) = inr after
        apart (inr past) (inl within) =
            let x = k - ((r.y + row) * stride + r.x) in
            let column : x < r.width = omega arith in
            let here = number_at row x column in
            absurd (none (row * r.width + x) (mul-add-lt row r.width x r.height below column) (omega (arith, here)))

  pub rows_all : (cells : List ℤ) → FirstRows r.height cells → (j : ℕ) → j < area r → line_of cells (cell_in to j) ≡ coeffs (from + j)
  rows_all cells rows j h =
      let turned : j < r.height * r.width = omega arith in
      let some : 0 < r.width = some_columns (cases_lt 0 r.width) in
      let whole : j / r.width * r.width + j % r.width ≡ j = omega arith in
      rows (j % r.width) (j / r.width) (mod_below j r.width some) (div_below j r.width r.height some turned) ∙ ap (λ n. coeffs (from + n)) whole
    where
      some_columns : (0 < r.width) ⊎ (r.width ≤ 0) → 0 < r.width
      some_columns (inl some) = some
      some_columns (inr none) = (let empty : r.width ≡ 0 = omega arith in absurd (omega (arith, ap (λ n. n * r.height) empty)))
