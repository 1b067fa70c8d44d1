-- Of a rectangle of a grid those rows that lie in some rows of it are filled, one after another.
use Rattle.std.proofs.Common.{◌≡◌, ◌≢◌, ℕ, ◌+◌, ◌-◌, ◌*◌, ◌/◌, ◌%◌, ◌<◌, ◌≤◌, List, ℤ, arith, ap, ◌∙◌, ◌⊎◌, inl, inr}
use Rattle.std.proofs.Math.Nat.{mul-le-mul_right}
use Rattle.std.proofs.lemmas.Bool.{cases_lt, cases_eq}
use Rattle.std.proofs.lemmas.Nat.{mul-add-lt, div-mul-add, mod-mul-add, mod_below, div_below}
use Rattle.vc_types.specs.declared.rect.Rect.{Rect}
use Rattle.vc_geometry.specs.declared.cell_rect.CellRect.{CellRect}
use Rattle.vc_types.specs.Lifting.{line_of}
use Rattle.vc_types.specs.Subbands.{area, place_in}
use Rattle.vc_geometry.specs.CellRects.{cell_in, cell_number}

module _ (to : CellRect) (top count from : ℕ) (coeffs : ℕ → ℤ) where
  abbrev r : Rect
  r = to.rect

  abbrev stride : ℕ
  stride = to.stride

  -- the rows before one that are there have their coefficients
  abbrev pub RowsBefore : ℕ → List ℤ → Type 0
  RowsBefore end cells = (x row at : ℕ) → x < r.width → r.y + row ≡ top + at → r.y + row < end → line_of cells (at * stride + (r.x + x)) ≡ coeffs (from + (row * r.width + x))

  -- and cells outside of the rectangle are as before
  abbrev pub OthersStay : List ℤ → List ℤ → Type 0
  OthersStay old new = (m : ℕ) → ((j : ℕ) → j < area r → top * stride + m ≢ cell_in to j) → line_of new m ≡ line_of old m

  number_at : (row x : ℕ) → x < r.width → cell_number stride (place_in r (row * r.width + x)) ≡ (r.y + row) * stride + (r.x + x)
  number_at row x h =
      ap (λ n. (r.y + n) * stride + (r.x + (row * r.width + x) % r.width)) (div-mul-add row r.width x h)
      ∙ ap (λ n. (r.y + row) * stride + (r.x + n)) (mod-mul-add row r.width x h)

  -- a row more, which is row `own` of the rectangle and row `there` of those that are there
  module _ (y own there : ℕ) (is_own : r.y + own ≡ y) (is_there : top + there ≡ y) (below : own < r.height) (old new : List ℤ)
      (on : (x : ℕ) → x < r.width → line_of new (there * stride + r.x + x) ≡ coeffs (from + own * r.width + x))
      (off : (k : ℕ) → (k < there * stride + r.x) ⊎ (there * stride + r.x + r.width ≤ k) → line_of new k ≡ line_of old k) where
    pub row_more : RowsBefore y old → RowsBefore (y + 1) new
    row_more before x row at h same lt = elim (cases_eq (r.y + row) y) [
      | inl e ↦ (
          let row_is : row ≡ own = omega (arith, e, is_own) in
          let at_is : at ≡ there = omega (arith, e, same, is_there) in
          let place : at * stride + (r.x + x) ≡ there * stride + r.x + x = (let turned = ap (λ n. n * stride) at_is in omega (arith, turned)) in
          let number : from + own * r.width + x ≡ from + (row * r.width + x) = (let turned = ap (λ n. n * r.width) row_is in omega (arith, turned)) in
          ap (line_of new) place ∙ on x h ∙ ap coeffs number)
      | inr ne ↦ (
          let earlier : r.y + row < y = omega (arith, lt, ne) in
          let above = mul-add-lt at stride (r.x + x) there (omega (arith, same, is_there, earlier)) (omega (arith, to.across, h)) in
          off (at * stride + (r.x + x)) (inl (omega (arith, above))) ∙ before x row at h same earlier)
    ]

    pub others_more : (first : List ℤ) → OthersStay first old → OthersStay first new
    others_more first before m none = off m (apart (cases_lt m (there * stride + r.x)) (cases_lt m (there * stride + r.x + r.width))) ∙ before m none
      where
        apart : (m < there * stride + r.x) ⊎ (there * stride + r.x ≤ m) → (m < there * stride + r.x + r.width) ⊎ (there * stride + r.x + r.width ≤ m) → (m < there * stride + r.x) ⊎ (there * stride + r.x + r.width ≤ m)
        apart (inl before) second = inl before
        apart (inr past) (inr after) = inr after
        apart (inr past) (inl within) =
            let x = m - (there * stride + r.x) in
            let column : x < r.width = omega (arith, within, past) in
            let here = number_at own x column in
            let whole : (r.y + own) * stride ≡ (top + there) * stride = ap (λ n. n * stride) (omega (arith, is_own, is_there)) in
            absurd (none (own * r.width + x) (mul-add-lt own r.width x r.height below column) (omega (arith, here, whole, past)))

  -- all rows that are there are filled
  pub rows_all : (end : ℕ) (cells : List ℤ) → ((row at : ℕ) → row < r.height → r.y + row ≡ top + at → at < count → r.y + row < end) → RowsBefore end cells
      → (j m : ℕ) → j < area r → m < count * stride → top * stride + m ≡ cell_in to j → line_of cells m ≡ coeffs (from + j)
  rows_all end cells last rows j m h within is =
      let turned : j < r.height * r.width = omega (arith, h) in
      let some : 0 < r.width = some_columns (cases_lt 0 r.width) in
      let row = j / r.width in
      let x = j % r.width in
      let column : x < r.width = mod_below j r.width some in
      let low : row < r.height = div_below j r.width r.height some turned in
      let whole : row * r.width + x ≡ j = omega arith in
      let across : r.x + x < stride = omega (arith, to.across, column) in
      let under = under_top row x across is (cases_lt (r.y + row) top) in
      let at = r.y + row - top in
      let same : r.y + row ≡ top + at = omega (arith, under) in
      let spread : (r.y + row) * stride ≡ (top + at) * stride = ap (λ n. n * stride) same in
      let place : m ≡ at * stride + (r.x + x) = omega (arith, is, spread) in
      let inside = above_end at x place (cases_lt at count) in
      ap (line_of cells) place ∙ rows x row at column same (last row at low same inside) ∙ ap (λ n. coeffs (from + n)) whole
    where
      some_columns : (0 < r.width) ⊎ (r.width ≤ 0) → 0 < r.width
      some_columns (inl some) = some
      some_columns (inr none) = (let empty : r.width ≡ 0 = omega arith in absurd (omega (arith, ap (λ n. n * r.height) empty)))

      under_top : (row x : ℕ) → r.x + x < stride → top * stride + m ≡ (r.y + row) * stride + (r.x + x) → (r.y + row < top) ⊎ (top ≤ r.y + row) → top ≤ r.y + row
      under_top row x across is (inr under) = under
      under_top row x across is (inl above) = (let less = mul-add-lt (r.y + row) stride (r.x + x) top above across in absurd (omega (arith, less, is)))

      above_end : (at x : ℕ) → m ≡ at * stride + (r.x + x) → (at < count) ⊎ (count ≤ at) → at < count
      above_end at x place (inl inside) = inside
      above_end at x place (inr past) = (let more = mul-le-mul_right stride past in absurd (omega (arith, more, place, within)))
