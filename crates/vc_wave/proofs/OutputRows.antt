-- Rows of samples that are put out: two samples more, one row more.
use Rattle.std.proofs.Common.{◌≡◌, ℕ, ◌+◌, ◌*◌, ◌/◌, ◌%◌, ◌<◌, ◌≤◌, ◌⊎◌, inl, inr, List, length, set, ℤ}
use Rattle.std.proofs.Common.{arith, ap, sym, ◌∙◌, slice_index_or, Option, ◌-◌, ◌++◌}
use Rattle.std.proofs.Math.Nat.{mul-le-mul_right}
use Rattle.std.proofs.Math.Seq.{get_or-append_right}
use Rattle.std.proofs.lemmas.Bool.{cases_eq, cases_lt}
use Rattle.std.proofs.lemmas.List.{get_or-set_same, get_or-set_other, get_or_append_left}
use Rattle.std.proofs.lemmas.Nat.{mul-add-lt}
use Rattle.vc_types.specs.Lifting.{Line, line_of}
use Rattle.vc_wave.specs.NarrowBounds.{HasBound, RowHasBound}
use Rattle.vc_wave.specs.Planes.{plane_of}
use Rattle.vc_wave.specs.Remade.{half_place}
use Rattle.vc_wave.proofs.PlaneLines.{ReadsBelow}
use Rattle.vc_wave.proofs.PlaneSteps.{plane_in}

-- ---- a row whose samples are woven in pairs

module _ (at start half width : ℕ) (f : ℤ → ℕ) (cells : List ℤ) (samples : List ℕ)
    (even : (i : ℕ) → i < width / 2 → slice_index_or samples (at + 2 * i) 0 ≡ f (line_of cells (start + i)))
    (odd : (i : ℕ) → i < width / 2
    → slice_index_or samples (at + (2 * i + 1)) 0 ≡ f (line_of cells (start + (half + i)))) where
  -- all but the last of an odd number
  pub row_whole : (k : ℕ) → k < 2 * (width / 2)
      → slice_index_or samples (at + k) 0 ≡ f (line_of cells (start + half_place half k))
  row_whole k h = grind arith

  -- and the last of them
  pub row_odd : (v : ℕ) → width % 2 ≡ 1 → at + width ≤ length samples
      → v ≡ f (line_of cells (start + width / 2)) → (k : ℕ) → k < width
      → slice_index_or (set samples (at + 2 * (width / 2)) v) (at + k) 0
      ≡ f (line_of cells (start + half_place half k))
  row_odd v one fits is k h = grind (arith, get_or-set_same, get_or-set_other, row_whole)

-- ---- one row more that is put out, where the rows at hand are left as they were until they are put together

module _ {A : Type 0} (none : A) (g : ℤ → A) (f : Line → Line) (pitch width columns from to y : ℕ)
    (reads : ReadsBelow width f) (narrow : columns ≤ width) (wide : width ≤ pitch) (first cells : List ℤ)
    (old new : List A) (left : (i : ℕ) → (from + y) * pitch ≤ i → line_of cells i ≡ line_of first i)
    (on : (k : ℕ) → k < columns
    → slice_index_or new ((to + y) * columns + k) none ≡ g (f (λ j. line_of cells ((from + y) * pitch + j)) k))
    (off : (i : ℕ) → (i < (to + y) * columns) ⊎ ((to + y) * columns + columns ≤ i)
    → slice_index_or new i none ≡ slice_index_or old i none) where
  pub rows_put : ((x t : ℕ) → x < columns → t < y
      → slice_index_or old ((to + t) * columns + x) none ≡ g (f (λ k. plane_of pitch first k (from + t)) x))
      → (x t : ℕ) → x < columns → t < y + 1
      → slice_index_or new ((to + t) * columns + x) none ≡ g (f (λ k. plane_of pitch first k (from + t)) x)
  rows_put before x t h lt = elim (cases_eq t y) [
    | inl e ↦ rw e (on x h
        ∙ ap g
        (reads (λ j. line_of cells ((from + y) * pitch + j)) (λ k. plane_of pitch first k (from + y))
        (λ k under. left ((from + y) * pitch + k) (omega arith)
        ∙ sym (plane_in pitch first k (from + y) (omega arith))) x (omega arith)))
    | inr ne ↦ (
        let earlier : t < y = omega arith in
        let above = mul-add-lt (to + t) columns x (to + y) (omega arith) h in
        off ((to + t) * columns + x) (inl (omega (arith, above))) ∙ before x t h earlier)
  ]

  -- the rows above them are as they were
  pub rows_above : (start : List A)
      → ((i : ℕ) → i < to * columns → slice_index_or old i none ≡ slice_index_or start i none) → (i : ℕ)
      → i < to * columns → slice_index_or new i none ≡ slice_index_or start i none
  rows_above start before i h =
      let above : to * columns ≤ (to + y) * columns = mul-le-mul_right columns (omega arith) in
      off i (inl (omega (arith, above))) ∙ before i h

-- a bound on all cells bounds a row that is still as it was
pub left_bound : (carry : ℕ → Option ℕ) (start width : ℕ) (first cells : List ℤ)
    → ((i : ℕ) → start ≤ i → line_of cells i ≡ line_of first i) → HasBound carry first
    → RowHasBound carry cells start width
left_bound carry start width first cells left bound = record {
  most = bound.most;
  after = bound.after;
  small = λ k h. rw (left (start + k) (omega arith)) (bound.small (start + k));
  fits = bound.fits;
}

-- ---- a plane whose upper rows and lower rows are made apart

pub halves_joined : {A : Type 0} (none : A) (columns pairs rows : ℕ) (top bottom : List A) (value : ℕ → ℕ → A)
    → length top ≡ 2 * pairs * columns
    → ((x y : ℕ) → x < columns → y < 2 * pairs
    → slice_index_or top (y * columns + x) none ≡ value x (2 * 0 + y))
    → ((x y : ℕ) → x < columns → y < rows - 2 * pairs
    → slice_index_or bottom (y * columns + x) none ≡ value x (2 * pairs + y)) → (x y : ℕ) → x < columns → y < rows
    → slice_index_or (top ++ bottom) (y * columns + x) none ≡ value x y
halves_joined none columns pairs rows top bottom value long upper lower x y a b = elim (cases_lt y (2 * pairs)) [
  | inl above ↦ (
      let place = mul-add-lt y columns x (2 * pairs) above a in
      let same : 2 * 0 + y ≡ y = omega arith in
      get_or_append_left top bottom none (y * columns + x) (omega (arith, place, long)) ∙ upper x y a above
      ∙ ap (value x) same)
  | inr below ↦ (
      let past : 2 * pairs * columns ≤ y * columns = mul-le-mul_right columns below in
      let row : (y - 2 * pairs + 2 * pairs) * columns ≡ y * columns =
      ap (λ n. n * columns) (let whole : y - 2 * pairs + 2 * pairs ≡ y = omega arith in whole) in
      let place : y * columns + x - length top ≡ (y - 2 * pairs) * columns + x = omega (arith, past, row, long) in
      let same : 2 * pairs + (y - 2 * pairs) ≡ y = omega arith in
      get_or-append_right top bottom (y * columns + x) none (omega (arith, past, long))
      ∙ ap (λ n. slice_index_or bottom n none) place ∙ lower x (y - 2 * pairs) a (omega arith) ∙ ap (value x) same)
]

pub lower_rows : (rows pairs columns lower : ℕ) → lower + 2 * pairs * columns ≡ rows * columns → 2 * pairs ≤ rows
    → lower ≡ (rows - 2 * pairs) * columns
lower_rows rows pairs columns lower whole less =
    let all : rows - 2 * pairs + 2 * pairs ≡ rows = omega arith in
    let split : (rows - 2 * pairs + 2 * pairs) * columns ≡ rows * columns = ap (λ n. n * columns) all in
    omega (arith, split, whole)
