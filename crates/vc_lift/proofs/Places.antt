-- The places of columns' cells, row by row.
use Rattle.std.proofs.Common.{◌≡◌, ℕ, ◌+◌, ◌-◌, ◌*◌, ◌<◌, ◌≤◌, ◌≢◌, List, length, set, ℤ, pos, arith, ◌⊎◌}
use Rattle.std.proofs.Common.{inl, inr, min, ap, ◌∙◌, unsigned_abs, le-mul_of_pos_right}
use mathlib.Core.Path.{fun_ext}
use Rattle.std.proofs.lemmas.Bool.{cases_eq}
use Rattle.std.proofs.lemmas.Bool.Decides.{nat_tests}
use Rattle.std.proofs.lemmas.List.{get_or-set_same, get_or-set_other}
use Rattle.std.proofs.lemmas.Nat.{mul-add-lt, same_from_place}
use Rattle.vc_types.specs.Lifting.{line_of, changed_by}
use Rattle.vc_lift.specs.CountedSteps.{CountedStep, change_at}
use Rattle.vc_lift.specs.Growth.{IsWithin}
use Rattle.vc_lift.specs.Columns.{column_of, with_sample, one_changed}

pub place_below : (half width k x : ℕ) → k < 2 * half → x < width → k * width + x < 2 * half * width
place_below half width k x h lt = omega (arith, mul-add-lt k width x (2 * half) h lt)

-- columns have no more samples each than all of them together
pub fewer : (half width x : ℕ) → x < width → 2 * half ≤ 2 * half * width
fewer half width x lt = le-mul_of_pos_right (2 * half) (omega arith)

-- inside a column a tap meets a sample that isn't held at an end
pub inside_place : (half width n back j x p : ℕ) → back ≤ n → n + j < half + back
    → (2 * (n - back) + (1 - p)) * width + x + 2 * j * width
    ≡ (2 * min (n + j - back) (half - 1) + (1 - p)) * width + x
inside_place half width n back j x p h lt = let inner : min (n + j - back) (half - 1) ≡ n - back + j =
    omega arith in rw inner (omega arith)

pub sample_same : (line : ℕ → ℤ) (k j : ℕ) (v : ℤ) → j ≡ k → with_sample line k v j ≡ v
unfolding with_sample
sample_same line k j v e = grind (arith, nat_tests)

pub sample_other : (line : ℕ → ℤ) (k j : ℕ) (v : ℤ) → j ≢ k → with_sample line k v j ≡ line j
unfolding with_sample
sample_other line k j v ne = grind (arith, nat_tests)

module _ (width : ℕ) (cells : List ℤ) (k x : ℕ) (v : ℤ) (lt : x < width) where
  set_at : k * width + x < length cells → (j : ℕ) → (j ≡ k) ⊎ (j ≢ k)
      → column_of width (set cells (k * width + x) v) x j ≡ with_sample (column_of width cells x) k v j
  set_at within j (inl e) =
      rw (sample_same (column_of width cells x) k j v e, e)
      (get_or-set_same cells (k * width + x) v (pos 0) within)
  set_at within j (inr ne) =
      rw (sample_other (column_of width cells x) k j v ne)
      (get_or-set_other cells (k * width + x) (j * width + x) v (pos 0)
      (λ e. ne (same_from_place j x k x width lt lt e).0))

  -- a cell that is written changes its own column there, and no other
  pub column_of-set_same : k * width + x < length cells
      → column_of width (set cells (k * width + x) v) x ≡ with_sample (column_of width cells x) k v
  column_of-set_same within = fun_ext (λ j. set_at within j (cases_eq j k))

  pub column_of-set_other : (i : ℕ) → i < width → i ≢ x
      → column_of width (set cells (k * width + x) v) i ≡ column_of width cells i
  column_of-set_other i h ne =
      fun_ext (λ j. get_or-set_other cells (k * width + x) (j * width + i) v (pos 0)
      (λ e. ne (same_from_place j i k x width h lt e).1))

module _ (half width n back j x p : ℕ) (some : n < half) (left : back ≤ n) (right : n + j < half + back) where
  pub inside_below : x < width → (2 * (n - back) + (1 - p)) * width + x + 2 * j * width < 2 * half * width
  inside_below lt = rw (inside_place half width n back j x p left right)
      (place_below half width (2 * min (n + j - back) (half - 1) + (1 - p)) x (omega arith) lt)

  pub inside_small : (cells : List ℤ) (b : ℕ) → IsWithin (column_of width cells x) half (1 - p) b
      → unsigned_abs (line_of cells ((2 * (n - back) + (1 - p)) * width + x + 2 * j * width)) ≤ b
  inside_small cells b w =
      rw (inside_place half width n back j x p left right)
      (w.within (min (n + j - back) (half - 1)) (omega arith))

-- a sample that is written as the step changes it
pub one_written : (s : CountedStep) (half n : ℕ) (f g : ℕ → ℤ) (v : ℤ) → f ≡ g
    → v ≡ changed_by s.adds (f (2 * n + s.parity)) (change_at s half f n)
    → with_sample f (2 * n + s.parity) v ≡ one_changed s half n g
one_written s half n f g v e d = ap (with_sample f (2 * n + s.parity)) d ∙ ap (λ h. one_changed s half n h) e

-- a line is one column
pub column_of-one : (cells : List ℤ) → column_of 1 cells 0 ≡ line_of cells
column_of-one cells = fun_ext (λ k. (let place : k * 1 + 0 ≡ k = omega arith in ap (line_of cells) place))
