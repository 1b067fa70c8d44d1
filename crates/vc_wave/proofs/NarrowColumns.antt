-- Columns that are synthesised or analysed in place.
use Rattle.std.proofs.Common.{rules, ◌≡◌, ◌≢◌, ℕ, suc, ◌+◌, ◌*◌, ◌/◌, ◌%◌, ◌^◌, ◌<◌, ◌≤◌, List, ℤ, arith, ap}
use Rattle.std.proofs.Common.{sym, subst, ◌∙◌}
use mathlib.Core.Path.{fun_ext}
use Rattle.std.proofs.Math.Nat.{mul-le-mul_right}
use Rattle.vc_types.specs.Lifting.{Line, line_of}
use Rattle.vc_types.specs.Transforms.{on_columns}
use Rattle.vc_lift.specs.declared.halves.Halves.{Halves}
use Rattle.vc_lift.specs.Halves.{halves_place, line_in, AreLines, AreMade, StandApart}
use Rattle.vc_lift.specs.CountedSteps.{CountedStep}
use Rattle.vc_lift.specs.Ranges.{StaysNarrow, bound_after}
use Rattle.vc_wave.specs.NarrowBounds.{HasBound}
use Rattle.vc_wave.specs.Planes.{plane_of}
use Rattle.vc_wave.proofs.PlaneLines.{LeavesPast}
use Rattle.vc_wave.proofs.PlaneSteps.{columns_none, columns_more}
use Rattle.vc_wave.proofs.Weaving.{parity_start}

abbrev pub column_halves : ℕ → ℕ → Halves
column_halves pitch half = record { even = 0; odd = pitch; pitch = 2 * pitch; half = half }

column_place : (pitch half k : ℕ) → halves_place (column_halves pitch half) k ≡ k * pitch
column_place pitch half k =
    let first = parity_start pitch (k % 2) (omega arith) in
    let parts : (k % 2 + 2 * (k / 2)) * pitch ≡ k * pitch = ap (λ n. n * pitch) (omega arith) in
    omega (arith, first, parts)

rows_apart : (pitch width j k : ℕ) → width ≤ pitch → j ≢ k → StandApart width (j * pitch) (k * pitch)
rows_apart pitch width j k wide ne = search (rules, mul-le-mul_right)

pub column_lines : (pitch width half len : ℕ) → 0 < half → half < 2 ^ 60 → width ≤ pitch
    → 2 * half * pitch ≤ len → AreLines (column_halves pitch half) width len
column_lines pitch width half len some small wide inside = record {
  some = some;
  small = small;
  inside = λ k h. (let place = column_place pitch half k in
      let above : suc k * pitch ≤ 2 * half * pitch = mul-le-mul_right pitch h in omega (arith, place, above));
  apart = λ j k h lt ne.
      subst (λ i. StandApart width i (halves_place (column_halves pitch half) k))
      (sym (column_place pitch half j))
      (subst (λ i. StandApart width (j * pitch) i) (sym (column_place pitch half k))
      (rows_apart pitch width j k wide ne));
}

pub column_narrow : (steps : List CountedStep) (pitch half : ℕ) (cells : List ℤ) (x : ℕ)
    → HasBound (λ m. bound_after (2 ^ 31) steps m m) cells
    → StaysNarrow steps half (line_in (column_halves pitch half) cells x)
column_narrow steps pitch half cells x bound = grind arith

module _ (make : Line → Line) (pitch columns half : ℕ) (past : LeavesPast (2 * half) make) (old new : List ℤ)
    (wide : columns ≤ pitch) (made : AreMade make (column_halves pitch half) columns old new) where
  place : (x k : ℕ) → halves_place (column_halves pitch half) k + x ≡ 0 + k * pitch + x
  place x k = (let row = column_place pitch half k in omega (arith, row))

  pub columns_made : plane_of pitch new ≡ on_columns make columns (plane_of pitch old)
  columns_made =
      let all : 0 + columns ≡ columns = omega arith in
      columns_more make pitch 0 columns (2 * half) (plane_of pitch old) old (omega arith)
      (columns_none make (plane_of pitch old)) new past
      (λ x k h lt. ap (line_of new) (sym (place x k)) ∙ made.on x k h lt
      ∙ ap (λ l. make l k) (fun_ext (λ j. ap (line_of old) (place x j))))
      (λ i none. made.off i (λ x k h lt e. none x k h lt (e ∙ place x k)))
      ∙ ap (λ n. on_columns make n (plane_of pitch old)) all
