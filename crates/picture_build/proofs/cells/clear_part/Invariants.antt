use Rattle.std.proofs.Common.{◌≡◌, length, pos}
use Rattle.vc_types.specs.TransformParameters.{parameters_of}
use Rattle.vc_types.proofs.SliceRectangles.{coefficients_before}
use Rattle.picture_build.proofs.PlacedNumbers.{FirstStand, OthersStay}
use Rattle.picture_build.proofs.cells.clear_part.Given as goal

abbrev pub invariant-loop-b : goal.invariant-loop-b
invariant-loop-b l = record {
  on : FirstStand l.parts l.c (λ i. pos 0) (coefficients_before (parameters_of l.parts.plan) l.c l.parts.slice l.b) l.cells;
  off : OthersStay l.parts l.c l.initial.cells l.cells;
  length : length l.cells ≡ length l.initial.cells;
}
