use Rattle.std.proofs.Common.{◌≡◌, length}
use Rattle.vc_types.specs.Lifting.{line_of}
use Rattle.vc_types.specs.TransformParameters.{parameters_of}
use Rattle.vc_types.proofs.SliceRectangles.{coefficients_before}
use Rattle.picture_build.proofs.PlacedNumbers.{FirstStand, OthersStay}
use Rattle.picture_build.proofs.filling.place_numbers.Given as goal

abbrev pub invariant-loop-b : goal.invariant-loop-b
invariant-loop-b l = record {
  from : l.from ≡ coefficients_before (parameters_of l.parts.plan) l.c l.parts.slice l.b;
  on : FirstStand l.parts l.c (line_of l.numbers) l.from l.cells;
  off : OthersStay l.parts l.c l.initial.cells l.cells;
  length : length l.cells ≡ length l.initial.cells;
}
