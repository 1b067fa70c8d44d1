use Rattle.std.proofs.Common.{◌≡◌, ◌<◌, ◌^◌, ℕ, length, unsigned_abs}
use Rattle.vc_types.specs.TransformParameters.{parameters_of}
use Rattle.vc_types.proofs.SliceRectangles.{coefficients_before}
use Rattle.vc_slice.specs.Bands.{numbered_in}
use Rattle.picture_build.proofs.PlacedNumbers.{FirstStand, OthersStay}
use Rattle.picture_build.proofs.wide.put_wide_numbers.Given as goal

abbrev pub invariant-loop-b : goal.invariant-loop-b
invariant-loop-b l = record {
  from : l.from ≡ coefficients_before (parameters_of l.bands.parts.now.plan) l.c l.bands.parts.now.slice l.b;
  on : FirstStand l.bands.parts.now l.c (numbered_in l.bands l.c l.numbers) l.from l.cells;
  small : (i : ℕ) → i < l.from → unsigned_abs (numbered_in l.bands l.c l.numbers i) < 2 ^ 60;
  off : OthersStay l.bands.parts.now l.c l.initial.cells l.cells;
  length : length l.cells ≡ length l.initial.cells;
}
