use Rattle.std.proofs.Common.{◌≡◌}
use Rattle.vc_types.specs.Rasters.{cell_at}
use Rattle.vc_types.specs.TransformParameters.{parameters_of}
use Rattle.picture_encode.proofs.WalkedSlices.{numbers_before}
use Rattle.picture_encode.proofs.gathering.gather_wide.Given as goal

abbrev pub invariant-loop-b : goal.invariant-loop-b
invariant-loop-b l = l.coeffs.items ≡ numbers_before (parameters_of l.parts.plan) l.c l.parts.slice (cell_at l.grid) l.b
