use Rattle.std.proofs.Common.{◌≡◌, ◌*◌, ◌^◌, ◌≤◌}
use Rattle.vc_types.specs.TransformParameters.{parameters_of}
use Rattle.vc_types.proofs.SliceRectangles.{coefficients_before}
use Rattle.vc_slice.proofs.bands.SliceParts.count.Given as goal

abbrev pub invariant-loop-b : goal.invariant-loop-b
invariant-loop-b l = record { sum : l.count ≡ coefficients_before (parameters_of l.self.plan) l.c l.self.slice l.b; bound : l.count ≤ l.b * 2 ^ 26 }
