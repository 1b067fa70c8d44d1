use Rattle.std.proofs.Common.{◌≡◌, ◌*◌, ◌^◌, ◌≤◌}
use Rattle.vc_types.specs.TransformParameters.{parameters_of}
use Rattle.vc_types.proofs.SliceRectangles.{coefficients_before}
use Rattle.vc_geometry.proofs.slices.slice_len.Given as goal

abbrev pub invariant-loop-b : goal.invariant-loop-b
invariant-loop-b l = record { sum : l.len ≡ coefficients_before (parameters_of l.plan) l.c l.slice l.b; bound : l.len ≤ l.b * 2 ^ 26 }
