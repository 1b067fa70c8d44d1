use Rattle.std.proofs.Common.{◌≡◌, ◌*◌, ◌^◌, ◌≤◌}
use Rattle.vc_types.specs.TransformParameters.{parameters_of}
use Rattle.vc_geometry.proofs.RunWalk.{run_before}
use Rattle.vc_slice.proofs.run_parts.RunParts.coefficients.Given as goal

abbrev pub invariant-loop-b : goal.invariant-loop-b
invariant-loop-b l = record { sum : l.count ≡ run_before (parameters_of l.self.plan) l.c l.self.first l.self.count l.b; bound : l.count ≤ l.b * 2 ^ 26 }
