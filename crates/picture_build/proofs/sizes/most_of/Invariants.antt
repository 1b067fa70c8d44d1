use Rattle.std.proofs.Common.{◌*◌, ◌^◌, ◌<◌, ◌≤◌, ℕ}
use Rattle.vc_types.specs.Subbands.{slice_count}
use Rattle.vc_types.specs.TransformParameters.{parameters_of}
use Rattle.vc_types.proofs.SliceRectangles.{coefficients_before}
use Rattle.picture_build.proofs.sizes.most_of.Given as goal

abbrev pub invariant-loop-b : goal.invariant-loop-b
invariant-loop-b l = record {
  most : (n : ℕ) → n < slice_count (parameters_of l.plan) → coefficients_before (parameters_of l.plan) l.c n l.b ≤ l.most;
  range : l.most ≤ l.b * 2 ^ 26;
}
