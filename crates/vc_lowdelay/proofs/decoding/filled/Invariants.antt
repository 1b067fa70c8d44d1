use Rattle.std.proofs.Common.{ℕ, ◌<◌}
use Rattle.vc_types.specs.TransformParameters.{parameters_of}
use Rattle.picture_build.proofs.FilledSlices.{FirstCame}
use Rattle.vc_lowdelay.specs.Grown.{IsSound, grown_slices}
use Rattle.vc_lowdelay.specs.LowDelay.{low_slices, slice_at}
use Rattle.vc_lowdelay.specs.OfPlan.{low_parameters_of}
use Rattle.vc_lowdelay.proofs.decoding.filled.Given as goal

abbrev pub invariant-loop-slice : goal.invariant-loop-slice
invariant-loop-slice l = record {
  came : FirstCame (parameters_of l.p.plan) (grown_slices (parameters_of l.p.plan) (low_slices (low_parameters_of l.p) l.bytes)) l.slice l.picture;
  sound : (n : ℕ) → n < l.slice → IsSound (parameters_of l.p.plan) n (slice_at (low_parameters_of l.p) l.bytes n);
}
