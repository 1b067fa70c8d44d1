use Rattle.vc_types.specs.declared.video.Component.TheVariants.{Y, C1, C2}
use Rattle.vc_types.specs.TransformParameters.{parameters_of}
use Rattle.vc_lowdelay.specs.LowDelay.{low_slices}
use Rattle.vc_lowdelay.specs.OfPlan.{low_parameters_of}
use Rattle.vc_lowdelay.proofs.PlacedValues.{FirstPlaced, values_of}
use Rattle.vc_lowdelay.proofs.lowest.grown_bands.Given as goal

abbrev pub invariant-loop-slice : goal.invariant-loop-slice
invariant-loop-slice l = record {
  y : FirstPlaced (parameters_of l.p.plan) Y (values_of (low_slices (low_parameters_of l.p) l.bytes) Y) l.slice l.bands.y;
  c1 : FirstPlaced (parameters_of l.p.plan) C1 (values_of (low_slices (low_parameters_of l.p) l.bytes) C1) l.slice l.bands.c1;
  c2 : FirstPlaced (parameters_of l.p.plan) C2 (values_of (low_slices (low_parameters_of l.p) l.bytes) C2) l.slice l.bands.c2;
}
