use Rattle.vc_types.specs.TransformParameters.{parameters_of}
use Rattle.picture_build.proofs.FilledSlices.{FirstCame}
use Rattle.picture_build.proofs.building.filled.Given as goal

abbrev pub invariant-loop-slice : goal.invariant-loop-slice
invariant-loop-slice l = FirstCame (parameters_of l.plan) l.slices l.slice l.builder
