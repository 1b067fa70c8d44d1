use Rattle.std.proofs.Common.{ap, ◌∙◌}
use Rattle.vc_types.specs.TransformParameters.{parameters_of}
use Rattle.picture_build.specs.Kept.{all_slices}
use Rattle.picture_build.proofs.FilledSlices.{filled_has_all, filled_planes}
use Rattle.picture_build.proofs.building.build_joined.Goals as goal

pub planes_joined-requires : goal.planes_joined-requires
planes_joined-requires g c = record { whole = filled_has_all (parameters_of c.args.plan.now) c.args.slices.items c.requires.count c.in_ok-builder.builder (c.in_ok-builder.ensures ∙ ap (all_slices (parameters_of c.args.plan.now)) c.deref.ensures.value) }

pub returns : goal.returns
returns g c = record { value = filled_planes (parameters_of c.args.plan.now) c.args.slices.items c.in_ok-builder.builder (c.in_ok-builder.ensures ∙ ap (all_slices (parameters_of c.args.plan.now)) c.deref.ensures.value) c.planes_joined.result c.planes_joined.ensures.value }
