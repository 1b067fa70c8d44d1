use Rattle.std.proofs.Common.{◌≡◌, subst}
use Rattle.std.specs.Prelude.{IfSome}
use Rattle.vc_types.specs.Subbands.{padded_width}
use Rattle.vc_types.specs.TransformParameters.{parameters_of}
use Rattle.vc_types.specs.Transforms.{inverse_transform}
use Rattle.vc_types.proofs.SliceCounts.{some_across, some_down}
use Rattle.vc_wave.specs.Planes.{plane_of}
use Rattle.picture_build.specs.Output.{output_plane}
use Rattle.picture_build.proofs.NarrowPlanes.{plane_made}
use Rattle.picture_build.proofs.finishing.wide_component.Goals as goal

pub returns-in-Some : goal.returns-in-Some
returns-in-Some c =
    let plan = c.args.plan.now in
    let p = parameters_of plan in
    let made = subst (λ o. IfSome o (λ plane. plane ≡ output_plane p c.args.c (inverse_transform p c.args.c (plane_of (padded_width p c.args.c) c.args.cells.now)))) c.in-Some.is c.in_ok-plane.ensures in
    record {
      value = plane_made p c.args.c (some_across plan.slices_x plan.slices_y plan.slices) (some_down plan.slices_x plan.slices_y plan.slices) c.args.cells.now c.in-Some.plane made;
    }
