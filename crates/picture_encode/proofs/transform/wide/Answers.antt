use Rattle.std.proofs.Common.{sym, subst}
use Rattle.vc_types.specs.Planes.{planes_in}
use Rattle.vc_types.specs.TransformParameters.{parameters_of}
use Rattle.picture_encode.specs.Shapes.{IsPlane}
use Rattle.picture_encode.proofs.Transformed.{wide_has}
use Rattle.picture_encode.proofs.transform.wide.Goals as goal

-- the plane is that component's
own : (c : goal.After-plane_in) → IsPlane (parameters_of c.args.plan.now) c.args.c c.plane_in.result.now
own c = subst (IsPlane (parameters_of c.args.plan.now) c.args.c) (sym c.plane_in.ensures) (c.requires.each c.args.c)

pub forward-requires-clause-width : goal.forward-requires-clause-width
forward-requires-clause-width c = (own c).width

pub forward-requires-clause-height : goal.forward-requires-clause-height
forward-requires-clause-height c = (own c).height

pub forward-requires-clause-samples : goal.forward-requires-clause-samples
forward-requires-clause-samples c = (own c).samples

pub returns : goal.returns
returns c =
    let e = c.in_ok-grid.ensures in
    wide_has (parameters_of c.args.plan.now) c.args.c (planes_in c.args.planes.now) c.plane_in.result.now
    c.plane_in.ensures c.in_ok-grid.grid e.width e.height e.value e.small
