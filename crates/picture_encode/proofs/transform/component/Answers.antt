use Rattle.std.proofs.Common.{sym, subst, rules}
use Rattle.vc_types.specs.Planes.{planes_in}
use Rattle.vc_types.specs.TransformParameters.{parameters_of}
use Rattle.picture_encode.specs.Shapes.{IsPlane}
use Rattle.picture_encode.proofs.Transformed.{narrow_has}
use Rattle.picture_encode.proofs.transform.component.Goals as goal

pub narrow-requires : goal.narrow-requires
narrow-requires c = record {
  symmetric = c.requires.symmetric;
  is_plane = subst (IsPlane (parameters_of c.args.plan.now) c.args.c) (sym c.plane_in-plane.ensures)
      (c.requires.each c.args.c);
  narrow = search rules;
}

pub returns-in_ok-narrow : goal.returns-in_ok-narrow
returns-in_ok-narrow c =
    narrow_has (parameters_of c.args.plan.now) c.args.c (planes_in c.args.planes.now)
    c.plane_in-plane.result.now c.plane_in-plane.ensures c.in_ok-narrow.field-0 c.in_ok-narrow.ensures
