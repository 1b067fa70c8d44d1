use Rattle.std.proofs.Common.{sym, subst, rules}
use Rattle.vc_types.specs.Planes.{planes_in}
use Rattle.vc_types.specs.TransformParameters.{parameters_of}
use Rattle.picture_encode.specs.Shapes.{IsPlane}
use Rattle.picture_encode.proofs.Transformed.{narrow_has}
use Rattle.picture_encode.proofs.transform.component_joined.Goals as goal

pub narrow_joined-requires : goal.narrow_joined-requires
narrow_joined-requires g c = record {
  symmetric = c.requires.symmetric;
  is_plane = subst (IsPlane (parameters_of c.args.plan.now) c.args.c) (sym c.plane_in-plane.ensures)
      (c.requires.each c.args.c);
  narrow = search rules;
}

pub returns-in_ok-narrow_joined : goal.returns-in_ok-narrow_joined
returns-in_ok-narrow_joined g c =
    narrow_has (parameters_of c.args.plan.now) c.args.c (planes_in c.args.planes.now)
    c.plane_in-plane.result.now c.plane_in-plane.ensures c.in_ok-narrow_joined.field-0 c.in_ok-narrow_joined.ensures
