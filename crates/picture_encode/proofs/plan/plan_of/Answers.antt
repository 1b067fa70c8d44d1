use Rattle.std.proofs.Common.{subst, sym}
use Rattle.std.specs.Prelude.{IsTrue}
use Rattle.vc_types.specs.Limits.{shape_fits}
use Rattle.vc_types.specs.SequenceHeader.{sequence_of}
use Rattle.vc_types.specs.declared.shape.Shape.{Shape}
use Rattle.vc_types.proofs.PictureShapes.{picture_shape_fits}
use Rattle.picture_encode.proofs.plan.plan_of.Goals as goal

pub plan_with-requires-clause-fits : goal.plan_with-requires-clause-fits
plan_with-requires-clause-fits c =
    let h = c.header_of.result in
    subst (λ (s : Shape). IsTrue (shape_fits s)) (sym c.shape.ensures) (picture_shape_fits (sequence_of h) h.dimensions h.luma_excursion h.colour_excursion)
