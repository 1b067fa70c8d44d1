use Rattle.std.proofs.Common.{◌∙◌, ap, subst, sym, false}
use Rattle.std.specs.Prelude.{IsTrue}
use Rattle.vc_types.specs.Limits.{shape_fits}
use Rattle.vc_types.specs.SequenceHeader.{Sequence, picture_shape, sequence_of}
use Rattle.vc_types.specs.declared.shape.Shape.{Shape}
use Rattle.vc_types.proofs.PictureShapes.{picture_shape_fits}
use Rattle.cmd_send.proofs.shape.frame_shape.Goals as goal

pub returns-clause-value : goal.returns-clause-value
returns-clause-value c =
    c.shape.ensures
    ∙ ap picture_shape (c.progressive.ensures ∙ ap (λ (h : Sequence). record h { fields = false }) c.header_of.ensures.value)

pub returns-clause-fits : goal.returns-clause-fits
returns-clause-fits c =
    let h = c.progressive.result in
    subst (λ (s : Shape). IsTrue (shape_fits s)) (sym c.shape.ensures) (picture_shape_fits (sequence_of h) h.dimensions h.luma_excursion h.colour_excursion)
