use Rattle.std.proofs.Common.{◌≤◌, subst, sym}
use Rattle.std.specs.Prelude.{IsTrue}
use Rattle.vc_types.specs.Limits.{shape_fits}
use Rattle.vc_types.specs.SequenceHeader.{sequence_of}
use Rattle.vc_types.specs.declared.shape.Shape.{Shape}
use Rattle.vc_types.proofs.PictureShapes.{picture_shape_fits, luma_sides}
use Rattle.vc_params.proofs.limits.picture_shape.Goals as goal

pub returns-clause-fits : goal.returns-clause-fits
returns-clause-fits c = subst (λ (s : Shape). IsTrue (shape_fits s)) (sym c.shape.ensures) (picture_shape_fits (sequence_of c.args.h.now) c.args.h.now.dimensions c.args.h.now.luma_excursion c.args.h.now.colour_excursion)

pub returns-clause-width : goal.returns-clause-width
returns-clause-width c = subst (λ (s : Shape). s.luma_width ≤ 8192) (sym c.shape.ensures) (luma_sides (sequence_of c.args.h.now) c.args.h.now.dimensions).0.most

pub returns-clause-height : goal.returns-clause-height
returns-clause-height c = subst (λ (s : Shape). s.luma_height ≤ 8192) (sym c.shape.ensures) (luma_sides (sequence_of c.args.h.now) c.args.h.now.dimensions).1.most
