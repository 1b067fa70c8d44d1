use Rattle.std.proofs.Common.{ap, sym, ◌∙◌}
use Rattle.std.specs.Option.{option_map}
use Rattle.vc_types.specs.Planes.{planes_in}
use Rattle.vc_types.specs.RawFrames.{is_wide}
use Rattle.vc_types.specs.SequenceHeader.{sequence_of}
use Rattle.vc_types.specs.declared.shape.Shape.{Shape}
use Rattle.vc_types.proofs.PictureShapes.{picture_shape_fits}
use Rattle.link_pictures.proofs.Frames.{released_fits}
use Rattle.link_pictures.proofs.output.FrameOutput.release.Goals as goal

pub write_frame-requires : goal.write_frame-requires
write_frame-requires g c = λ narrow.
    let h = c.args.header.now in
    let fits = picture_shape_fits (sequence_of h) h.dimensions h.luma_excursion
    h.colour_excursion in
    let bytes = sym (ap (λ (shape : Shape). is_wide shape) c.shape.ensures) ∙ sym c.is_wide.ensures
    ∙ narrow in
    released_fits (sequence_of h) fits bytes c.args.self.now c.args.number c.args.planes
    c.in-Some.frame c.requires.waiting c.requires.planes
    (sym (ap (option_map planes_in) c.in-Some.is) ∙ c.in-Ok.ensures.frame)
