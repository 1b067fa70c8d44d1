use Rattle.std.proofs.Common.{ap, sym, subst, ◌∙◌}
use Rattle.frame_writer.specs.Samples.{HaveByteSamples}
use Rattle.cmd_gen.proofs.ByteSamples.{byte_samples}
use Rattle.cmd_gen.specs.Defaults.{shape_of_frames}
use Rattle.vc_types.specs.RawFrames.{is_wide}
use Rattle.vc_types.specs.SenderSettings.{generating_view}
use Rattle.cmd_gen.proofs.generating.put_frame.Goals as goal

pub write_frame-requires : goal.write_frame-requires
write_frame-requires g c = λ narrow.
    let shape = shape_of_frames (generating_view c.args.g.now).frames in
    subst HaveByteSamples (sym c.in_ok-frame.ensures.frame) (byte_samples shape c.args.state (sym (c.is_wide.ensures ∙ ap is_wide c.frame_shape.ensures.value) ∙ narrow))
