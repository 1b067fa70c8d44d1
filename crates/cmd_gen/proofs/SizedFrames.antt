-- Generated frames have the sizes of the settings.
use Rattle.std.proofs.Common.{ℕ, refl}
use Rattle.cmd_gen.specs.Defaults.{sent_by_default, shape_of_frames}
use Rattle.cmd_gen.specs.Generator.{generated_frame}
use Rattle.link_model.specs.SendingPictures.{IsFrame, sent_sequence}
use Rattle.vc_types.specs.SenderSettings.{Frames}
use Rattle.vc_types.specs.SequenceHeader.{picture_shape}

pub is_frame : (f : Frames) (z : ℕ)
    → IsFrame (sent_by_default f) (generated_frame (shape_of_frames f) z)
unfolding generated_frame picture_shape sent_sequence
is_frame f z = record {
  y = record { width = refl; height = refl };
  c1 = record { width = refl; height = refl };
  c2 = record { width = refl; height = refl };
}
