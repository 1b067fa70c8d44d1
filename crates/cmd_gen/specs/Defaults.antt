-- How generated frames are sent: everything but the frames themselves as a sender is set by
-- default; and the shape of the frames.
use Rattle.std.specs.Prelude.{false, List, None}
use Rattle.cmd_gen.specs.Generator.{generated_frames}
use Rattle.link_model.specs.SendingPictures.{sent_sequence}
use Rattle.vc_types.specs.declared.choice.IndexChoice.TheVariants.{Index}
use Rattle.vc_types.specs.declared.shape.Shape.{Shape}
use Rattle.vc_types.specs.Planes.{Planes}
use Rattle.vc_types.specs.SenderSettings.{Frames, Generating, Sending}
use Rattle.vc_types.specs.SequenceHeader.{picture_shape}
use Rattle.vc_types.specs.Settings.{default_across, default_down}

abbrev pub sent_by_default : Frames → Sending
sent_by_default f = record {
  frames = f;
  wavelet = 1;
  depth = 3;
  across = default_across f.width;
  down = default_down f.fields f.height;
  prefix = 0;
  scaler = 2;
  size = 1400;
  choice = Index 0;
  ssrc = 1;
  seq = 0;
  picture = 0;
  rate = record { ticks = 3600; frames = 1 };
  pt = 96;
  told = None;
}

-- a frame's planes have the sizes that a picture's would have with frame coding
abbrev pub shape_of_frames : Frames → Shape
shape_of_frames f = picture_shape (record (sent_sequence (sent_by_default f)) { fields = false })

-- all frames that are generated: the state starts as the seed
abbrev pub all_generated : Generating → List Planes
all_generated g = generated_frames (shape_of_frames g.frames) g.seed g.count
