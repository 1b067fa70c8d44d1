-- Frames that are read have the sizes of the settings, and a frame has some bytes.
use Rattle.std.proofs.Common.{◌≡◌, ℕ, List, Option, sym, ap, ◌∙◌, subst, arith}
use Rattle.std.proofs.lemmas.Grind.{common_steps}
use Rattle.cmd_send.specs.FramesSent.{frame_shape}
use Rattle.frame_writer.specs.FrameBytes.{frame_of_bytes}
use Rattle.frame_writer.specs.Reading.{GaveFrame}
use Rattle.link_model.specs.SendingPictures.{IsFrame, sent_sequence}
use Rattle.vc_types.specs.declared.shape.Shape.{Shape}
use Rattle.vc_types.specs.Planes.{Planes}
use Rattle.vc_types.specs.SenderSettings.{Sending}
use Rattle.vc_types.specs.SequenceHeader.{picture_shape}

of_bytes : (s : Sending) (bytes : List ℕ) → IsFrame s (frame_of_bytes (frame_shape s) bytes)
unfolding frame_of_bytes picture_shape sent_sequence
of_bytes s bytes = grind (arith, common_steps)

pub sized : (s : Sending) (shape : Shape) (frame : Planes) (before after : Option (List ℕ)) → shape ≡ frame_shape s → GaveFrame shape before after frame → IsFrame s frame
sized s shape frame before after is gave = subst (IsFrame s) (sym (gave.frame_is ∙ ap (λ (sh : Shape). frame_of_bytes sh gave.bytes) is)) (of_bytes s gave.bytes)
