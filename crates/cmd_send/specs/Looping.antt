-- What a loop over the frames of a source knows.
use Rattle.std.specs.Prelude.{◌+◌, ℕ, List, [], length, Option, Result}
use Rattle.link_outside.specs.declared.outlet.OutletFault.{OutletFault}
use Rattle.frame_writer.specs.WholeFrames.{HoldFrames}
use Rattle.cmd_send.specs.FramesSent.{AreSendable, frame_indices, frame_shape, frames_sent}
use Rattle.cmd_send.specs.Sends.{SendEnded}
use Rattle.link_model.specs.Sending.{frame_datagrams, frames_indices, last_datagram}
use Rattle.link_model.specs.SendingFaults.{SendFault, SampleRange}
use Rattle.link_model.specs.SendingFaults as faults
use Rattle.link_report.specs.declared.ending.Ending.{Ending}
use Rattle.link_report.specs.declared.ending.Ending.TheVariants.{SampleTooLarge, SliceTooLarge}
use Rattle.link_report.specs.declared.summary.Summary.{Summary}
use Rattle.vc_ports.specs.Changes.{InputChange, Took}
use Rattle.vc_ports.specs.Reading.{Gave}
use Rattle.vc_types.specs.Planes.{Planes}
use Rattle.vc_types.specs.SenderSettings.{Sending}

-- the datagrams of a frame behind these
abbrev pub next_sent : Sending → List Planes → Planes → List (List ℕ)
next_sent s frames frame =
    frame_datagrams s (length frames) (s.seq + length (frames_sent s frames))
    (frame_indices s frame) frame

-- the end of the sequence behind these
abbrev pub end_sent : Sending → List Planes → List ℕ
end_sent s frames = last_datagram s (frames_indices s frames) frames

-- the source gave the bytes of these frames, and their datagrams went out
pub record HasSent
    (s : Sending) (frames : List Planes) (before after : Option (List ℕ))
    (went : List (List ℕ) → Type 0)
    : Type 0 where
  pub given : List ℕ
  pub gave : Gave before after given
  pub holds : HoldFrames (frame_shape s) given frames []
  pub sendable : AreSendable s frames
  pub sent : went (frames_sent s frames)

-- the frames ended in this way, whatever the causes
pub record StopsSending
    (s : Sending) (most : ℕ) (answer : Result Summary Ending) (input : InputChange)
    (went : List (List ℕ) → Type 0) (broke : List (List ℕ) → OutletFault → Type 0)
    : Type 0 where
  pub given : List ℕ
  pub frames : List Planes
  pub rest : List ℕ
  pub took : Took input given
  pub holds : HoldFrames (frame_shape s) given frames rest
  pub ended : SendEnded s most answer input went broke frames rest

-- how sending ends by a frame's fault
abbrev pub refused_ending : SendFault → Ending
refused_ending (SampleRange plane place value) = SampleTooLarge place plane value
refused_ending (faults.SliceTooLarge slice bytes) = SliceTooLarge slice bytes
