-- What `encode` writes of raw frames at quantisation index 0, `decode` writes as these frames, and
-- `loop` writes them back.
use Rattle.std.specs.Prelude.{◌≡◌, ◌<◌, ◌≤◌, ℕ, ◌*◌, ◌^◌, IsTrue, All, List, [], length, Option, Some, Ok}
use Rattle.link_outside.specs.Outlets.{capture_of}
use Rattle.link_hearing.specs.Capture.{IsWholeCapture, capture_split}
use Rattle.cmd_gen.specs.Differences.{differences}
use Rattle.frame_writer.specs.WholeFrames.{HoldFrames}
use Rattle.cmd_send.specs.FramesSent.{AreSendable, frame_shape, stream_sent}
use Rattle.cmd_gen.specs.Defaults.{all_generated, sent_by_default}
use Rattle.link_model.specs.Output.{full_output}
use Rattle.link_model.specs.Sending.{pictures_per_frame}
use Rattle.link_model.specs.declared.tally.Tally.{Tally}
use Rattle.link_report.specs.declared.summary.Summary.TheVariants.{Looped}
use Rattle.cmd_receive.specs.Looping.{LoopsBack}
use Rattle.vc_ports.specs.Changes.{Change, InputChange, OutputChange, WireChange, Wrote}
use Rattle.vc_slice.specs.Asked.{Told}
use Rattle.vc_types.specs.declared.choice.IndexChoice.TheVariants.{Index}
use Rattle.vc_types.specs.declared.settings.GenSettings.{GenSettings}
use Rattle.vc_types.specs.declared.settings.SendSettings.{SendSettings}
use Rattle.vc_types.specs.Planes.{Planes}
use Rattle.vc_types.specs.SenderSettings.{Sending, generating_view, sending_view}

-- bytes are those of these frames, of fewer than 2 ^ 31 pictures, and none of them is refused
pub record IsRawVideo (s : Sending) (bytes : List ℕ) (frames : List Planes) : Type 0 where
  pub are_bytes : All (λ byte. byte < 256) bytes
  pub holds : HoldFrames (frame_shape s) bytes frames []
  pub sendable : AreSendable s frames
  pub few : length frames * pictures_per_frame s < 2 ^ 31

-- a capture is read whole, and these bytes are written of it
pub record IsDecodedTo (window packets : ℕ) (capture bytes : List ℕ) : Type 0 where
  pub decodable : IsWholeCapture packets capture
  pub written : full_output window (capture_split packets capture).datagrams ≡ bytes

-- Raw frames that are sent at index 0 come back, up to `packets` datagrams.
abbrev pub EncodedFramesComeBack : Type 0
EncodedFramesComeBack = (settings : SendSettings) (window packets : ℕ) (bytes : List ℕ)
    (frames : List Planes)
    → settings.ssrc < 2 ^ 32 → 1 ≤ window → settings.choice ≡ Index 0
    → IsRawVideo (sending_view settings) bytes frames
    → length (stream_sent (sending_view settings) frames) ≤ packets
    → IsDecodedTo window packets (capture_of (stream_sent (sending_view settings) frames)) bytes

-- Generated frames of fewer than 2 ^ 31 pictures, none of which is refused at index 0 and the other
-- defaults, come back without a difference.
abbrev pub GeneratedFramesComeBack : Type 0
GeneratedFramesComeBack = (g : GenSettings) (settings : SendSettings) (window : ℕ)
    → sending_view settings ≡ sent_by_default (generating_view g).frames
    → 1 ≤ window
    → AreSendable (sending_view settings) (all_generated (generating_view g))
    → g.frames * pictures_per_frame (sending_view settings) < 2 ^ 31
    → differences (generating_view g)
    (full_output window (stream_sent (sending_view settings) (all_generated (generating_view g))))
    ≡ 0

-- Raw frames of fewer than 2 ^ 31 pictures that were looped to their end at index 0, over a looped
-- wire from which nothing else was to come, were written back.
abbrev pub LoopedFramesComeBack : Type 0
LoopedFramesComeBack = (settings : SendSettings) (most window workers : ℕ) (at bytes : List ℕ)
    (count datagrams sum : ℕ) (tally : Tally)
    (input : InputChange) (output : OutputChange) (wire : WireChange) (hands : Change (Option Told))
    → settings.ssrc < 2 ^ 32 → 1 ≤ window → settings.choice ≡ Index 0
    → IsTrue wire.told.before.looped → wire.told.before.coming ≡ Some []
    → input.left.before ≡ Some bytes → All (λ byte. byte < 256) bytes
    → count * pictures_per_frame (sending_view settings) < 2 ^ 31
    → LoopsBack (sending_view settings) most window workers at
    (Ok (Looped count datagrams sum tally)) input output wire hands
    → Wrote output bytes
