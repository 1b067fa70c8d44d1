-- The law as it is told.
use Rattle.std.proofs.Common.{◌≡◌, ℕ, List, ap, ◌∙◌}
use Rattle.cmd_send.specs.FramesSent.{stream_sent}
use Rattle.link_laws.specs.FramesToSend.{AreFramesToSend}
use Rattle.link_laws.proofs.StreamsBack.{stream_back}
use Rattle.link_model.specs.Output.{full_output}
use Rattle.link_model.specs.Sending.{frames_indices}
use Rattle.link_laws.specs.RoundTrip.{EncodedFramesComeBack, IsRawVideo}
use Rattle.link_laws.proofs.RawBytes.{all_sized, all_whole, raw_is}
use Rattle.link_laws.proofs.ShortDatagrams.{all_short, entries_back}
use Rattle.link_laws.proofs.ZeroIndices.{all_at_zero, sound_at_zero}
use Rattle.vc_types.specs.declared.choice.IndexChoice.TheVariants.{Index}
use Rattle.vc_types.specs.declared.settings.SendSettings.{SendSettings}
use Rattle.vc_types.specs.Planes.{Planes}
use Rattle.vc_types.specs.SenderSettings.{Sending, sending_view}

pub can_be_sent : (settings : SendSettings) (bytes : List ℕ) (frames : List Planes) → settings.choice ≡ Index 0 → IsRawVideo (sending_view settings) bytes frames
    → AreFramesToSend (sending_view settings) (frames_indices (sending_view settings) frames) frames
can_be_sent settings bytes frames chooses video =
    let s : Sending = sending_view settings in
    record {
      sizes = all_sized s bytes frames video.holds;
      whole = all_whole s bytes frames video.holds;
      sound = sound_at_zero s chooses frames video.sendable;
      few = video.few;
    }

pub encoded_frames_come_back : EncodedFramesComeBack
encoded_frames_come_back settings window packets bytes frames small some chooses video few =
    let s : Sending = sending_view settings in
    let indices : List ℕ = frames_indices s frames in
    let can = can_be_sent settings bytes frames chooses video in
    let entries = entries_back packets (stream_sent s frames) (all_short settings indices frames can.sound) few in
    record {
      decodable = ap (λ (split : List (List ℕ) × List ℕ). split.1) entries;
      written =
          ap (λ (split : List (List ℕ) × List ℕ). full_output window split.0) entries
          ∙ stream_back settings small window some indices frames can (all_at_zero s chooses frames)
          ∙ raw_is s bytes frames video.holds video.are_bytes;
    }
