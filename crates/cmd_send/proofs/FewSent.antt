-- The datagrams of frames that aren't refused, and their bytes, are few enough for counts of 64 bits.
use Rattle.std.proofs.Common.{◌≡◌, ℕ, ◌+◌, ◌^◌, ◌<◌, List, [], ◌∷◌, ◌++◌, length, None, ap, sym, ◌∙◌, arith, length-append}
use Rattle.std.proofs.lemmas.List.Elements.{All-weaker}
use Rattle.std.proofs.lemmas.List.Sums.{sum_by-append}
use Rattle.std.proofs.lemmas.Grind.{common_steps}
use Rattle.cmd_send.specs.Counted.{HasRoomFor, totals_of}
use Rattle.cmd_send.specs.FramesSent.{AreSendable, bytes_in, frame_fault, frame_indices, frames_sent}
use Rattle.cmd_send.specs.Looping.{end_sent, next_sent}
use Rattle.cmd_send.specs.declared.totals.Totals.{Totals}
use Rattle.cmd_send.proofs.SentMore.{frames_sent-more}
use Rattle.cmd_send.proofs.Stopping.{sendable_with}
use Rattle.link_model.specs.Sending.{frames_indices, frames_outgoing, last_datagram, pictures_of}
use Rattle.link_model.specs.SendingFaults.{first_sample_fault, first_slice_fault, send_fault}
use Rattle.link_sender.specs.Counts.{HaveSoundSamples}
use Rattle.link_sender.proofs.SentFrames.{are_few, end_bytes, none_first}
use Rattle.vc_types.specs.declared.settings.SendSettings.{SendSettings}
use Rattle.vc_types.specs.Planes.{Planes}
use Rattle.vc_types.specs.SenderSettings.{Sending, sending_view}

sound_frame : (s : Sending) (frame : Planes) → frame_fault s frame ≡ None → first_sample_fault s frame ≡ None
unfolding send_fault
sound_frame s frame sound = none_first (first_sample_fault s frame) (first_slice_fault s (frame_indices s frame) (pictures_of s frame)) sound

sound_samples : (s : Sending) (frames : List Planes) → AreSendable s frames → HaveSoundSamples s frames
sound_samples s frames sendable = All-weaker (λ frame. frame_fault s frame ≡ None) (λ frame. first_sample_fault s frame ≡ None) (sound_frame s) frames sendable

end_length : (s : Sending) (frames : List Planes) → length (end_sent s frames) ≡ 16
unfolding last_datagram
end_length s frames = end_bytes s (s.seq + length (frames_outgoing s (frames_indices s frames) frames)) (length frames)

module _ (settings : SendSettings) (frames : List Planes) (sendable : AreSendable (sending_view settings) frames) (old : Totals) (is : old ≡ totals_of (sending_view settings) frames) where
  abbrev s : Sending
  s = sending_view settings

  pub room_for_frame : (frame : Planes) → length frames + 1 < 2 ^ 32 → frame_fault s frame ≡ None → (datagrams : List (List ℕ)) → datagrams ≡ next_sent s frames frame → HasRoomFor old datagrams
  room_for_frame frame small sound datagrams due =
      let longer = frames ++ frame ∷ [] in
      let few = are_few settings (frames_indices s longer) longer (sound_samples s longer (sendable_with s frames frame sendable sound)) in
      let long : length longer ≡ length frames + 1 = length-append frames (frame ∷ []) in
      let counted : length (frames_sent s longer) ≡ length (frames_sent s frames) + length datagrams =
      ap length (frames_sent-more s frames frame) ∙ length-append (frames_sent s frames) (next_sent s frames frame) ∙ ap (λ (l : List (List ℕ)). length (frames_sent s frames) + length l) (sym due) in
      let summed : bytes_in (frames_sent s longer) ≡ bytes_in (frames_sent s frames) + bytes_in datagrams =
      ap bytes_in (frames_sent-more s frames frame) ∙ sum_by-append length (frames_sent s frames) (next_sent s frames frame) ∙ ap (λ (l : List (List ℕ)). bytes_in (frames_sent s frames) + bytes_in l) (sym due) in
      let old_count : old.datagrams ≡ length (frames_sent s frames) = ap (λ (t : Totals). t.datagrams) is in
      let old_bytes : old.bytes ≡ bytes_in (frames_sent s frames) = ap (λ (t : Totals). t.bytes) is in
      record {
        count = omega (arith, few.count, counted, old_count, long, small);
        bytes = omega (arith, few.bytes, summed, old_bytes, long, small);
      }

  pub room_for_end : length frames < 2 ^ 32 → (end : List ℕ) → end ≡ end_sent s frames → HasRoomFor old (end ∷ [])
  room_for_end small end due = grind (arith, common_steps, are_few, sound_samples, end_length)
