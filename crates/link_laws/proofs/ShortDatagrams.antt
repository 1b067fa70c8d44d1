-- Each datagram that is sent fits an entry of a capture, and the entries of datagrams are read back.
use Rattle.std.proofs.Common.{◌≡◌, ◌<◌, ◌≤◌, ℕ, zero, suc, ◌*◌, ◌^◌, List, [], ◌∷◌, length, drop, refl, sym, subst, arith, All, inl, inr, ◌⊎◌}
use Rattle.std.proofs.lemmas.List.Concat.{flat_map-cons}
use Rattle.std.proofs.lemmas.List.Elements.{All-head, All-tail, All-weaker}
use Rattle.link_hearing.proofs.Within.{within_entry, within_nothing}
use Rattle.link_outside.specs.Outlets.{capture_of}
use Rattle.link_laws.proofs.FittingRuns.{room_few, run_is}
use Rattle.link_laws.proofs.FramePictures.{AreFaultless, all_pictures, no_slice_fault}
use Rattle.link_laws.proofs.SentStream.{are_sound, IsOfPicture, IsSent, all_sent, count}
use Rattle.link_sender.proofs.Heads.{short_parameters_of, short_header}
use Rattle.link_capture.specs.Capture.{entries_within}
use Rattle.link_model.specs.Packets.{fragment_bytes, payload_bytes, payload_head, rtp_header}
use Rattle.link_model.specs.Sending.{DatagramContent, EndContent, HeaderContent, ParametersContent, SlicesContent, outgoing, sent_datagram, sent_stream, sent_value}
use Rattle.vc_types.specs.declared.settings.SendSettings.{SendSettings}
use Rattle.vc_types.specs.Planes.{Planes}
use Rattle.vc_types.specs.SenderSettings.{Sending, sending_view}

abbrev pub IsShort : List ℕ → Type 0
IsShort datagram = length datagram < 2 ^ 16

-- the entries of datagrams, at most so many
pub entries_back : (most : ℕ) (datagrams : List (List ℕ)) → All IsShort datagrams → length datagrams ≤ most → entries_within most (capture_of datagrams) ≡ (datagrams, [])
entries_back most [] short few = within_nothing most
entries_back zero (d ∷ datagrams) short few = absurd (omega (arith, few))
entries_back (suc most) (d ∷ datagrams) short few =
    let rest = entries_back most datagrams (All-tail IsShort d datagrams short) (omega (arith, few)) in
    grind (arith, All-head, flat_map-cons, within_entry)

module _ (settings : SendSettings) (indices : List ℕ) (frames : List Planes) (faultless : AreFaultless (sending_view settings) indices frames) where
  abbrev s : Sending
  s = sending_view settings

  abbrev pictures : List Planes
  pictures = all_pictures s frames

  of_content : (number picture : ℕ) (c : DatagramContent) → IsOfPicture s 0 indices pictures (outgoing picture c) ⊎ (c ≡ EndContent) → IsShort (sent_datagram s number (outgoing picture c))
  unfolding sent_datagram sent_value rtp_header payload_bytes fragment_bytes payload_head
  of_content number picture HeaderContent is = omega (arith, short_header settings)
  of_content number picture ParametersContent is = omega (arith, short_parameters_of settings)
  of_content number picture (SlicesContent run) (inl own) =
      let sound = are_sound s indices pictures (no_slice_fault s indices frames faultless) own.number own.planes own.at in
      omega (arith, (run_is settings own.planes (drop (own.number * count s) indices) sound run own.content).fits, room_few settings)
  of_content number picture (SlicesContent run) (inr last) = absurd cc
  of_content number picture EndContent is = omega arith

  one_short : (d : List ℕ) → IsSent s indices pictures d → IsShort d
  one_short d sent = subst IsShort (sym sent.is) (of_content sent.number sent.o.picture sent.o.content sent.content)

  pub all_short : All IsShort (sent_stream (sending_view settings) indices frames)
  all_short = All-weaker (IsSent s indices pictures) IsShort one_short (sent_stream s indices frames) (all_sent s indices frames pictures refl)
