-- What a datagram is to sessions, by what was read of it.
use Rattle.std.proofs.Common.{◌≡◌, ℕ, false, List, None, Ok, Err, sym, ap, ◌∙◌}
use Rattle.std.specs.Prelude.{◌==◌, ◌&&◌, slice_range}
use Rattle.link_model.specs.Packets.{PayloadValue, RtpPacket, rtp_packet, payload}
use Rattle.link_model.specs.Session.{received, DatagramRefusal, OfRtp, OfPayload, of_packet, of_payload}
use Rattle.link_model.specs.Session.{Session, session_by, session_from, begins, is_end, end_from, ends}
use Rattle.link_model.specs.declared.refusal.PayloadRefusal.{PayloadRefusal}
use Rattle.link_model.specs.declared.refusal.RtpRefusal.{RtpRefusal}
use Rattle.cmd_record.specs.Signs.{IsSign, begun_by, ends_by}
use Rattle.cmd_record.specs.declared.sign.Sign.{Sign}
use Rattle.cmd_record.specs.declared.sign.Sign.TheVariants.{Nothing}

module _ (d : List ℕ) where
  -- ---- it isn't read

  begins_none : (refusal : DatagramRefusal) → received d ≡ Err refusal → begins d ≡ None
  unfolding begins
  begins_none refusal is = ap session_from is

  ends_none : (refusal : DatagramRefusal) → received d ≡ Err refusal → (s : Session) → ends s d ≡ false
  unfolding ends
  ends_none refusal is s = ap (end_from s) is

  refused : (refusal : DatagramRefusal) → received d ≡ Err refusal → IsSign d Nothing
  refused refusal is = record { begins_so = begins_none refusal is; ends_so = ends_none refusal is }

  unread_packet : (refusal : RtpRefusal) → rtp_packet d ≡ Err refusal → received d ≡ Err (OfRtp refusal)
  unfolding received
  unread_packet refusal is = ap (of_packet d) is

  pub no_packet : (refusal : RtpRefusal) → rtp_packet d ≡ Err refusal → IsSign d Nothing
  no_packet refusal is = refused (OfRtp refusal) (unread_packet refusal is)

  module _ (packet : RtpPacket) (read : rtp_packet d ≡ Ok packet) where
    unread_payload : (refusal : PayloadRefusal) → payload (slice_range d packet.from packet.to) ≡ Err refusal
        → received d ≡ Err (OfPayload refusal)
    unfolding received
    unread_payload refusal is = ap (of_packet d) read ∙ ap (of_payload packet.ssrc) is

    pub no_payload : (refusal : PayloadRefusal) → payload (slice_range d packet.from packet.to) ≡ Err refusal
        → IsSign d Nothing
    no_payload refusal is = refused (OfPayload refusal) (unread_payload refusal is)

    -- ---- it is

    module _ (value : PayloadValue) (is : payload (slice_range d packet.from packet.to) ≡ Ok value) where
      received_so : received d ≡ Ok (record { ssrc = packet.ssrc; value = value })
      unfolding received
      received_so = ap (of_packet d) read ∙ ap (of_payload packet.ssrc) is

      begins_by : begins d ≡ session_by packet.ssrc value
      unfolding begins
      begins_by = ap session_from received_so

      ends_as : (s : Session) → ends s d ≡ (packet.ssrc == s.ssrc && is_end value)
      unfolding ends
      ends_as s = ap (end_from s) received_so

      pub read_sign : (sign : Sign) → begun_by sign ≡ session_by packet.ssrc value
          → ((s : Session) → ends_by s sign ≡ (packet.ssrc == s.ssrc && is_end value)) → IsSign d sign
      read_sign sign begun ended = record {
        begins_so = begins_by ∙ sym begun;
        ends_so = λ s. ends_as s ∙ sym (ended s);
      }
