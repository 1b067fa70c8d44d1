-- A datagram that was sent is read back as what it carries.
use Rattle.std.proofs.Common.{◌≡◌, ◌<◌, ◌≤◌, ℕ, ◌+◌, ◌^◌, true, List, [], ◌++◌, length, take, Ok, sym, ap, ◌∙◌, arith, slice_range, div-lt_iff_lt-mul, mul_comm, append-nil, take_all}
use Rattle.link_model.specs.Packets.{RtpPacket, RtpFits, rtp_header, PayloadValue, payload, payload_bytes, IsWritable, HeadFits}
use Rattle.link_model.specs.Sending.{Outgoing, DatagramContent, ParametersContent, SlicesContent, sent_value, sent_packet, sent_datagram, sent_head, timestamp_of, AreSettings, FitsDatagram}
use Rattle.link_model.specs.Session.{received, of_packet, of_payload}
use Rattle.link_model.proofs.WrittenPackets.{rtp_packet-rtp_header}
use Rattle.link_model.proofs.WrittenPayloads.{payload-payload_bytes}
use Rattle.std.proofs.lemmas.Bool.Decides.{nat_tests}
use Rattle.vc_types.specs.declared.settings.SendSettings.{SendSettings}
use Rattle.vc_types.specs.Limits.{slices_fit}
use Rattle.vc_types.specs.Rates.{stamp_at}
use Rattle.vc_types.specs.SenderSettings.{Sending, sending_view}

packet_fits : (s : Sending) (number : ℕ) (o : Outgoing) (bytes : ℕ) → AreSettings s → RtpFits (sent_packet s number o bytes)
unfolding sent_packet timestamp_of stamp_at
packet_fits s number o bytes are = record { payload_type = are.payload_type; sequence = omega arith; timestamp = omega arith; ssrc = are.ssrc }

head_fits : (s : Sending) (number picture : ℕ) → AreSettings s → HeadFits (sent_head s number picture)
head_fits s number picture are = record { high = omega arith; number = omega arith; prefix = are.prefix; scaler = are.scaler }

is_writable : (s : Sending) (number picture : ℕ) (c : DatagramContent) → AreSettings s → FitsDatagram s c → IsWritable (sent_value s number (record { picture = picture; content = c }))
unfolding sent_value
is_writable s number picture ParametersContent are fits = (head_fits s number picture are, fits)
is_writable s number picture (SlicesContent run) are fits = (head_fits s number picture are, record { some = fits.some; counted = fits.few; column = omega (arith, are.across, are.some_across); row = (grind (arith, div-lt_iff_lt-mul, mul_comm)) }, fits.short)
is_writable s number picture c are fits = omega arith

payload_back : (s : Sending) (number picture : ℕ) (c : DatagramContent) → AreSettings s → FitsDatagram s c → payload (payload_bytes (sent_value s number (record { picture = picture; content = c }))) ≡ Ok (sent_value s number (record { picture = picture; content = c }))
unfolding sent_value
payload_back s number picture c are fits =
    let o : Outgoing = record { picture = picture; content = c } in
    ap payload (sym (append-nil (payload_bytes (sent_value s number o))))
    ∙ payload-payload_bytes (sent_value s number o) [] (is_writable s number picture c are fits)
    ∙ ap (λ (v : PayloadValue). Ok v) (grind (arith, append-nil))

behind_header : (p : RtpPacket) (body : List ℕ) → slice_range (rtp_header p ++ body) 12 (12 + length body) ≡ body
unfolding rtp_header
behind_header p body = ap (λ (n : ℕ). take n body) (omega arith) ∙ take_all (length body) body (omega arith)

abbrev packet_of : Sending → ℕ → Outgoing → RtpPacket
packet_of s number o = sent_packet s number o (length (payload_bytes (sent_value s number o)))

-- the source and the payload of a datagram that was sent
pub received-sent_datagram : (s : Sending) (number picture : ℕ) (c : DatagramContent) → AreSettings s → FitsDatagram s c
    → received (sent_datagram s number (record { picture = picture; content = c })) ≡ Ok (record { ssrc = s.ssrc; value = sent_value s number (record { picture = picture; content = c }) })
unfolding received sent_datagram sent_packet
received-sent_datagram s number picture c are fits =
    let o : Outgoing = record { picture = picture; content = c } in
    ap (of_packet (sent_datagram s number o)) (rtp_packet-rtp_header (packet_of s number o) (payload_bytes (sent_value s number o)) (packet_fits s number o (length (payload_bytes (sent_value s number o))) are))
    ∙ ap (λ (b : List ℕ). of_payload s.ssrc (payload b)) (behind_header (packet_of s number o) (payload_bytes (sent_value s number o)))
    ∙ ap (of_payload s.ssrc) (payload_back s number picture c are fits)

across_small : (across down : ℕ) → slices_fit across down ≡ true → across < 2 ^ 16
across_small across down h = grind (arith, nat_tests)

some_across : (across down : ℕ) → slices_fit across down ≡ true → 1 ≤ across
some_across across down h = grind (arith, nat_tests)

down_small : (across down : ℕ) → slices_fit across down ≡ true → down < 2 ^ 16
down_small across down h = grind (arith, nat_tests)

-- settings that exist have fields of these bits
pub are_settings : (settings : SendSettings) → settings.ssrc < 2 ^ 32 → AreSettings (sending_view settings)
are_settings settings small = grind (arith, across_small, down_small, some_across, nat_tests)

pub datagram_back : (settings : SendSettings) (number : ℕ) (o : Outgoing) → settings.ssrc < 2 ^ 32 → FitsDatagram (sending_view settings) o.content
    → received (sent_datagram (sending_view settings) number o) ≡ Ok (record { ssrc = settings.ssrc; value = sent_value (sending_view settings) number o })
datagram_back settings number o small fits = received-sent_datagram (sending_view settings) number o.picture o.content (are_settings settings small) fits
