-- An RTP header that was written is read back.
use Rattle.std.proofs.Common.{◌≡◌, ◌<◌, ℕ, ◌+◌, ◌/◌, ◌%◌, ◌^◌, Bool, true, false, List, ◌++◌, length, Ok, refl, arith, if◌then◌else◌, ◌==◌, le-ltb}
use Rattle.link_model.specs.Packets.{RtpPacket, RtpFits, rtp_packet, rtp_header, is_shaped, header_end, payload_end, packet_fields}

-- the marker and the payload type in one byte
marker_is : (m : Bool) (t : ℕ) → t < 2 ^ 7 → ((if m then 128 + t else t) / 128 == 1) ≡ m
marker_is true t small = let e : (128 + t) / 128 ≡ 1 = omega arith in rw e refl
marker_is false t small = let e : t / 128 ≡ 0 = omega arith in rw e refl

type_is : (m : Bool) (t : ℕ) → t < 2 ^ 7 → (if m then 128 + t else t) % 128 ≡ t
type_is true t small = omega arith
type_is false t small = omega arith

abbrev packet : Bool → ℕ → ℕ → ℕ → ℕ → ℕ → RtpPacket
packet m t s z c to = record { marker = m; payload_type = t; sequence = s; timestamp = z; ssrc = c; from = 12; to = to }

-- packets are equal where their fields are
same_packet : {m m' : Bool} {t t' s s' z z' c c' to to' : ℕ} → m ≡ m' → t ≡ t' → s ≡ s' → z ≡ z' → c ≡ c' → to ≡ to' → packet m t s z c to ≡ packet m' t' s' z' c' to'
same_packet em et es ez ec eto = λ i. packet (em i) (et i) (es i) (ez i) (ec i) (eto i)

pub rtp_packet-rtp_header : (p : RtpPacket) (rest : List ℕ) → RtpFits p → rtp_packet (rtp_header p ++ rest) ≡ Ok (record p { from = 12; to = 12 + length rest })
unfolding rtp_header rtp_packet is_shaped header_end payload_end packet_fields
rtp_packet-rtp_header p rest fits = grind (arith, marker_is, same_packet, type_is, le-ltb)

pub ruleset laws = (rtp_packet-rtp_header)
