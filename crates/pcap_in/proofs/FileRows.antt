-- A file worked by hand, from its bytes to the payloads that its records carry, by computation; all other rows are data, on which the code runs.
use Rattle.std.proofs.Common.{◌≡◌, ℕ, List, [], ◌∷◌, ◌++◌, replicate, refl}
use Rattle.pcap_in.specs.Pcap.{order_of, network_of, file_head, pcap_head, pcap_record, records_within, file_split}
use Rattle.pcap_in.specs.Frames.{word_at, behind_tag, ethernet_packet, is_ipv4_udp, ipv4_payload, ip_payload, is_udp_for, udp_payload, carried}
use Rattle.pcap_in.specs.Feeding.{carried_of}

-- the low byte first, with microseconds, of Ethernet frames
abbrev pub head : List ℕ
head =
    0xd4 ∷ 0xc3 ∷ 0xb2 ∷ 0xa1 ∷ 0x02 ∷ 0x00 ∷ 0x04 ∷ 0x00 ∷ (replicate 8 0x00 ++ 0xff ∷ 0xff ∷ 0x00 ∷ 0x00 ∷ 0x01 ∷ 0x00 ∷ 0x00 ∷ 0x00 ∷ [])

-- a frame of 45 bytes, whole: a packet of IPv4 with this protocol
abbrev pub framed : ℕ → List ℕ → List ℕ
framed protocol datagram =
    replicate 8 0x00 ++ 0x2d ∷ 0x00 ∷ 0x00 ∷ 0x00 ∷ 0x2d ∷ 0x00 ∷ 0x00 ∷ 0x00 ∷ (replicate 12 0x00 ++ 0x08 ∷ 0x00 ∷ 0x45 ∷ 0x00 ∷ 0x00 ∷ 0x1f ∷ 0x00 ∷ 0x00 ∷ 0x00 ∷ 0x00 ∷ 0x40 ∷ protocol ∷ 0x00 ∷ 0x00 ∷ 0x7f ∷ 0x00 ∷ 0x00 ∷ 0x01 ∷ 0x7f ∷ 0x00 ∷ 0x00 ∷ 0x01 ∷ datagram)

-- from port 5004 to port 5008
abbrev pub datagram : List ℕ
datagram = 0x13 ∷ 0x8c ∷ 0x13 ∷ 0x90 ∷ 0x00 ∷ 0x0b ∷ 0x00 ∷ 0x00 ∷ 0x61 ∷ 0x62 ∷ 0x63 ∷ []

-- a record with a UDP datagram, and one of another protocol
abbrev pub file : List ℕ
file = head ++ (framed 0x11 datagram ++ framed 0x06 datagram)

pub payloads_are : carried_of 9 5008 file ≡ (0x61 ∷ 0x62 ∷ 0x63 ∷ []) ∷ []
unfolding carried_of file_split pcap_head file_head order_of network_of pcap_record records_within carried ethernet_packet behind_tag word_at ip_payload ipv4_payload is_ipv4_udp udp_payload is_udp_for
payloads_are = refl

pub none_are_for_the_source : carried_of 9 5004 file ≡ []
unfolding carried_of file_split pcap_head file_head order_of network_of pcap_record records_within carried ethernet_packet behind_tag word_at ip_payload ipv4_payload is_ipv4_udp udp_payload is_udp_for
none_are_for_the_source = refl
