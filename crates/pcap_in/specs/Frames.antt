-- The payload of a UDP datagram that a frame carries, by where it stands in the bytes that a record
-- keeps. Checksums aren't looked at.
use Rattle.std.specs.Prelude.{ℕ, ◌+◌, ◌*◌, ◌/◌, ◌%◌, Bool, false, not, ◌&&◌, ◌||◌, List, length, drop}
use Rattle.std.specs.Prelude.{slice_index, slice_range, Option, Some, None, option_map, option_and_then}
use Rattle.std.specs.Prelude.{nat_lt, nat_le, ◌==◌, if◌then◌else◌}
use Rattle.std.specs.List.{filter_map}
use Rattle.byteorder.specs.Endian.{big_number}
use Rattle.pcap_in.specs.declared.network.Network.{Network}
use Rattle.pcap_in.specs.declared.network.Network.TheVariants.{Ethernet, LinuxCooked, LinuxCooked2}

-- the number in the two bytes at a place, the high one first; none where the bytes end before
unfoldable pub word_at : List ℕ → ℕ → Option ℕ
word_at bytes place =
    if nat_lt (length bytes) (place + 2) then None else Some (big_number 2 (drop place bytes))

-- ==== networks: what a frame's packet is, by its number among the types of Ethernet, and its place

-- ---- Ethernet (IEEE 802.3): two addresses of 6 bytes, at most two tags, the type, the packet

-- a tag (IEEE 802.1Q) has 4 bytes, the first two of which are 8100, or 88A8 in a provider's network
abbrev pub is_tag : Option ℕ → Bool
is_tag None = false
is_tag (Some word) = word == 0x8100 || word == 0x88a8

-- the place behind a tag, where one stands at a place
unfoldable pub behind_tag : List ℕ → ℕ → ℕ
behind_tag frame place = if is_tag (word_at frame place) then place + 4 else place

-- where the type stands
abbrev pub type_place : List ℕ → ℕ
type_place frame = behind_tag frame (behind_tag frame 12)

unfoldable pub ethernet_packet : List ℕ → Option (ℕ × ℕ)
ethernet_packet frame =
    option_map (λ protocol. (protocol, type_place frame + 2)) (word_at frame (type_place frame))

-- ---- Linux cooked capture, version 1: 16 bytes, the last two of which are the type

unfoldable pub cooked_packet : List ℕ → Option (ℕ × ℕ)
cooked_packet frame = option_map (λ protocol. (protocol, 16)) (word_at frame 14)

-- ---- Linux cooked capture, version 2: 20 bytes, the first two of which are the type

unfoldable pub cooked_2_packet : List ℕ → Option (ℕ × ℕ)
cooked_2_packet frame =
    if nat_lt (length frame) 20 then None
    else option_map (λ protocol. (protocol, 20)) (word_at frame 0)

abbrev pub packet_of : Network → List ℕ → Option (ℕ × ℕ)
packet_of Ethernet frame = ethernet_packet frame
packet_of LinuxCooked frame = cooked_packet frame
packet_of LinuxCooked2 frame = cooked_2_packet frame

-- ==== the Internet: the part of the bytes, from one place up to another, that a packet carries

-- UDP, in IPv4 and in IPv6 (the protocol numbers of IANA)
abbrev pub udp_protocol : ℕ
udp_protocol = 17

-- the highest four bits of both
abbrev pub ip_version : List ℕ → ℕ
ip_version packet = slice_index packet 0 / 16

-- ---- IPv4 (RFC 791, 3.1)

-- the bytes of the header, which tells them in words of 4 bytes
abbrev pub ipv4_header : List ℕ → ℕ
ipv4_header packet = 4 * (slice_index packet 0 % 16)

-- those of the whole packet
abbrev pub ipv4_total : List ℕ → ℕ
ipv4_total packet = big_number 2 (drop 2 packet)

-- more fragments follow, or others stand before it: one of the low 14 bits is 1
abbrev pub is_fragment : List ℕ → Bool
is_fragment packet = not (big_number 2 (drop 6 packet) % 16384 == 0)

abbrev pub ipv4_protocol : List ℕ → ℕ
ipv4_protocol packet = slice_index packet 9

-- a header of five words at least, and a packet that isn't shorter than its header or longer than
-- what is there
abbrev pub ipv4_fits : List ℕ → Bool
ipv4_fits packet =
    nat_le 20 (ipv4_header packet) && nat_le (ipv4_header packet) (ipv4_total packet)
    && nat_le (ipv4_total packet) (length packet)

-- a whole packet with a UDP datagram
unfoldable pub is_ipv4_udp : List ℕ → Bool
is_ipv4_udp packet =
    nat_le 20 (length packet) && (ip_version packet == 4 && ipv4_fits packet
    && ipv4_protocol packet == udp_protocol && not (is_fragment packet))

abbrev pub ipv4_part : ℕ → List ℕ → Option (ℕ × ℕ)
ipv4_part place packet =
    if is_ipv4_udp packet then Some (place + ipv4_header packet, place + ipv4_total packet)
    else None

unfoldable pub ipv4_payload : List ℕ → ℕ → Option (ℕ × ℕ)
ipv4_payload kept place = ipv4_part place (drop place kept)

-- ---- IPv6 (RFC 8200, 3): a header of 40 bytes

-- the bytes behind the header
abbrev pub ipv6_length : List ℕ → ℕ
ipv6_length packet = big_number 2 (drop 4 packet)

abbrev pub next_header : List ℕ → ℕ
next_header packet = slice_index packet 6

-- a whole packet with a UDP datagram right behind the header
unfoldable pub is_ipv6_udp : List ℕ → Bool
is_ipv6_udp packet =
    nat_le 40 (length packet) && (ip_version packet == 6
    && nat_le (40 + ipv6_length packet) (length packet) && next_header packet == udp_protocol)

abbrev pub ipv6_part : ℕ → List ℕ → Option (ℕ × ℕ)
ipv6_part place packet =
    if is_ipv6_udp packet then Some (place + 40, place + 40 + ipv6_length packet) else None

unfoldable pub ipv6_payload : List ℕ → ℕ → Option (ℕ × ℕ)
ipv6_payload kept place = ipv6_part place (drop place kept)

-- ---- which of them, by the type

abbrev pub ipv4_type : ℕ
ipv4_type = 0x0800

abbrev pub ipv6_type : ℕ
ipv6_type = 0x86dd

unfoldable pub ip_payload : List ℕ → ℕ → ℕ → Option (ℕ × ℕ)
ip_payload kept protocol place =
    if protocol == ipv4_type then ipv4_payload kept place
    else (if protocol == ipv6_type then ipv6_payload kept place
    else None)

-- ---- UDP (RFC 768): 8 bytes, and the payload

-- the destination port
abbrev pub udp_port : List ℕ → ℕ
udp_port datagram = big_number 2 (drop 2 datagram)

-- the bytes of the datagram, with those 8
abbrev pub udp_length : List ℕ → ℕ
udp_length datagram = big_number 2 (drop 4 datagram)

-- port 0 stands for all of them
abbrev pub is_to_port : ℕ → ℕ → Bool
is_to_port port to = port == 0 || to == port

-- a datagram for a port, which isn't shorter than 8 bytes or longer than the part that it stands in
unfoldable pub is_udp_for : ℕ → List ℕ → Bool
is_udp_for port datagram =
    nat_le 8 (length datagram) && (nat_le 8 (udp_length datagram)
    && nat_le (udp_length datagram) (length datagram) && is_to_port port (udp_port datagram))

abbrev pub udp_part : ℕ → ℕ → List ℕ → Option (ℕ × ℕ)
udp_part port from datagram =
    if is_udp_for port datagram then Some (from + 8, from + udp_length datagram) else None

-- the payload of the datagram in a part of the bytes
unfoldable pub udp_payload : List ℕ → ℕ → ℕ × ℕ → Option (ℕ × ℕ)
udp_payload kept port part = udp_part port part.0 (slice_range kept part.0 part.1)

-- ==== records

-- where the payload begins and ends that the kept bytes of a record carry to a port; port 0 stands
-- for all of them
unfoldable pub carried : Network → List ℕ → ℕ → Option (ℕ × ℕ)
carried network kept port =
    option_and_then (udp_payload kept port)
    (option_and_then (λ packet. ip_payload kept packet.0 packet.1) (packet_of network kept))

abbrev pub payload_in : Network → ℕ → List ℕ → Option (List ℕ)
payload_in network port kept =
    option_map (λ part. slice_range kept part.0 part.1) (carried network kept port)

-- the payloads that records carry to a port, in their order
abbrev pub payloads_in : Network → ℕ → List (List ℕ) → List (List ℕ)
payloads_in network port records = filter_map (payload_in network port) records
