-- RTCP compound packets (RFC 3550, 6.1, 6.4 and 6.5): what a report with a name is written as, and what is
-- read of a compound packet, or the first refusal in reading order.
use Rattle.std.specs.Prelude.{◌≡◌, ℕ, zero, suc, ◌+◌, ◌-◌, ◌*◌, ◌/◌, ◌%◌, ◌^◌, ◌<◌, ◌≤◌, Bool, ◌&&◌, ◌||◌}
use Rattle.std.specs.Prelude.{not, ◌==◌, nat_lt, if◌then◌else◌, List, ◌∷◌, ◌++◌, length, drop}
use Rattle.std.specs.Prelude.{replicate, slice_index, Option, Some, None, is_some, Result, Ok, Err}
use Rattle.std.specs.Prelude.{pos, neg_ℤ, ◌≤ℤ◌, IsAscii}
use Rattle.std.specs.Int.{w64}
use Rattle.byteorder.specs.Endian.{big_bytes, big_number, low_bytes, twos_complement}
use Rattle.link_model.specs.Packets.{version, has_padding}
use Rattle.vc_types.specs.Fields.{and_then}
use Rattle.rtcp_reports.specs.declared.block.Block.{Block}
use Rattle.rtcp_reports.specs.declared.block.SenderInfo.{SenderInfo}
use Rattle.rtcp_reports.specs.declared.block.CompoundView.{CompoundView}
use Rattle.rtcp_reports.specs.declared.refusal.RtcpRefusal.{RtcpRefusal}
use Rattle.rtcp_reports.specs.declared.refusal.RtcpRefusal.TheVariants.{Short, Length, Version, First}

-- ---- packet types (12.1)

abbrev pub sender_report : ℕ
sender_report = 200

abbrev pub receiver_report : ℕ
receiver_report = 201

abbrev pub source_description : ℕ
source_description = 202

-- ==== writing

-- A packet of version 2 without padding: the first byte has a count, and the length is that of the packet
-- in words of 32 bits less one, so that of what follows its first word.
unfoldable pub packet_bytes : ℕ → ℕ → List ℕ → List ℕ
packet_bytes count type body =
    (128 + count) ∷ type ∷ (big_bytes 2 (length body / 4) ++ body)

-- a block: the loss has 24 bits, and the jitter and the two times of the last sender report are 0 (this
-- project's own)
unfoldable pub block_bytes : Block → List ℕ
block_bytes block =
    big_bytes 4 block.ssrc ++ (block.fraction
    ∷ (big_bytes 3 (low_bytes w64 3 block.lost) ++ (big_bytes 4 block.highest ++ replicate 12 0)))

-- a receiver report, with a block or with none
unfoldable pub receiver_bytes : ℕ → Option Block → List ℕ
receiver_bytes ssrc None = packet_bytes 0 receiver_report (big_bytes 4 ssrc)
receiver_bytes ssrc (Some block) =
    packet_bytes 1 receiver_report (big_bytes 4 ssrc ++ block_bytes block)

-- what a sender report says of its sender: of the NTP time's halves the lower is 0 (this project's own)
unfoldable pub sender_info_bytes : SenderInfo → List ℕ
sender_info_bytes s =
    big_bytes 4 s.ntp ++ (replicate 4 0
    ++ (big_bytes 4 s.timestamp ++ (big_bytes 4 s.packets ++ big_bytes 4 s.octets)))

-- a sender report without blocks
unfoldable pub sender_bytes : SenderInfo → List ℕ
sender_bytes s = packet_bytes 0 sender_report (big_bytes 4 s.ssrc ++ sender_info_bytes s)

-- the zeros behind a name, at least one, up to a whole word
abbrev pub zeros_behind : ℕ → ℕ
zeros_behind count = 4 - (count + 2) % 4

-- the length of a source description with a name of so many bytes, in words less one
abbrev pub name_words : ℕ → ℕ
name_words count = 2 + (count + 2) / 4

-- a source description with one chunk of one item: the code of a name (CNAME), its length, the name
unfoldable pub description_bytes : ℕ → List ℕ → List ℕ
description_bytes ssrc name =
    packet_bytes 1 source_description (big_bytes 4 ssrc
    ++ (1 ∷ length name ∷ (name ++ replicate (zeros_behind (length name)) 0)))

-- a compound packet: a report, and the name of who reports
abbrev pub receiver_compound : ℕ → Option Block → List ℕ → List ℕ
receiver_compound ssrc block name = receiver_bytes ssrc block ++ description_bytes ssrc name

abbrev pub sender_compound : SenderInfo → List ℕ → List ℕ
sender_compound s name = sender_bytes s ++ description_bytes s.ssrc name

-- ---- what can be written

-- a name of 1 to 255 bytes of ASCII
pub record IsName (name : List ℕ) : Type 0 where
  pub some : 1 ≤ length name
  pub counted : length name ≤ 255
  pub ascii : IsAscii name

-- the loss fits 24 bits
pub record LossFits (block : Block) : Type 0 where
  pub least : neg_ℤ (pos 8388608) ≤ℤ block.lost
  pub most : block.lost ≤ℤ pos 8388607

-- a block, where there is one
abbrev pub LossFitsIn : Option Block → Type 0
LossFitsIn None = Unit {0}
LossFitsIn (Some block) = LossFits block

-- each field has its number of bits
pub record BlockFits (block : Block) : Type 0 where
  pub ssrc : block.ssrc < 2 ^ 32
  pub fraction : block.fraction < 2 ^ 8
  pub loss : LossFits block
  pub highest : block.highest < 2 ^ 32

pub record SenderFits (s : SenderInfo) : Type 0 where
  pub ssrc : s.ssrc < 2 ^ 32
  pub ntp : s.ntp < 2 ^ 32
  pub timestamp : s.timestamp < 2 ^ 32
  pub packets : s.packets < 2 ^ 32
  pub octets : s.octets < 2 ^ 32

-- ==== reading

-- ---- the first word of a packet: version (2 bits), padding (1), count (5), type (8), length (16)

abbrev pub item_count : List ℕ → ℕ
item_count bytes = slice_index bytes 0 % 32

abbrev pub packet_type : List ℕ → ℕ
packet_type bytes = slice_index bytes 1

-- in bytes, with the first word
abbrev pub packet_size : List ℕ → ℕ
packet_size bytes = 4 * (big_number 2 (drop 2 bytes) + 1)

-- ---- packets

-- how many bytes a packet takes that is whole and of version 2
unfoldable pub whole_packet : List ℕ → Result ℕ RtcpRefusal
whole_packet bytes =
    if nat_lt (length bytes) 4 then Err Length
    else (if not (version bytes == 2) then Err Version
    else (if nat_lt (length bytes) (packet_size bytes) then Err Length
    else Ok (packet_size bytes)))

abbrev pub refusal_behind : Result ℕ RtcpRefusal → (ℕ → Option RtcpRefusal) → Option RtcpRefusal
refusal_behind (Ok size) behind = behind size
refusal_behind (Err refusal) behind = Some refusal

-- the first refusal of packets one after another up to the end, of which there are no more than so many
unfoldable pub packets_refusal : ℕ → List ℕ → Option RtcpRefusal
packets_refusal zero bytes = None
packets_refusal (suc n) bytes =
    if length bytes == 0 then None
    else refusal_behind (whole_packet bytes) (λ size. packets_refusal n (drop size bytes))

-- there are no more packets than bytes
abbrev pub refusal_in : List ℕ → Option RtcpRefusal
refusal_in bytes = packets_refusal (length bytes) bytes

-- ---- reports

abbrev pub is_sender_report : List ℕ → Bool
is_sender_report bytes = packet_type bytes == sender_report

-- what a compound packet begins with
abbrev pub is_report : List ℕ → Bool
is_report bytes =
    (is_sender_report bytes || packet_type bytes == receiver_report) && not (has_padding bytes)

-- what comes before the blocks: the first word, who reports, and in a sender report what it says of itself
abbrev pub fixed_size : Bool → ℕ
fixed_size is_sender = if is_sender then 28 else 8

-- with 24 bytes for each block
abbrev pub report_room : List ℕ → ℕ
report_room bytes = fixed_size (is_sender_report bytes) + 24 * item_count bytes

-- how many bytes the first packet takes
unfoldable pub report_size : List ℕ → Result ℕ RtcpRefusal
report_size bytes =
    if nat_lt (length bytes) 8 then Err Short
    else (if not (version bytes == 2) then Err Version
    else (if not (is_report bytes) then Err First
    else (if nat_lt (length bytes) (packet_size bytes) then Err Length
    else (if nat_lt (packet_size bytes) (report_room bytes) then Err Length
    else Ok (packet_size bytes)))))

abbrev pub report_ssrc : List ℕ → ℕ
report_ssrc bytes = big_number 4 (drop 4 bytes)

abbrev pub sender_info : List ℕ → SenderInfo
sender_info bytes = record {
  ssrc = report_ssrc bytes;
  ntp = big_number 4 (drop 8 bytes);
  timestamp = big_number 4 (drop 16 bytes);
  packets = big_number 4 (drop 20 bytes);
  octets = big_number 4 (drop 24 bytes);
}

abbrev pub reported_sender : List ℕ → Option SenderInfo
reported_sender bytes = if is_sender_report bytes then Some (sender_info bytes) else None

unfoldable pub report_view : List ℕ → CompoundView
report_view bytes = record {
  sender = reported_sender bytes;
  ssrc = report_ssrc bytes;
  blocks = item_count bytes;
}

-- ---- compound packets

abbrev pub unless : {A E : Type 0} → Option E → A → Result A E
unless None value = Ok value
unless (Some refusal) value = Err refusal

-- a report, and whole packets up to the end
unfoldable pub compound : List ℕ → Result CompoundView RtcpRefusal
compound bytes =
    and_then (report_size bytes) (λ size. unless (refusal_in (drop size bytes)) (report_view bytes))

-- the first packet is accepted, and a later one has this refusal
pub record IsRefusedLater (bytes : List ℕ) (refusal : RtcpRefusal) : Type 0 where
  pub size : ℕ
  pub first : report_size bytes ≡ Ok size
  pub later : refusal_in (drop size bytes) ≡ Some refusal

-- a block in its 24 bytes
unfoldable pub block_in : List ℕ → Block
block_in bytes = record {
  ssrc = big_number 4 bytes;
  fraction = slice_index bytes 4;
  lost = twos_complement 3 (big_number 3 (drop 5 bytes));
  highest = big_number 4 (drop 8 bytes);
}

-- where a report's blocks begin
abbrev pub blocks_place : CompoundView → ℕ
blocks_place view = fixed_size (is_some view.sender)

-- block i of a report
abbrev pub block_of_report : List ℕ → CompoundView → ℕ → Block
block_of_report bytes view i = block_in (drop (blocks_place view + 24 * i) bytes)

-- ---- the numbers of refusals (this project's own)

abbrev pub refusal_number : RtcpRefusal → ℕ
refusal_number Short = 1
refusal_number Length = 2
refusal_number Version = 3
refusal_number First = 4
