-- The datagrams that this project's packer makes of the pictures of an elementary stream (RFC 3550,
-- 5.1; RFC 8450, 4): for each picture its sequence header, its transform parameters and its slices
-- in the stream's own bytes, and an end of sequence after the last.
use Rattle.std.specs.Prelude.{◌≡◌, ℕ, ◌+◌, ◌-◌, ◌*◌, ◌/◌, ◌%◌, ◌^◌, Bool, false, ◌==◌, nat_lt}
use Rattle.std.specs.Prelude.{if◌then◌else◌, List, [], ◌∷◌, ◌++◌, length, map, Option, Some, None}
use Rattle.std.specs.Prelude.{Result, Ok, Err}
use Rattle.link_model.specs.Kept.{next_slices}
use Rattle.link_model.specs.Packets.{RtpPacket, rtp_header, FragmentHead, PayloadValue, Header, End}
use Rattle.link_model.specs.Packets.{Params, Slices, payload_bytes}
use Rattle.link_model.specs.Sending.{DatagramContent, HeaderContent, ParametersContent}
use Rattle.link_model.specs.Sending.{SlicesContent, EndContent, high_half, run_bytes, run_end}
use Rattle.link_model.specs.Sending.{runs_of_slices}
use Rattle.vc_types.specs.Rates.{stamp_at}
use Rattle.vc_types.specs.SenderSettings.{Packing}
use Rattle.vc_types.specs.Subbands.{slice_count}
use Rattle.vc_types.specs.TransformParameters.{Parameters}

-- ---- pictures

-- a picture of a stream: its number, the bytes of the sequence header before it, those of its
-- transform parameters, what these say, and its slices in raster order
pub record PackedPicture : Type 0 where
  pub number : ℕ
  pub header : List ℕ
  pub coded : List ℕ
  pub parameters : Parameters
  pub slices : List (List ℕ)

abbrev pub slices_read : Result (List (List ℕ) × List ℕ) (Unit {0}) → List (List ℕ)
slices_read (Ok read) = read.0
slices_read (Err short) = []

-- as many slices as parameters tell, at the front of bytes
abbrev pub slices_in : Parameters → List ℕ → List (List ℕ)
slices_in p bytes = slices_read (next_slices p (slice_count p) bytes)

-- bytes are exactly these slices
abbrev pub AreAllSlices : Parameters → List ℕ → Type 0
AreAllSlices p bytes = next_slices p (slice_count p) bytes ≡ Ok (slices_in p bytes, [])

-- ---- which part of a picture is too large

-- how many bytes a datagram has for a sequence header, after 12 of the packet and 4 of the payload
abbrev pub header_room : Packing → ℕ
header_room s = s.size - 16

-- for transform parameters, after 12 and 16
abbrev pub parameters_room : Packing → ℕ
parameters_room s = s.size - 28

-- for slices, after 12 and 20
abbrev pub slices_room : Packing → ℕ
slices_room s = s.size - 32

-- a part by the number of its slice, 0 if it is none, and the bytes that it has
pub record LargePart : Type 0 where
  pub slice : ℕ
  pub bytes : ℕ

abbrev pub part_with : ℕ → List ℕ → LargePart
part_with slice bytes = record { slice = slice; bytes = length bytes }

-- the first slice that has no room, where they are counted from a number on
unfoldable pub first_large_slice : ℕ → ℕ → List (List ℕ) → Option LargePart
first_large_slice room number [] = None
first_large_slice room number (slice ∷ slices) =
    if nat_lt room (length slice) then Some (part_with number slice)
    else first_large_slice room (number + 1) slices

-- the first part in order of sending that has no room
unfoldable pub first_large_part : Packing → PackedPicture → Option LargePart
first_large_part s p =
    if nat_lt (header_room s) (length p.header) then Some (part_with 0 p.header)
    else (if nat_lt (parameters_room s) (length p.coded) then Some (part_with 0 p.coded)
    else first_large_slice (slices_room s) 0 p.slices)

-- ---- the fields of a datagram

-- With field coding two of the pictures before are a frame, and odd-numbered pictures are second fields,
-- which come half a frame later.
unfoldable pub packed_timestamp : Packing → ℕ → ℕ → ℕ
packed_timestamp s before number =
    stamp_at s.rate (if s.fields then 2 * (before / 2) + number % 2 else 2 * before)

-- I (the bit of value 2) with field coding, F (the bit of value 1) in a second field
abbrev pub packed_flags : Packing → ℕ → ℕ
packed_flags s number = if s.fields then 2 + number % 2 else 0

abbrev pub packed_head : Packing → PackedPicture → ℕ → FragmentHead
packed_head s p sequence = record {
  high = high_half sequence;
  flags = packed_flags s p.number;
  number = p.number;
  prefix = p.parameters.prefix;
  scaler = p.parameters.scaler;
}

-- the payload of a datagram by its extended sequence number; of slices, the column and the row of
-- the first
abbrev pub packed_value : Packing → PackedPicture → ℕ → DatagramContent → PayloadValue
packed_value s p sequence HeaderContent = Header (high_half sequence) 4 p.header
packed_value s p sequence ParametersContent = Params (packed_head s p sequence) 16 p.coded
packed_value s p sequence (SlicesContent run) =
    Slices (packed_head s p sequence) (length run.slices) (run.first % p.parameters.slices_x)
    (run.first / p.parameters.slices_x) 20 (run_bytes run)
packed_value s p sequence EndContent = End (high_half sequence)

-- set on the datagram with the picture's last slice alone
abbrev pub ends_picture : Parameters → DatagramContent → Bool
ends_picture p (SlicesContent run) = run_end run == slice_count p
ends_picture p content = false

abbrev pub packet_around : Packing → ℕ → ℕ → Bool → RtpPacket
packet_around s sequence timestamp marker = record {
  marker = marker;
  payload_type = s.pt;
  sequence = sequence % 2 ^ 16;
  timestamp = timestamp;
  ssrc = s.ssrc;
  from = 12;
  to = 12;
}

-- the datagram of a payload
unfoldable pub datagram_around : Packing → ℕ → ℕ → Bool → PayloadValue → List ℕ
datagram_around s sequence timestamp marker value =
    rtp_header (packet_around s sequence timestamp marker) ++ payload_bytes value

-- ---- the datagrams of pictures

-- as many whole slices in one datagram as it has room for
abbrev pub packed_contents : Packing → PackedPicture → List DatagramContent
packed_contents s p = HeaderContent ∷ ParametersContent
    ∷ map SlicesContent (runs_of_slices (slices_room s) p.slices)

-- a picture's datagrams, by their timestamp and the sequence number of the first; the numbers rise
-- by 1
unfoldable pub contents_from : Packing → ℕ → PackedPicture → ℕ → List DatagramContent
    → List (List ℕ)
contents_from s timestamp p sequence [] = []
contents_from s timestamp p sequence (content ∷ contents) =
    datagram_around s sequence timestamp (ends_picture p.parameters content)
    (packed_value s p sequence content)
    ∷ contents_from s timestamp p (sequence + 1) contents

-- those of a picture after so many pictures
abbrev pub packed_picture : Packing → ℕ → ℕ → PackedPicture → List (List ℕ)
packed_picture s before sequence p =
    contents_from s (packed_timestamp s before p.number) p sequence (packed_contents s p)

-- pictures one after another
unfoldable pub packed_from : Packing → ℕ → ℕ → List PackedPicture → List (List ℕ)
packed_from s before sequence [] = []
packed_from s before sequence (p ∷ pictures) =
    packed_picture s before sequence p
    ++ packed_from s (before + 1) (sequence + length (packed_contents s p)) pictures

-- the datagrams of all pictures
unfoldable pub packed_datagrams : Packing → List PackedPicture → List (List ℕ)
packed_datagrams s pictures = packed_from s 0 s.seq pictures

-- ---- the end

-- the timestamp of the last of some pictures, of which so many are before the first, and another
-- one where there is none
unfoldable pub timestamp_behind : Packing → ℕ → ℕ → List PackedPicture → ℕ
timestamp_behind s before timestamp [] = timestamp
timestamp_behind s before timestamp (p ∷ pictures) =
    timestamp_behind s (before + 1) (packed_timestamp s before p.number) pictures

-- an end of sequence
unfoldable pub end_around : Packing → ℕ → ℕ → List ℕ
end_around s sequence timestamp =
    datagram_around s sequence timestamp false (End (high_half sequence))

-- the end after all pictures, with the timestamp before it, 0 if there was none
unfoldable pub packed_end : Packing → List PackedPicture → List ℕ
packed_end s pictures =
    end_around s (s.seq + length (packed_datagrams s pictures)) (timestamp_behind s 0 0 pictures)

-- all datagrams, the end of sequence last
unfoldable pub packed_stream : Packing → List PackedPicture → List (List ℕ)
packed_stream s pictures = packed_datagrams s pictures ++ packed_end s pictures ∷ []
