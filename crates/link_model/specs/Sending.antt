-- The datagrams that this project's sender sends: for each picture a sequence header, transform
-- parameters and slices, and an end of sequence after the last (RFC 3550, 5.1; RFC 8450, 4). Each
-- field of a datagram is a function of the datagram's number, of its picture's number, and of what
-- it carries.
use Rattle.std.specs.Prelude.{◌<◌, ◌≤◌, ℕ, ◌+◌, ◌-◌, ◌*◌, ◌/◌, ◌%◌, ◌^◌, Bool, false, ◌==◌, nat_le}
use Rattle.std.specs.Prelude.{if◌then◌else◌, List, [], ◌∷◌, ◌++◌, length, drop, map}
use Rattle.std.specs.List.{flat_map, enumerate_from}
use Rattle.link_model.specs.Kept.{SliceRun}
use Rattle.link_model.specs.Packets.{RtpPacket, rtp_header, FragmentHead, PayloadValue, Header, End}
use Rattle.link_model.specs.Packets.{Params, Slices, payload_bytes}
use Rattle.link_model.specs.SendingPictures.{sent_header, sent_parameters, sent_parameter_bytes}
use Rattle.link_model.specs.SendingPictures.{sent_slices, slice_room, Need, picture_needs}
use Rattle.link_model.specs.SendingPictures.{chosen_indices}
use Rattle.vc_types.specs.FieldPairs.{fields_of}
use Rattle.vc_types.specs.Fields.{joined}
use Rattle.vc_types.specs.Planes.{Planes}
use Rattle.vc_types.specs.Rates.{stamp_at}
use Rattle.vc_types.specs.SenderSettings.{Sending}
use Rattle.vc_types.specs.Subbands.{slice_count}

-- ---- which slices go into one datagram: as many whole ones as it has room for

abbrev pub run_bytes : SliceRun → List ℕ
run_bytes run = joined run.slices

-- the number of the slice after a run
abbrev pub run_end : SliceRun → ℕ
run_end run = run.first + length run.slices

abbrev pub run_with : SliceRun → List ℕ → SliceRun
run_with run slice = record { first = run.first; slices = run.slices ++ slice ∷ [] }

abbrev pub run_of_one : ℕ → List ℕ → SliceRun
run_of_one first slice = record { first = first; slices = slice ∷ [] }

abbrev pub has_room : ℕ → SliceRun → List ℕ → Bool
has_room room run slice = nat_le (length (run_bytes run) + length slice) room

-- a run, and those after it: it takes the next slice if there is room, else that one begins
-- another run
unfoldable pub runs_from : ℕ → SliceRun → List (List ℕ) → List SliceRun
runs_from room run [] = run ∷ []
runs_from room run (slice ∷ slices) =
    if has_room room run slice then runs_from room (run_with run slice) slices
    else run ∷ runs_from room (run_of_one (run_end run) slice) slices

-- the runs of a picture's slices
unfoldable pub runs_of_slices : ℕ → List (List ℕ) → List SliceRun
runs_of_slices room [] = []
runs_of_slices room (slice ∷ slices) = runs_from room (run_of_one 0 slice) slices

-- ---- what is sent of a picture

pub data DatagramContent : Type 0 where
  HeaderContent : DatagramContent
  ParametersContent : DatagramContent
  SlicesContent : (run : SliceRun) → DatagramContent
  EndContent : DatagramContent

-- what a datagram carries, and of which picture, counted from the first
pub record Outgoing : Type 0 where
  pub picture : ℕ
  pub content : DatagramContent

abbrev pub outgoing : ℕ → DatagramContent → Outgoing
outgoing picture content = record { picture = picture; content = content }

abbrev pub picture_runs : Sending → List ℕ → Planes → List SliceRun
picture_runs s indices planes =
    runs_of_slices (slice_room s) (sent_slices (sent_parameters s) planes indices)

unfoldable pub picture_outgoing : Sending → ℕ → List ℕ → Planes → List Outgoing
picture_outgoing s picture indices planes =
    map (outgoing picture)
    (HeaderContent ∷ ParametersContent ∷ map SlicesContent (picture_runs s indices planes))

-- ---- the fields of a datagram, by its extended sequence number and what it carries

-- the upper half of the extended sequence number
abbrev pub high_half : ℕ → ℕ
high_half number = number % 2 ^ 32 / 2 ^ 16

-- set on the datagram with the picture's last slice alone
abbrev pub has_marker : Sending → DatagramContent → Bool
has_marker s (SlicesContent run) = run_end run == s.across * s.down
has_marker s content = false

-- a field is shown for half as long as a frame
unfoldable pub timestamp_of : Sending → ℕ → ℕ
timestamp_of s picture = stamp_at s.rate (if s.frames.fields then picture else 2 * picture)

-- I (the bit of value 2) with field coding, F (the bit of value 1) in a second field
abbrev pub flags_byte : Sending → ℕ → ℕ
flags_byte s picture = if s.frames.fields then 2 + picture % 2 else 0

-- the 32 bits of a picture's number
abbrev pub number_bits : Sending → ℕ → ℕ
number_bits s picture = (s.picture + picture) % 2 ^ 32

abbrev pub sent_head : Sending → ℕ → ℕ → FragmentHead
sent_head s number picture = record {
  high = high_half number;
  flags = flags_byte s picture;
  number = number_bits s picture;
  prefix = s.prefix;
  scaler = s.scaler;
}

-- the slices of a run, the column and the row of the first in front
abbrev pub run_value : Sending → FragmentHead → SliceRun → PayloadValue
run_value s head run =
    Slices head (length run.slices) (run.first % s.across) (run.first / s.across) 20 (run_bytes run)

abbrev pub content_value : Sending → ℕ → ℕ → DatagramContent → PayloadValue
content_value s number picture HeaderContent = Header (high_half number) 4 (sent_header s)
content_value s number picture ParametersContent =
    Params (sent_head s number picture) 16 (sent_parameter_bytes s)
content_value s number picture (SlicesContent run) = run_value s (sent_head s number picture) run
content_value s number picture EndContent = End (high_half number)

unfoldable pub sent_value : Sending → ℕ → Outgoing → PayloadValue
sent_value s number o = content_value s number o.picture o.content

-- the packet around so many bytes of payload
unfoldable pub sent_packet : Sending → ℕ → Outgoing → ℕ → RtpPacket
sent_packet s number o bytes = record {
  marker = has_marker s o.content;
  payload_type = s.pt;
  sequence = number % 2 ^ 16;
  timestamp = timestamp_of s o.picture;
  ssrc = s.ssrc;
  from = 12;
  to = 12 + bytes;
}

unfoldable pub sent_datagram : Sending → ℕ → Outgoing → List ℕ
sent_datagram s number o =
    let bytes = payload_bytes (sent_value s number o) in
    rtp_header (sent_packet s number o (length bytes)) ++ bytes

-- settings whose fields have their bits
pub record AreSettings (s : Sending) : Type 0 where
  pub payload_type : s.pt < 2 ^ 7
  pub ssrc : s.ssrc < 2 ^ 32
  pub prefix : s.prefix < 2 ^ 16
  pub scaler : s.scaler < 2 ^ 16
  pub across : s.across < 2 ^ 16
  pub some_across : 1 ≤ s.across
  pub down : s.down < 2 ^ 16

-- slices of a picture, which fit the fields of a fragment
pub record IsRunOf (s : Sending) (run : SliceRun) : Type 0 where
  pub some : 1 ≤ length run.slices
  pub few : length run.slices < 2 ^ 16
  pub inside : run.first < s.across * s.down
  pub short : length (run_bytes run) < 2 ^ 16

-- what is carried fits the fields of its head
abbrev pub FitsDatagram : Sending → DatagramContent → Type 0
FitsDatagram s HeaderContent = Unit {0}
FitsDatagram s ParametersContent = length (sent_parameter_bytes s) < 2 ^ 16
FitsDatagram s (SlicesContent run) = IsRunOf s run
FitsDatagram s EndContent = Unit {0}

-- ---- whole frames

abbrev pub both_fields : Planes × Planes → List Planes
both_fields fields = fields.0 ∷ fields.1 ∷ []

-- the pictures of a frame, the earlier first
unfoldable pub pictures_of : Sending → Planes → List Planes
pictures_of s frame =
    if s.frames.fields then both_fields (fields_of s.frames.top frame) else frame ∷ []

abbrev pub pictures_per_frame : Sending → ℕ
pictures_per_frame s = if s.frames.fields then 2 else 1

-- what is told of a frame's slices, in order of sending
unfoldable pub frame_needs : Sending → Bool → Planes → List Need
frame_needs s wanted frame = flat_map (picture_needs s wanted) (pictures_of s frame)

-- pictures one after another, from one on; the indices of their slices are in one list
unfoldable pub pictures_outgoing : Sending → ℕ → List ℕ → List Planes → List Outgoing
pictures_outgoing s picture indices [] = []
pictures_outgoing s picture indices (planes ∷ pictures) =
    picture_outgoing s picture indices planes
    ++ pictures_outgoing s (picture + 1) (drop (slice_count (sent_parameters s)) indices) pictures

-- sequence numbers rise by 1
unfoldable pub datagrams_from : Sending → ℕ → List Outgoing → List (List ℕ)
datagrams_from s number outgoing =
    map (λ z. sent_datagram s z.0 z.1) (enumerate_from number outgoing)

-- the datagrams of frame f, by the first one's sequence number
unfoldable pub frame_datagrams : Sending → ℕ → ℕ → List ℕ → Planes → List (List ℕ)
frame_datagrams s f number indices frame =
    datagrams_from s number
    (pictures_outgoing s (f * pictures_per_frame s) indices (pictures_of s frame))

-- what is sent of frames, with one index for each slice in order of sending
abbrev pub frames_outgoing : Sending → List ℕ → List Planes → List Outgoing
frames_outgoing s indices frames =
    pictures_outgoing s 0 indices (flat_map (pictures_of s) frames)

unfoldable pub sent_datagrams : Sending → List ℕ → List Planes → List (List ℕ)
sent_datagrams s indices frames = datagrams_from s s.seq (frames_outgoing s indices frames)

-- after so many frames, the timestamp before it again: picture 0 has timestamp 0, and so has the
-- end where no frame was
unfoldable pub end_datagram : Sending → ℕ → ℕ → List ℕ
end_datagram s number frames =
    sent_datagram s number (outgoing (frames * pictures_per_frame s - 1) EndContent)

-- the end of sequence after all datagrams of frames
unfoldable pub last_datagram : Sending → List ℕ → List Planes → List ℕ
last_datagram s indices frames =
    end_datagram s (s.seq + length (frames_outgoing s indices frames)) (length frames)

-- all datagrams, the end of sequence last
unfoldable pub sent_stream : Sending → List ℕ → List Planes → List (List ℕ)
sent_stream s indices frames =
    sent_datagrams s indices frames ++ last_datagram s indices frames ∷ []

-- the indices of all slices of frames, as the settings choose them
unfoldable pub frames_indices : Sending → List Planes → List ℕ
frames_indices s frames = flat_map (chosen_indices s) (flat_map (pictures_of s) frames)
