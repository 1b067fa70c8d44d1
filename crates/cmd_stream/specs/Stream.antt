-- What an elementary stream brings, unit by unit (ST 2042-1, sequence): headers of one profile and
-- one value, and pictures, each decoded by itself; and the frames that its pictures make.
use Rattle.std.specs.Prelude.{ℕ, ◌+◌, ◌-◌, ◌*◌, ◌%◌, Bool, true, false, ◌&&◌, ◌||◌, ◌==◌, nat_lt}
use Rattle.std.specs.Prelude.{if◌then◌else◌, List, [], ◌∷◌, ◌++◌, length, map, drop, Option}
use Rattle.std.specs.Prelude.{Some, None, option_and_then}
use Rattle.std.specs.Option.{option_map, option_map_or, option_or}
use Rattle.std.specs.Result.{result_ok}
use Rattle.std.specs.List.{flat_map}
use Rattle.cmd_stream.specs.declared.coding.Coding.{Coding}
use Rattle.cmd_stream.specs.declared.coding.Coding.TheVariants.{HighQuality, LowDelay}
use Rattle.vc_types.specs.RawFrames.{is_wide, frame_bytes}
use Rattle.vc_types.specs.FieldPairs.{woven}
use Rattle.byteorder.specs.Endian.{big_number}
use Rattle.vc_types.specs.ParseCodes.{header_code, low_delay_code, picture_code}
use Rattle.vc_types.specs.Planes.{Planes, decoded_planes}
use Rattle.vc_types.specs.SameValues.{same_sequence}
use Rattle.vc_types.specs.SequenceHeader.{Sequence, coded_header_of, coded_whole_header_of}
use Rattle.vc_types.specs.SequenceHeader.{high_quality_profile, low_delay_profile, picture_shape}
use Rattle.vc_types.specs.declared.presentation.Presentation.{Presentation}
use Rattle.vc_types.specs.DataUnits.{DataUnit, unit_length}
use Rattle.vc_lowdelay.specs.LowDelay.{decoded_low_planes}

-- ---- how pictures are coded: in high quality or in low delay

-- the profile of the headers
abbrev pub profile_of : Coding → ℕ
profile_of HighQuality = high_quality_profile
profile_of LowDelay = low_delay_profile

-- the parse code of the pictures
abbrev pub picture_code_of : Coding → ℕ
picture_code_of HighQuality = picture_code
picture_code_of LowDelay = low_delay_code

-- the planes of a picture's own bytes, if it decodes
abbrev pub decoded : Coding → Sequence → List ℕ → Option Planes
decoded HighQuality sequence bytes = decoded_planes sequence bytes
decoded LowDelay sequence bytes = decoded_low_planes sequence bytes

-- ---- streams

pub record StreamPicture : Type 0 where
  pub number : ℕ
  pub planes : Planes

-- a stream whose first header came: how its pictures are coded, its sequence, how this header says that
-- its frames are shown, and the pictures behind it
pub record Stream : Type 0 where
  pub coding : Coding
  pub sequence : Sequence
  pub presentation : Presentation
  pub pictures : List StreamPicture

-- ---- headers

-- the value of the header that begins a unit's body, if it is one of this coding's profile
abbrev pub sequence_in : Coding → List ℕ → Option Sequence
sequence_in coding body =
    option_map (λ read. read.0) (result_ok (coded_header_of (profile_of coding) body))

-- the same, and how its frames are shown
abbrev pub said_in : Coding → List ℕ → Option (Sequence × Presentation)
said_in coding body =
    option_map (λ read. read.0) (result_ok (coded_whole_header_of (profile_of coding) body))

-- a stream whose header says this, without pictures
abbrev pub begun_with : Coding → Sequence × Presentation → Stream
begun_with coding said =
    record { coding = coding; sequence = said.0; presentation = said.1; pictures = [] }

abbrev pub begun_as : Coding → List ℕ → Option Stream
begun_as coding body = option_map (begun_with coding) (said_in coding body)

-- the stream of a first header: of high quality or, where it isn't that, of low delay
abbrev pub begun_by : List ℕ → Option Stream
begun_by body = option_or (begun_as HighQuality body) (begun_as LowDelay body)

-- a later header has the profile and the value of the first, of which the presentation is no part
abbrev pub repeats : Coding → Sequence → List ℕ → Bool
repeats coding sequence body =
    option_map_or (same_sequence sequence) (sequence_in coding body) false

abbrev pub with_header : Option Stream → List ℕ → Option Stream
with_header None body = begun_by body
with_header (Some stream) body =
    if repeats stream.coding stream.sequence body then Some stream else None

-- ---- pictures

-- the picture of a unit's body: its number in 4 bytes, the transform parameters and the slices
unfoldable pub picture_in : Coding → Sequence → List ℕ → Option StreamPicture
picture_in coding sequence body =
    if nat_lt (length body) 4 then None
    else option_map (λ planes. record { number = big_number 4 body; planes = planes })
    (decoded coding sequence (drop 4 body))

abbrev pub with_picture : Stream → StreamPicture → Stream
with_picture stream p = record {
  coding = stream.coding;
  sequence = stream.sequence;
  presentation = stream.presentation;
  pictures = stream.pictures ++ p ∷ [];
}

-- a picture more, if it is coded as the stream's pictures are and decodes
abbrev pub shows : DataUnit → Stream → Option Stream
shows u stream =
    if u.code == picture_code_of stream.coding then
    option_map (with_picture stream) (picture_in stream.coding stream.sequence u.body)
    else None

-- ---- units

-- A unit more: a sequence header of the first one's profile and value, or a picture behind a
-- header, which is coded as the profile says and decodes soundly. Other units bring nothing. None
-- where the unit is refused.
unfoldable pub takes : Option Stream → DataUnit → Option (Option Stream)
takes stream u =
    if u.code == header_code then option_map (λ next. Some next) (with_header stream u.body)
    else if u.code == picture_code || u.code == low_delay_code then
    option_map (λ next. Some next) (option_and_then (shows u) stream)
    else Some stream

-- what came up to now, and the place of the next unit
pub record StreamSoFar : Type 0 where
  pub stream : Option Stream
  pub place : ℕ

abbrev pub at_start : StreamSoFar
at_start = record { stream = None; place = 0 }

abbrev pub after_unit : StreamSoFar → DataUnit → Option Stream → StreamSoFar
after_unit h u stream = record { stream = stream; place = h.place + unit_length u }

-- what comes of units up to the first that is refused, and whether one is
unfoldable pub all_taken : StreamSoFar → List DataUnit → StreamSoFar × Bool
all_taken h [] = (h, false)
all_taken h (u ∷ units) =
    option_map_or (λ stream. all_taken (after_unit h u stream) units) (takes h.stream u) (h, true)

abbrev pub units_taken : List DataUnit → StreamSoFar × Bool
units_taken units = all_taken at_start units

-- ---- frames

-- the later field of an even number's frame has the next number
abbrev pub is_pair : StreamPicture → StreamPicture → Bool
is_pair earlier later = earlier.number % 2 == 0 && later.number == earlier.number + 1

-- neighbouring fields of one frame are woven; every other field is dropped
unfoldable pub paired_frames : Bool → List StreamPicture → List Planes
paired_frames top_first (a ∷ b ∷ rest) =
    if is_pair a b then woven top_first a.planes b.planes ∷ paired_frames top_first rest
    else paired_frames top_first (b ∷ rest)
paired_frames top_first pictures = []

-- the frames, in the order of the stream; with frame coding each picture is one
abbrev pub stream_frames : Stream → List Planes
stream_frames stream =
    if stream.sequence.fields then paired_frames stream.sequence.top_first stream.pictures
    else map (λ p. p.planes) stream.pictures

-- the raw bytes of frames
abbrev pub raw_frames : Sequence → List Planes → List ℕ
raw_frames sequence frames =
    flat_map (λ frame. frame_bytes frame (is_wide (picture_shape sequence))) frames

-- what is written of a stream
abbrev pub played : Option Stream → List ℕ
played stream = option_map_or (λ s. raw_frames s.sequence (stream_frames s)) stream []

-- ---- counts

abbrev pub pictures_in : Option Stream → ℕ
pictures_in stream = option_map_or (λ s. length s.pictures) stream 0

abbrev pub frames_in : Option Stream → ℕ
frames_in stream = option_map_or (λ s. length (stream_frames s)) stream 0

-- the fields that are part of no frame
abbrev pub unpaired_in : Option Stream → ℕ
unpaired_in stream =
    option_map_or
    (λ s. if s.sequence.fields then length s.pictures - 2 * length (stream_frames s) else 0)
    stream 0
