-- What an elementary stream brings to a packer, unit by unit (ST 2042-1, sequence): headers of one
-- value, and pictures, each with all its slices.
use Rattle.std.specs.Prelude.{ℕ, ◌+◌, ◌==◌, nat_lt, if◌then◌else◌, false, List, [], ◌∷◌, ◌++◌}
use Rattle.std.specs.Prelude.{length, take, drop, Option, Some, None, Result, Ok, Err}
use Rattle.std.specs.Option.{option_map_or}
use Rattle.byteorder.specs.Endian.{big_number}
use Rattle.link_model.specs.Kept.{next_slices}
use Rattle.stream_model.specs.Packing.{LargePart, PackedPicture, first_large_part, packed_datagrams}
use Rattle.stream_model.specs.Packing.{packed_stream}
use Rattle.vc_types.specs.DataUnits.{DataUnit, unit_length}
use Rattle.vc_types.specs.ParseCodes.{header_code, low_delay_code, picture_code}
use Rattle.vc_types.specs.SameValues.{same_sequence}
use Rattle.vc_types.specs.SenderSettings.{Packing}
use Rattle.vc_types.specs.SequenceHeader.{Sequence, coded_header}
use Rattle.vc_types.specs.Subbands.{slice_count}
use Rattle.vc_types.specs.TransformParameters.{Parameters, coded_parameters}
use Rattle.vc_types.specs.declared.refusal.HeaderRefusal.{HeaderRefusal}
use Rattle.vc_types.specs.declared.refusal.ParamsRefusal.{ParamsRefusal}

-- ---- units

-- a stream whose first header came: its sequence, the bytes of the last header, and the pictures up
-- to now
pub record PackStream : Type 0 where
  pub sequence : Sequence
  pub header : List ℕ
  pub pictures : List PackedPicture

-- why a unit isn't packed: it is refused, or a part of its picture has no room in a datagram
pub data PackFault : Type 0 where
  BadUnit : PackFault
  PartTooLarge : (part : LargePart) → PackFault

-- the settings of a stream: its header tells whether its pictures are fields
abbrev pub settings_for : Packing → Option PackStream → Packing
settings_for s stream =
    record s { fields = option_map_or (λ t. t.sequence.fields) stream false }

-- the first header begins the stream, and others have its value; the bytes that are used of one
-- stand for the pictures after it
abbrev pub packs_header : Option PackStream → List ℕ → Result (Sequence × ℕ) HeaderRefusal
    → Result (Option PackStream) PackFault
packs_header stream body (Err refusal) = Err BadUnit
packs_header None body (Ok read) =
    Ok (Some (record { sequence = read.0; header = take read.1 body; pictures = [] }))
packs_header (Some t) body (Ok read) =
    if same_sequence t.sequence read.0 then Ok (Some (record t { header = take read.1 body }))
    else Err BadUnit

-- a picture whose slices were read, if they are all there; bytes after them are ignored
abbrev pub with_all_slices : List ℕ → ℕ → List ℕ → Parameters
    → Result (List (List ℕ) × List ℕ) (Unit {0}) → Option PackedPicture
with_all_slices header number coded p (Err short) = None
with_all_slices header number coded p (Ok read) = Some (record {
  number = number;
  header = header;
  coded = coded;
  parameters = p;
  slices = read.0;
})

abbrev pub with_read_parameters : List ℕ → ℕ → List ℕ → Result (Parameters × ℕ) ParamsRefusal
    → Option PackedPicture
with_read_parameters header number bytes (Err refusal) = None
with_read_parameters header number bytes (Ok read) =
    with_all_slices header number (take read.1 bytes) read.0
    (next_slices read.0 (slice_count read.0) (drop read.1 bytes))

-- the picture of a unit's body: its number in 4 bytes, the transform parameters and the slices
unfoldable pub picture_to_pack : PackStream → List ℕ → Option PackedPicture
picture_to_pack t body =
    if nat_lt (length body) 4 then None
    else with_read_parameters t.header (big_number 4 body) (drop 4 body)
    (coded_parameters t.sequence (drop 4 body))

abbrev pub with_packed : PackStream → PackedPicture → PackStream
with_packed t p = record t { pictures = t.pictures ++ p ∷ [] }

abbrev pub if_it_fits : PackStream → PackedPicture → Option LargePart
    → Result (Option PackStream) PackFault
if_it_fits t p None = Ok (Some (with_packed t p))
if_it_fits t p (Some part) = Err (PartTooLarge part)

abbrev pub if_it_is_whole : Packing → PackStream → Option PackedPicture
    → Result (Option PackStream) PackFault
if_it_is_whole s t None = Err BadUnit
if_it_is_whole s t (Some p) = if_it_fits t p (first_large_part (settings_for s (Some t)) p)

-- there is no picture before the first header
abbrev pub packs_picture : Packing → Option PackStream → List ℕ
    → Result (Option PackStream) PackFault
packs_picture s None body = Err BadUnit
packs_picture s (Some t) body = if_it_is_whole s t (picture_to_pack t body)

-- A unit more: a sequence header of the first one's value, or a picture after a header, which has
-- all its slices and whose parts have room in datagrams. A low-delay picture is refused, and other
-- units bring nothing.
unfoldable pub packs_unit : Packing → Option PackStream → DataUnit
    → Result (Option PackStream) PackFault
packs_unit s stream u =
    if u.code == header_code then packs_header stream u.body (coded_header u.body)
    else (if u.code == picture_code then packs_picture s stream u.body
    else (if u.code == low_delay_code then Err BadUnit
    else Ok stream))

-- what came up to now, and the place of the next unit
pub record PackedSoFar : Type 0 where
  pub stream : Option PackStream
  pub place : ℕ

abbrev pub packed_behind : PackedSoFar → DataUnit → Option PackStream → PackedSoFar
packed_behind h u stream = record { stream = stream; place = h.place + unit_length u }

abbrev pub nothing_packed : PackedSoFar
nothing_packed = record { stream = None; place = 0 }

abbrev pub packed_with : PackedSoFar → (Option PackStream → PackedSoFar × Option PackFault)
    → Result (Option PackStream) PackFault → PackedSoFar × Option PackFault
packed_with h go_on (Ok next) = go_on next
packed_with h go_on (Err fault) = (h, Some fault)

-- what comes of units up to the first that isn't packed, and why that one isn't
unfoldable pub packed_of : Packing → PackedSoFar → List DataUnit → PackedSoFar × Option PackFault
packed_of s h [] = (h, None)
packed_of s h (u ∷ units) =
    packed_with h (λ next. packed_of s (packed_behind h u next) units) (packs_unit s h.stream u)

abbrev pub units_packed : Packing → List DataUnit → PackedSoFar × Option PackFault
units_packed s units = packed_of s nothing_packed units

-- ---- the datagrams of a stream

abbrev pub pictures_packed : Option PackStream → List PackedPicture
pictures_packed stream = option_map_or (λ t. t.pictures) stream []

-- those of its pictures
abbrev pub stream_packed : Packing → Option PackStream → List (List ℕ)
stream_packed s stream = packed_datagrams (settings_for s stream) (pictures_packed stream)

-- the same, and after them the end of the sequence
abbrev pub whole_packed : Packing → Option PackStream → List (List ℕ)
whole_packed s stream = packed_stream (settings_for s stream) (pictures_packed stream)
