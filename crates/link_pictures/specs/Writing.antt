-- A stream that is being written (this project's own): what goes out for each released picture, and
-- what is kept of it.
use Rattle.std.specs.Prelude.{◌≡◌, ℕ, ◌-◌, ◌%◌, ◌^◌, Bool, true, false, if◌then◌else◌, List, [], ◌∷◌}
use Rattle.std.specs.Prelude.{◌++◌, Option, Some, None, unwrap_or}
use Rattle.std.specs.Option.{option_map_or}
use Rattle.stream_model.specs.Streams.{units_behind, last_length, behind_header, header_in}
use Rattle.stream_model.specs.Streams.{header_unit, picture_unit}
use Rattle.vc_types.specs.DataUnits.{DataUnit, unit_bytes}
use Rattle.vc_types.specs.ParseCodes.{end_code}

-- The first session's header; whether the next session has opened, which brings the stream nothing;
-- the whole bytes of a first field that waits; and the low 32 bits of the length of the unit that
-- was written last, none before the first.
pub record WrittenStream : Type 0 where
  pub header : List ℕ
  pub is_over : Bool
  pub field : Option (List ℕ)
  pub previous : Option ℕ

abbrev pub nothing_written : WrittenStream
nothing_written = record { header = []; is_over = false; field = None; previous = None }

-- ---- units behind those that were written

-- pictures behind others, or behind their header
abbrev pub units_next : WrittenStream → List DataUnit → List DataUnit
units_next w pictures =
    option_map_or (λ previous. pictures) w.previous (behind_header w.header pictures)

-- the length of the last of them, low 32 bits, or what it was before
abbrev pub length_behind : Option ℕ → List DataUnit → Option ℕ
length_behind previous [] = previous
length_behind previous (u ∷ units) = Some (last_length 0 (u ∷ units) % 2 ^ 32)

-- their bytes
abbrev pub bytes_next : WrittenStream → List DataUnit → List ℕ
bytes_next w pictures = units_behind (unwrap_or w.previous 0) (units_next w pictures)

-- bytes that are units behind those of before, and the length of the last of them
pub record AreUnits (before : Option ℕ) (units : List DataUnit) (bytes : List ℕ)
    (after : Option ℕ) : Type 0 where
  pub are : bytes ≡ units_behind (unwrap_or before 0) units
  pub last : after ≡ length_behind before units

-- the header before the first pictures
abbrev pub header_before : List ℕ → Option ℕ → List DataUnit
header_before header None = header_unit header ∷ []
header_before header (Some previous) = []

-- ---- a released picture

-- its whole bytes, if it is complete; whether a frame goes out of which it is the last picture; and
-- whether it is a first field that waits from now on
pub record ReleasedPicture : Type 0 where
  pub number : ℕ
  pub whole : Option (List ℕ)
  pub has_frame : Bool
  pub waits : Bool

abbrev pub field_unit : ℕ → Option (List ℕ) → List DataUnit
field_unit n field = option_map_or (λ whole. picture_unit n whole ∷ []) field []

-- the pictures of its frame
abbrev pub released_pictures : WrittenStream → ReleasedPicture → List DataUnit
released_pictures w p =
    if p.has_frame
    then field_unit (p.number - 1) w.field ++ picture_unit p.number (unwrap_or p.whole []) ∷ []
    else []

abbrev pub behind_picture : WrittenStream → ReleasedPicture → WrittenStream
behind_picture w p = record w {
  field = if p.waits then p.whole else None;
  previous = length_behind w.previous (units_next w (released_pictures w p));
}

unfoldable pub writes_picture : WrittenStream → ReleasedPicture → WrittenStream
writes_picture w p = if w.is_over then w else behind_picture w p

unfoldable pub picture_bytes : WrittenStream → ReleasedPicture → List ℕ
picture_bytes w p = if w.is_over then [] else bytes_next w (released_pictures w p)

-- ---- a session opens, and the end

-- the first one by its header, any other behind it
abbrev pub opens_stream : WrittenStream → Bool → List ℕ → WrittenStream
opens_stream w is_first datagram =
    if is_first then record w { header = header_in datagram; field = None }
    else record w { is_over = true; field = None }

-- the end of sequence, where there are units
abbrev pub end_of_stream : WrittenStream → List ℕ
end_of_stream w = option_map_or (λ previous. unit_bytes end_code [] previous) w.previous []
