-- Sequence headers (ST 2042-1, sequence header): the fields in order, and the first refusal.
use Rattle.std.specs.Prelude.{ℕ, ◌-◌, ◌^◌, ◌/◌, Bool, ◌&&◌, ◌||◌, List, length}
use Rattle.std.specs.Prelude.{nat_le, ◌==◌, if◌then◌else◌, Result, Ok, Err, Option, Some, None}
use Rattle.vc_types.specs.Bits.{bits_of}
use Rattle.vc_types.specs.declared.header.Header.{Header}
use Rattle.vc_types.specs.declared.presentation.Choice.{Choice}
use Rattle.vc_types.specs.declared.presentation.Choice.TheVariants.{Preset, Custom}
use Rattle.vc_types.specs.declared.presentation.CleanArea.{CleanArea}
use Rattle.vc_types.specs.declared.presentation.Colour.{Colour}
use Rattle.vc_types.specs.declared.presentation.Presentation.{Presentation}
use Rattle.vc_types.specs.declared.shape.Shape.{Shape}
use Rattle.vc_types.specs.declared.video.Sampling.{Sampling}
use Rattle.vc_types.specs.declared.video.Sampling.TheVariants.{S444, S422, S420}
use Rattle.vc_types.specs.declared.video.SignalRange.{SignalRange}
use Rattle.vc_types.specs.declared.refusal.HeaderRefusal.{HeaderRefusal}
use Rattle.vc_types.specs.declared.refusal.HeaderRefusal.TheVariants as refusals
use Rattle.vc_types.specs.Video.{BaseFormat, format_of, range_of, signal_range, dimensions_fit}
use Rattle.vc_types.specs.Video.{excursion_fits, colour_width, colour_height, picture_height, video_depth}
use Rattle.vc_types.specs.Fields.{Field, ◌>>=◌, give, refuse, tested, behind_flag, number_up_to}
use Rattle.vc_types.specs.Presentations.{area, presentation_of}

-- the value of a sequence header
pub record Sequence : Type 0 where
  pub major : ℕ
  pub minor : ℕ
  pub level : ℕ
  pub base : ℕ
  pub width : ℕ
  pub height : ℕ
  pub sampling : Sampling
  pub interlaced : Bool
  pub top_first : Bool
  pub range : SignalRange
  pub fields : Bool

abbrev pub sequence_of : Header → Sequence
sequence_of h = record {
  major = h.major;
  minor = h.minor;
  level = h.level;
  base = h.base;
  width = h.width;
  height = h.height;
  sampling = h.sampling;
  interlaced = h.interlaced;
  top_first = h.top_first;
  range = h.range;
  fields = h.fields;
}

abbrev pub HeaderField : Type 0 → Type 0
HeaderField X = Field Bool HeaderRefusal X

-- ---- profiles

abbrev pub low_delay_profile : ℕ
low_delay_profile = 0

abbrev pub high_quality_profile : ℕ
high_quality_profile = 3

-- the major versions of a profile's headers: version 1 is of low delay alone
abbrev pub is_version_of : ℕ → ℕ → Bool
is_version_of p n = (p == low_delay_profile && n == 1) || n == 2 || n == 3

-- ---- the fields

unfoldable pub header_number : HeaderField ℕ
header_number = number_up_to refusals.Short refusals.TooLarge (2 ^ 32 - 1)

-- a number of at most a limit
abbrev pub index : ℕ → HeaderRefusal → HeaderField ℕ
index limit refusal = tested (λ n. nat_le n limit) refusal header_number

-- a part of the header behind its flag
abbrev pub part : {X : Type 0} → X → HeaderField X → HeaderField X
part default field = behind_flag refusals.Short default field

unfoldable pub major_version : ℕ → HeaderField ℕ
major_version p = tested (λ n. is_version_of p n) refusals.Version header_number

unfoldable pub profile : ℕ → HeaderField ℕ
profile p = tested (λ n. n == p) refusals.Profile header_number

unfoldable pub base_video_format : HeaderField ℕ
base_video_format = index 16 refusals.BaseFormat

unfoldable pub frame_size : BaseFormat → HeaderField (ℕ × ℕ)
frame_size base = part (base.width, base.height) (do
  width ← header_number
  height ← header_number
  give (width, height))

abbrev pub sampling_by_index : ℕ → Sampling
sampling_by_index index = if index == 0 then S444 else (if index == 1 then S422 else S420)

unfoldable pub colour_difference_sampling : BaseFormat → HeaderField Sampling
colour_difference_sampling base = part base.sampling (do
  format ← index 2 refusals.SamplingIndex
  give (sampling_by_index format))

unfoldable pub scan_format : BaseFormat → HeaderField Bool
scan_format base = part base.interlaced (do
  scan ← index 1 refusals.ScanIndex
  give (scan == 1))

-- an index and, where it is 0, a numerator and a denominator: frame rate and pixel aspect ratio
unfoldable pub ratio : Choice (ℕ × ℕ) → HeaderField (Choice (ℕ × ℕ))
ratio default = part default (do
  preset ← header_number
  if preset == 0 then (do
    numerator ← header_number
    denominator ← header_number
    give (Custom (numerator, denominator))) else give (Preset preset))

unfoldable pub clean_area : CleanArea → HeaderField CleanArea
clean_area default = part default (do
  width ← header_number
  height ← header_number
  left ← header_number
  top ← header_number
  give (area width height left top))

unfoldable pub excursion : HeaderField ℕ
excursion = tested excursion_fits refusals.SignalRange header_number

unfoldable pub custom_signal_range : HeaderField SignalRange
custom_signal_range = do
  luma_offset ← header_number
  luma_excursion ← excursion
  colour_offset ← header_number
  colour_excursion ← excursion
  give (signal_range luma_offset luma_excursion colour_offset colour_excursion)

unfoldable pub signal_range_of : BaseFormat → HeaderField SignalRange
signal_range_of base = part (range_of base.range) (do
  preset ← index 4 refusals.SignalRange
  if preset == 0 then custom_signal_range else give (range_of preset))

-- colour primaries, colour matrix or transfer function
unfoldable pub colour_part : HeaderField (Option ℕ)
colour_part = part None (do
  preset ← header_number
  give (Some preset))

unfoldable pub colour_specification : Choice Colour → HeaderField (Choice Colour)
colour_specification default = part default (do
  preset ← header_number
  if preset == 0 then (do
    primaries ← colour_part
    matrix ← colour_part
    transfer ← colour_part
    give (Custom (record { primaries = primaries; matrix = matrix; transfer = transfer })))
      else give (Preset preset))

-- whether pictures are fields
unfoldable pub picture_coding_mode : HeaderField Bool
picture_coding_mode = do
  mode ← index 1 refusals.CodingMode
  give (mode == 1)

-- ---- the whole header

-- a header of profile p, and how its frames are meant to be shown
unfoldable pub whole_header_of : ℕ → HeaderField (Sequence × Presentation)
whole_header_of p = do
  major ← major_version p
  minor ← header_number
  same_profile ← profile p
  level ← header_number
  base ← base_video_format
  size ← frame_size (format_of base)
  sampling ← colour_difference_sampling (format_of base)
  interlaced ← scan_format (format_of base)
  frame_rate ← ratio (presentation_of base).frame_rate
  aspect_ratio ← ratio (presentation_of base).aspect_ratio
  clean_area ← clean_area (presentation_of base).clean_area
  range ← signal_range_of (format_of base)
  colour ← colour_specification (presentation_of base).colour
  fields ← picture_coding_mode
  if dimensions_fit size.0 size.1 sampling fields then give (
    record {
      major = major;
      minor = minor;
      level = level;
      base = base;
      width = size.0;
      height = size.1;
      sampling = sampling;
      interlaced = interlaced;
      top_first = (format_of base).top_first;
      range = range;
      fields = fields;
    },
    record {
      frame_rate = frame_rate;
      aspect_ratio = aspect_ratio;
      clean_area = clean_area;
      colour = colour;
    },
  ) else refuse refusals.Dimensions

-- the value of a header of profile p, of which the presentation is no part
unfoldable pub sequence_header_of : ℕ → HeaderField Sequence
sequence_header_of p = do
  read ← whole_header_of p
  give read.0

-- a header of high quality
abbrev pub sequence_header : HeaderField Sequence
sequence_header = sequence_header_of high_quality_profile

-- how many bytes were used, where these bits are left behind a field
abbrev pub bytes_used : List ℕ → List Bool → ℕ
bytes_used bytes left = length bytes - length left / 8

-- a field at the front of these bytes: its value and the bytes that it takes
abbrev pub with_bytes_used : {E X : Type 0} → List ℕ → Result (X × List Bool) E → Result (X × ℕ) E
with_bytes_used bytes (Ok read) = Ok (read.0, bytes_used bytes read.1)
with_bytes_used bytes (Err refusal) = Err refusal

-- the header of profile p at the front of bytes and how many of them it takes, or the first
-- refusal
abbrev pub coded_whole_header_of : ℕ → List ℕ
    → Result ((Sequence × Presentation) × ℕ) HeaderRefusal
coded_whole_header_of p bytes = with_bytes_used bytes (whole_header_of p (bits_of bytes))

-- its value alone
abbrev pub coded_header_of : ℕ → List ℕ → Result (Sequence × ℕ) HeaderRefusal
coded_header_of p bytes = with_bytes_used bytes (sequence_header_of p (bits_of bytes))

-- the same of high quality
abbrev pub coded_header : List ℕ → Result (Sequence × ℕ) HeaderRefusal
coded_header bytes = coded_header_of high_quality_profile bytes

-- ---- the planes of one picture of the sequence

unfoldable pub picture_shape : Sequence → Shape
picture_shape s = record {
  luma_width = s.width;
  luma_height = picture_height s.fields s.height;
  colour_width = colour_width s.sampling s.width;
  colour_height = picture_height s.fields (colour_height s.sampling s.height);
  luma_depth = video_depth s.range.luma_excursion;
  colour_depth = video_depth s.range.colour_excursion;
}
