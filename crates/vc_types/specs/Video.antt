-- Video formats (ST 2042-1, base video formats and signal ranges; the rows are this project's
-- profile).
use Rattle.std.specs.Prelude.{◌≤◌, ℕ, ◌+◌, ◌%◌, ◌/◌, ◌^◌, Bool, true, false, ◌&&◌, ◌||◌, not}
use Rattle.std.specs.Prelude.{nat_le, ◌==◌, if◌then◌else◌, List, [], ◌∷◌, slice_index_or}
use Rattle.std.specs.List.{position_or_len, range_with_len}
use Rattle.vc_types.specs.declared.video.Sampling.{Sampling}
use Rattle.vc_types.specs.declared.video.Sampling.TheVariants.{S444, S422, S420}
use Rattle.vc_types.specs.declared.video.SignalRange.{SignalRange}

-- a base video format; the number of its signal range is the last column
pub record BaseFormat : Type 0 where
  pub width : ℕ
  pub height : ℕ
  pub sampling : Sampling
  pub interlaced : Bool
  pub top_first : Bool
  pub range : ℕ

abbrev pub base_format : ℕ → ℕ → Sampling → Bool → Bool → ℕ → BaseFormat
base_format width height sampling interlaced top_first range = record {
  width = width;
  height = height;
  sampling = sampling;
  interlaced = interlaced;
  top_first = top_first;
  range = range;
}

-- 0 to 16: width, height, sampling, interlaced, top field first, signal range
abbrev pub base_formats : List BaseFormat
base_formats =
    base_format 640 480 S420 false false 1 ∷
    base_format 176 120 S420 false false 1 ∷
    base_format 176 144 S420 false true 1 ∷
    base_format 352 240 S420 false false 1 ∷
    base_format 352 288 S420 false true 1 ∷
    base_format 704 480 S420 false false 1 ∷
    base_format 704 576 S420 false true 1 ∷
    base_format 720 480 S422 true false 3 ∷
    base_format 720 576 S422 true true 3 ∷
    base_format 1280 720 S422 false true 3 ∷
    base_format 1280 720 S422 false true 3 ∷
    base_format 1920 1080 S422 true true 3 ∷
    base_format 1920 1080 S422 true true 3 ∷
    base_format 1920 1080 S422 false true 3 ∷
    base_format 1920 1080 S422 false true 3 ∷
    base_format 2048 1080 S444 false true 4 ∷
    base_format 4096 2160 S444 false true 4 ∷
    []

unfoldable pub format_of : ℕ → BaseFormat
format_of base = slice_index_or base_formats base (base_format 0 0 S444 false false 0)

abbrev pub signal_range : ℕ → ℕ → ℕ → ℕ → SignalRange
signal_range luma_offset luma_excursion colour_offset colour_excursion = record {
  luma_offset = luma_offset;
  luma_excursion = luma_excursion;
  colour_offset = colour_offset;
  colour_excursion = colour_excursion;
}

-- 1 to 4: luma offset, luma excursion, colour offset, colour excursion
abbrev pub signal_ranges : List SignalRange
signal_ranges =
    signal_range 0 255 128 255 ∷
    signal_range 16 219 128 224 ∷
    signal_range 64 876 512 896 ∷
    signal_range 256 3504 2048 3584 ∷
    []

unfoldable pub range_of : ℕ → SignalRange
range_of index = slice_index_or (signal_range 0 0 0 0 ∷ signal_ranges) index (signal_range 0 0 0 0)

-- ---- what a header's fields have to be

-- an excursion is 1 to 65,535
abbrev pub excursion_fits : ℕ → Bool
excursion_fits excursion = nat_le 1 excursion && nat_le excursion 65535

-- a width or a height is 1 to 8,192
abbrev pub side_fits : ℕ → Bool
side_fits side = nat_le 1 side && nat_le side 8192

-- the colour planes of each picture have whole samples
abbrev pub sampling_fits : ℕ → ℕ → Sampling → Bool → Bool
sampling_fits width height S444 fields = not fields || height % 2 == 0
sampling_fits width height S422 fields = width % 2 == 0 && (not fields || height % 2 == 0)
sampling_fits width height S420 fields =
    width % 2 == 0 && height % 2 == 0 && (not fields || height % 4 == 0)

abbrev pub dimensions_fit : ℕ → ℕ → Sampling → Bool → Bool
dimensions_fit width height sampling fields =
    side_fits width && side_fits height && sampling_fits width height sampling fields

-- ---- the planes of one picture

-- the colour planes have half the width in 4:2:2 and 4:2:0, and half the height in 4:2:0
abbrev pub colour_width : Sampling → ℕ → ℕ
colour_width S444 width = width
colour_width S422 width = width / 2
colour_width S420 width = width / 2

abbrev pub colour_height : Sampling → ℕ → ℕ
colour_height S444 height = height
colour_height S422 height = height
colour_height S420 height = height / 2

-- with field coding a picture is a field, which has half of a frame's rows
abbrev pub picture_height : Bool → ℕ → ℕ
picture_height fields height = if fields then height / 2 else height

-- the first d of 0, 1, 2, .. 16 at which 2 ^ d is at least the excursion and 1 (ST 2042-1, video
-- depth)
unfoldable pub video_depth : ℕ → ℕ
video_depth excursion = position_or_len (λ d. nat_le (excursion + 1) (2 ^ d)) (range_with_len 0 17)

-- 2 ^ d is at least the excursion and 1, and so is no lower power
pub record IsLeastDepth (excursion d : ℕ) : Type 0 where
  pub enough : excursion + 1 ≤ 2 ^ d
  pub least : (other : ℕ) → excursion + 1 ≤ 2 ^ other → d ≤ other
