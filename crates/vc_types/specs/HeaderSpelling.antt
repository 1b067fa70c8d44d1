-- The spelling of a sequence header (ST 2042-1, sequence header): which of its parts are coded and
-- by what numbers, the bits that they are written as, and the value that they stand for.
use Rattle.std.specs.Prelude.{◌≡◌, ℕ, ◌<◌, ◌≤◌, ◌-◌, ◌^◌, Bool, List, [], ◌∷◌, ◌++◌, Option, Some}
use Rattle.std.specs.Prelude.{None, IsTrue, IfSome, unwrap_or, ◌==◌, if◌then◌else◌}
use Rattle.vc_types.specs.Bits.{digit_of}
use Rattle.vc_types.specs.Codes.{uint_bits}
use Rattle.vc_types.specs.Fields.{flagged_bits, flagged_value, joined, pair_bits, Begins}
use Rattle.vc_types.specs.Presentations.{presentation_of}
use Rattle.vc_types.specs.SequenceHeader.{Sequence, high_quality_profile, is_version_of}
use Rattle.vc_types.specs.Video.{format_of, range_of, dimensions_fit, excursion_fits}
use Rattle.vc_types.specs.declared.presentation.Choice.{Choice}
use Rattle.vc_types.specs.declared.presentation.Choice.TheVariants.{Preset, Custom}
use Rattle.vc_types.specs.declared.presentation.CleanArea.{CleanArea}
use Rattle.vc_types.specs.declared.presentation.CodedPresentation.{CodedPresentation}
use Rattle.vc_types.specs.declared.presentation.Colour.{Colour}
use Rattle.vc_types.specs.declared.presentation.Presentation.{Presentation}
use Rattle.vc_types.specs.declared.video.Sampling.{Sampling}
use Rattle.vc_types.specs.declared.video.Sampling.TheVariants.{S444, S422, S420}
use Rattle.vc_types.specs.declared.video.SignalRange.{SignalRange}

-- ---- parts

abbrev pub choice_bits : {A : Type 0} → (A → List Bool) → Choice A → List Bool
choice_bits custom (Preset index) = uint_bits index
choice_bits custom (Custom a) = uint_bits 0 ++ custom a

abbrev pub sampling_index : Sampling → ℕ
sampling_index S444 = 0
sampling_index S422 = 1
sampling_index S420 = 2

abbrev pub area_bits : CleanArea → List Bool
area_bits a =
    joined (uint_bits a.width ∷ uint_bits a.height ∷ uint_bits a.left ∷ uint_bits a.top ∷ [])

abbrev pub range_bits : SignalRange → List Bool
range_bits r =
    joined (uint_bits r.luma_offset ∷ uint_bits r.luma_excursion
    ∷ uint_bits r.colour_offset ∷ uint_bits r.colour_excursion ∷ [])

-- colour primaries, colour matrix and transfer function
abbrev pub colour_bits : Colour → List Bool
colour_bits c =
    joined (flagged_bits uint_bits c.primaries ∷ flagged_bits uint_bits c.matrix
    ∷ flagged_bits uint_bits c.transfer ∷ [])

-- ---- a header

pub record HeaderSpelling : Type 0 where
  pub major : ℕ
  pub minor : ℕ
  pub level : ℕ
  pub base : ℕ
  pub size : Option (ℕ × ℕ)
  pub sampling : Option Sampling
  pub interlaced : Option Bool
  pub frame_rate : Option (Choice (ℕ × ℕ))
  pub aspect_ratio : Option (Choice (ℕ × ℕ))
  pub clean_area : Option CleanArea
  pub range : Option (Choice SignalRange)
  pub colour : Option (Choice Colour)
  pub fields : Bool

-- the fields of a header of profile p, written in order
abbrev pub header_bits_of : ℕ → HeaderSpelling → List Bool
header_bits_of p s = joined (
    uint_bits s.major ∷
    uint_bits s.minor ∷
    uint_bits p ∷
    uint_bits s.level ∷
    uint_bits s.base ∷
    flagged_bits pair_bits s.size ∷
    flagged_bits (λ sampling. uint_bits (sampling_index sampling)) s.sampling ∷
    flagged_bits (λ interlaced. uint_bits (digit_of interlaced)) s.interlaced ∷
    flagged_bits (choice_bits pair_bits) s.frame_rate ∷
    flagged_bits (choice_bits pair_bits) s.aspect_ratio ∷
    flagged_bits area_bits s.clean_area ∷
    flagged_bits (choice_bits range_bits) s.range ∷
    flagged_bits (choice_bits colour_bits) s.colour ∷
    uint_bits (digit_of s.fields) ∷
    [])

-- those of a header of high quality
abbrev pub header_bits : HeaderSpelling → List Bool
header_bits s = header_bits_of high_quality_profile s

abbrev pub chosen_range : Choice SignalRange → SignalRange
chosen_range (Preset index) = range_of index
chosen_range (Custom range) = range

-- what the header says: parts that aren't coded are those of the base video format
abbrev pub spelled_header : HeaderSpelling → Sequence
spelled_header s = record {
  major = s.major;
  minor = s.minor;
  level = s.level;
  base = s.base;
  width = (unwrap_or s.size ((format_of s.base).width, (format_of s.base).height)).0;
  height = (unwrap_or s.size ((format_of s.base).width, (format_of s.base).height)).1;
  sampling = unwrap_or s.sampling (format_of s.base).sampling;
  interlaced = unwrap_or s.interlaced (format_of s.base).interlaced;
  top_first = (format_of s.base).top_first;
  range = flagged_value (range_of (format_of s.base).range) chosen_range s.range;
  fields = s.fields;
}

-- what it says of how its frames are shown
abbrev pub spelled_presentation : HeaderSpelling → Presentation
spelled_presentation s = record {
  frame_rate = unwrap_or s.frame_rate (presentation_of s.base).frame_rate;
  aspect_ratio = unwrap_or s.aspect_ratio (presentation_of s.base).aspect_ratio;
  clean_area = unwrap_or s.clean_area (presentation_of s.base).clean_area;
  colour = unwrap_or s.colour (presentation_of s.base).colour;
}

-- both
abbrev pub spelled_whole : HeaderSpelling → Sequence × Presentation
spelled_whole s = (spelled_header s, spelled_presentation s)

-- ---- which spellings are accepted

abbrev pub IsNumber : ℕ → Type 0
IsNumber n = n ≤ 2 ^ 32 - 1

abbrev pub IsChoice : {A : Type 0} → ℕ → (A → Type 0) → Choice A → Type 0
IsChoice limit IsCustom (Preset index) = (0 < index) × (index ≤ limit)
IsChoice limit IsCustom (Custom a) = IsCustom a

abbrev pub ArePair : ℕ × ℕ → Type 0
ArePair p = IsNumber p.0 × IsNumber p.1

pub record IsArea (a : CleanArea) : Type 0 where
  pub width : IsNumber a.width
  pub height : IsNumber a.height
  pub left : IsNumber a.left
  pub top : IsNumber a.top

pub record IsRange (r : SignalRange) : Type 0 where
  pub luma_offset : IsNumber r.luma_offset
  pub luma_excursion : IsTrue (excursion_fits r.luma_excursion)
  pub colour_offset : IsNumber r.colour_offset
  pub colour_excursion : IsTrue (excursion_fits r.colour_excursion)

pub record IsColour (c : Colour) : Type 0 where
  pub primaries : IfSome c.primaries IsNumber
  pub matrix : IfSome c.matrix IsNumber
  pub transfer : IfSome c.transfer IsNumber

-- of a header of profile p
pub record IsHeaderOf (p : ℕ) (s : HeaderSpelling) : Type 0 where
  pub major : IsTrue (is_version_of p s.major)
  pub minor : IsNumber s.minor
  pub level : IsNumber s.level
  pub base : s.base ≤ 16
  pub size : IfSome s.size ArePair
  pub frame_rate : IfSome s.frame_rate (IsChoice (2 ^ 32 - 1) ArePair)
  pub aspect_ratio : IfSome s.aspect_ratio (IsChoice (2 ^ 32 - 1) ArePair)
  pub clean_area : IfSome s.clean_area IsArea
  pub range : IfSome s.range (IsChoice 4 IsRange)
  pub colour : IfSome s.colour (IsChoice (2 ^ 32 - 1) IsColour)
  pub dimensions : IsTrue (dimensions_fit (spelled_header s).width (spelled_header s).height
      (spelled_header s).sampling s.fields)

-- of a header of high quality
abbrev pub IsHeader : HeaderSpelling → Type 0
IsHeader s = IsHeaderOf high_quality_profile s

-- bytes begin with a header of profile p and of this value, which takes so many bytes
abbrev pub BeginsWithHeaderOf : ℕ → List ℕ → Sequence → ℕ → Type 0
BeginsWithHeaderOf p bytes sequence used =
    Begins (header_bits_of p) spelled_header (IsHeaderOf p) bytes sequence used

-- with a header of high quality
abbrev pub BeginsWithHeader : List ℕ → Sequence → ℕ → Type 0
BeginsWithHeader bytes sequence used =
    BeginsWithHeaderOf high_quality_profile bytes sequence used

-- bytes begin with a header of profile p that says this of its frames, too
abbrev pub BeginsWithWholeHeaderOf : ℕ → List ℕ → Sequence × Presentation → ℕ → Type 0
BeginsWithWholeHeaderOf p bytes said used =
    Begins (header_bits_of p) spelled_whole (IsHeaderOf p) bytes said used

-- ---- the headers that this project writes

abbrev pub encoder_base : Bool → ℕ
encoder_base top_first = if top_first then 14 else 0

-- Version 3.0, level 0, base 14 with the top field first and else 0, interlaced exactly with field
-- coding, a preset signal range
pub record IsEncoderHeader (s : Sequence) : Type 0 where
  pub major : s.major ≡ 3
  pub minor : s.minor ≡ 0
  pub level : s.level ≡ 0
  pub base : s.base ≡ encoder_base s.top_first
  pub scan : s.interlaced ≡ s.fields
  pub range : (index : ℕ) × (1 ≤ index) × (index ≤ 4) × (s.range ≡ range_of index)

-- the index of a preset signal range, by its luma excursion
abbrev pub preset_of : SignalRange → ℕ
preset_of range =
    if range.luma_excursion == 255 then 1
    else if range.luma_excursion == 219 then 2
    else if range.luma_excursion == 876 then 3
    else 4

-- size, sampling, scan and signal range are coded, and nothing else
abbrev pub encoder_header : Sequence → HeaderSpelling
encoder_header s = record {
  major = 3;
  minor = 0;
  level = 0;
  base = encoder_base s.top_first;
  size = Some (s.width, s.height);
  sampling = Some s.sampling;
  interlaced = Some s.fields;
  frame_rate = None;
  aspect_ratio = None;
  clean_area = None;
  range = Some (Preset (preset_of s.range));
  colour = None;
  fields = s.fields;
}

-- the same, and of how the frames are shown what is coded of it
abbrev pub encoder_header_with : CodedPresentation → Sequence → HeaderSpelling
encoder_header_with c s = record (encoder_header s) {
  frame_rate = c.frame_rate;
  aspect_ratio = c.aspect_ratio;
  clean_area = c.clean_area;
  colour = c.colour;
}

-- numbers of 32 bits, and no index that is 0
pub record IsPresentation (c : CodedPresentation) : Type 0 where
  pub frame_rate : IfSome c.frame_rate (IsChoice (2 ^ 32 - 1) ArePair)
  pub aspect_ratio : IfSome c.aspect_ratio (IsChoice (2 ^ 32 - 1) ArePair)
  pub clean_area : IfSome c.clean_area IsArea
  pub colour : IfSome c.colour (IsChoice (2 ^ 32 - 1) IsColour)
