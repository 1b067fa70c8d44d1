-- The numbers by which a header's values are told (ST 2042-1, sequence header).
use Rattle.std.specs.Prelude.{ℕ, ◌-◌, Bool, ◌&&◌, ◌==◌, nat_lt, if◌then◌else◌, List, slice_get}
use Rattle.std.specs.Prelude.{Option, Some, None}
use Rattle.vc_types.specs.declared.presentation.Choice.{Choice}
use Rattle.vc_types.specs.declared.presentation.Choice.TheVariants.{Preset, Custom}
use Rattle.vc_types.specs.declared.presentation.Colour.{Colour}
use Rattle.vc_types.specs.declared.video.Sampling.{Sampling}
use Rattle.vc_types.specs.declared.video.Sampling.TheVariants.{S444, S422, S420}
use Rattle.vc_types.specs.declared.video.SignalRange.{SignalRange}

-- the ratio that is coded, or that of an index, from 1 on, in a table
abbrev pub ratio_of : List (ℕ × ℕ) → Choice (ℕ × ℕ) → Option (ℕ × ℕ)
ratio_of table (Custom ratio) = Some ratio
ratio_of table (Preset index) = if nat_lt 0 index then slice_get table (index - 1) else None

-- 0 where the parts are coded
abbrev pub colour_index : Choice Colour → ℕ
colour_index (Preset index) = index
colour_index (Custom colour) = 0

abbrev pub sampling_number : Sampling → ℕ
sampling_number S444 = 444
sampling_number S422 = 422
sampling_number S420 = 420

-- a range has these offsets and excursions, of luma and of colour
abbrev pub is_range : SignalRange → (luma colour : ℕ × ℕ) → Bool
is_range r luma colour =
    r.luma_offset == luma.0 && r.luma_excursion == luma.1
    && r.colour_offset == colour.0 && r.colour_excursion == colour.1

-- the index of a preset, and 0 of other ranges
abbrev pub range_index : SignalRange → ℕ
range_index r =
    if is_range r (0, 255) (128, 255) then 1
    else (if is_range r (16, 219) (128, 224) then 2
    else (if is_range r (64, 876) (512, 896) then 3
    else (if is_range r (256, 3504) (2048, 3584) then 4 else 0)))
