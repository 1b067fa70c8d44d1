-- Whether the forward transform stays in 32 bits: bounds on magnitudes, carried through one level
-- after another.
use Rattle.std.specs.Prelude.{ℕ, ◌*◌, ◌^◌, Bool, nat_lt, if◌then◌else◌, Option, Some, None}
use Rattle.std.specs.Option.{option_and_then, is_some}
use Rattle.vc_types.specs.TransformParameters.{Parameters}
use Rattle.vc_types.specs.Wavelets.{is_shifted}
use Rattle.vc_lift.specs.Ranges.{narrow_analysis_bound}
use Rattle.vc_wave.specs.NarrowBounds.{bound_over}

-- a bound on samples that are doubled, if the wavelet wants that
abbrev pub doubled_bound : ℕ → ℕ → Option ℕ
doubled_bound wavelet most =
    if is_shifted wavelet
    then (if nat_lt (2 * most) (2 ^ 31) then Some (2 * most) else None)
    else Some most

-- on all cells after rows are doubled and analysed
unfoldable pub parted_rows_bound : ℕ → ℕ → Option ℕ
parted_rows_bound wavelet most =
    option_and_then (λ twice. narrow_analysis_bound wavelet twice) (doubled_bound wavelet most)

-- after a level, which analyses rows and then columns
unfoldable pub parted_level_bound : ℕ → ℕ → Option ℕ
parted_level_bound wavelet most =
    option_and_then (λ made. narrow_analysis_bound wavelet made) (parted_rows_bound wavelet most)

-- samples up to this magnitude, less half of their range, are transformed in 32 bits
abbrev pub forward_fits_narrow : Parameters → ℕ → Bool
forward_fits_narrow p most = is_some (bound_over (parted_level_bound p.wavelet) p.depth most)
