-- Numbers whose coefficients fit 32 bits.
use Rattle.std.specs.Prelude.{◌+◌, ◌*◌, ◌^◌, ◌<◌, ℕ}
use Rattle.vc_types.specs.Quantisation.{quant_factor, quant_offset}

-- magnitudes up to the greatest are dequantised at an index within 31 bits, every sum on the way
-- too
abbrev pub IsNarrow : ℕ → ℕ → Type 0
IsNarrow greatest index =
    (quant_factor index < 2 ^ 31)
    × (greatest * quant_factor index + quant_offset index + 2 < 2 ^ 31)
