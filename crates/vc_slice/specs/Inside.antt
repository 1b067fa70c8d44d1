-- Reading and writing a block, coefficient after coefficient.
use Rattle.std.specs.Prelude.{◌≡◌, Option, Some, None, false, ℕ, ◌+◌, ◌-◌, ◌*◌, ◌/◌, ℤ}
use Rattle.std.specs.Prelude.{unsigned_abs, Bool, true, ◌==◌, if◌then◌else◌, List, []}
use Rattle.std.specs.Prelude.{◌∷◌, ◌++◌, length, map, replicate}
use Rattle.vc_bits.specs.Bits.{to_edge}
use Rattle.vc_types.specs.Bits.{byte_bits, bits_of}
use Rattle.vc_types.specs.Bounded.{bounded_sint}
use Rattle.vc_types.specs.Codes.{sint_bits}
use Rattle.vc_types.specs.Quantisation.{dequantised, quantised}
use Rattle.vc_types.specs.Slices.{is_large}

-- a coefficient, or none where it is large
abbrev pub IsNotLarge : ℤ → Option ℤ → Type 0
IsNotLarge z None = is_large z ≡ true
IsNotLarge z (Some kept) = (kept ≡ z) × (is_large z ≡ false)

-- the coefficients that begin the bits of a block, by the quantisation index of each
unfoldable pub coefficients_by : List ℕ → List Bool → List ℤ
coefficients_by [] bits = []
coefficients_by (index ∷ indices) bits =
    dequantised (bounded_sint bits).0 index ∷ coefficients_by indices (bounded_sint bits).1

-- the numbers that coefficients of one subband are quantised to
abbrev pub subband_numbers : ℕ → List ℤ → List ℤ
subband_numbers index coefficients = map (λ z. quantised z index) coefficients

-- the codes of numbers up to the last that isn't 0, where n zeros came just before: a 0 has the
-- code 1
unfoldable pub codes_behind : ℕ → List ℤ → List Bool
codes_behind n [] = []
codes_behind n (z ∷ zs) =
    if unsigned_abs z == 0 then codes_behind (n + 1) zs
    else replicate n true ++ sint_bits z ++ codes_behind 0 zs

-- bits, and ones up to whole bytes
abbrev pub up_to_bytes : List Bool → List Bool
up_to_bytes bits = bits ++ replicate (to_edge (length bits)) true

-- the length of a block of so many bytes, in units of the slice size scaler
abbrev pub units_for : ℕ → ℕ → ℕ
units_for scaler bytes = (bytes + scaler - 1) / scaler

-- the bits of a block of bytes behind its length, and ones up to the end of its last unit
unfoldable pub padded_block : ℕ → List ℕ → List Bool
padded_block scaler block =
    let units = units_for scaler (length block) in
    byte_bits units ++ bits_of block ++ replicate (8 * (units * scaler - length block)) true
