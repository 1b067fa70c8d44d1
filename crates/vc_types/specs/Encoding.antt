-- The slices of this project's encoder: the bits of a slice at a quantisation index.
use Rattle.std.specs.Prelude.{ℕ, ◌+◌, ◌-◌, ◌*◌, ◌/◌, Bool, true, ◌||◌, ◌==◌, nat_lt, if◌then◌else◌, ℤ}
use Rattle.std.specs.Prelude.{unsigned_abs, List, [], ◌∷◌, ◌++◌, length, map, replicate}
use Rattle.std.specs.List.{flat_map, zip}
use Rattle.vc_types.specs.declared.video.Component.{Component}
use Rattle.vc_types.specs.declared.video.Component.TheVariants.{Y, C1, C2}
use Rattle.vc_types.specs.Bits.{byte_bits, bits_of}
use Rattle.vc_types.specs.Codes.{sint_bits}
use Rattle.vc_types.specs.Quantisation.{quantised}
use Rattle.vc_types.specs.Slices.{Coefficients, coefficients_of, quantisers}
use Rattle.vc_types.specs.TransformParameters.{Parameters}

-- ---- a block

abbrev pub kept_before : List ℤ → ℤ → List ℤ
kept_before [] z = if unsigned_abs z == 0 then [] else z ∷ []
kept_before (next ∷ rest) z = z ∷ next ∷ rest

-- the numbers up to the last that isn't 0
unfoldable pub without_last_zeros : List ℤ → List ℤ
without_last_zeros [] = []
without_last_zeros (z ∷ zs) = kept_before (without_last_zeros zs) z

-- the numbers that a component's coefficients are quantised to, at the slice's index
unfoldable pub quantised_numbers : Parameters → Component → ℕ → ℕ → List ℤ → List ℤ
quantised_numbers p c slice index coefficients =
    map (λ z. quantised z.0 z.1) (zip coefficients (quantisers p c slice index))

-- their codes, up to the last that isn't 0
unfoldable pub block_bits : Parameters → Component → ℕ → ℕ → List ℤ → List Bool
block_bits p c slice index coefficients =
    flat_map sint_bits (without_last_zeros (quantised_numbers p c slice index coefficients))

-- the length of a block in units of the slice size scaler, by the number of bits of its codes
abbrev pub block_units : ℕ → ℕ → ℕ
block_units scaler bits = ((bits + 7) / 8 + scaler - 1) / scaler

-- a block behind its length: the codes, and ones up to the end
unfoldable pub encoded_block : ℕ → List Bool → List Bool
encoded_block scaler bits =
    let units = block_units scaler (length bits) in
    byte_bits units ++ bits ++ replicate (8 * (units * scaler) - length bits) true

-- ---- a slice

abbrev pub component_bits : Parameters → ℕ → ℕ → Coefficients → Component → List Bool
component_bits p slice index s c = block_bits p c slice index (coefficients_of s c)

abbrev pub component_units : Parameters → ℕ → ℕ → Coefficients → Component → ℕ
component_units p slice index s c = block_units p.scaler (length (component_bits p slice index s c))

-- the length of a slice in bytes, also where a block is too long
unfoldable pub encoded_length : Parameters → ℕ → ℕ → Coefficients → ℕ
encoded_length p slice index s =
    let units = component_units p slice index s in
    p.prefix + 4 + p.scaler * (units Y + units C1 + units C2)

-- a block's length doesn't fit its byte
unfoldable pub is_too_long : Parameters → ℕ → ℕ → Coefficients → Bool
is_too_long p slice index s =
    let units = component_units p slice index s in
    nat_lt 255 (units Y) || nat_lt 255 (units C1) || nat_lt 255 (units C2)

-- the bits of a slice: prefix bytes of 0, the quantisation index, and the blocks of the three
-- components
unfoldable pub encoded_slice : Parameters → ℕ → ℕ → Coefficients → List Bool
encoded_slice p slice index s =
    let block = λ (c : Component). encoded_block p.scaler (component_bits p slice index s c) in
    bits_of (replicate p.prefix 0 ++ index ∷ []) ++ block Y ++ block C1 ++ block C2
