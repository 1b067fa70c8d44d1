-- The bits of an encoded slice, block after block, and how many they are.
use Rattle.std.proofs.Common.{◌≡◌, ℕ, ◌+◌, ◌-◌, ◌*◌, ◌/◌, ◌^◌, ◌<◌, ◌≤◌, Bool, true, List, length, refl, arith, length-append}
use Rattle.std.proofs.Math.Nat.{div-mul-le_self, lt-div-mul-add}
use Rattle.std.proofs.lemmas.Bool.Decides.{nat_tests}
use Rattle.std.proofs.lemmas.List.{length-replicate}
use Rattle.vc_types.specs.declared.video.Component.TheVariants.{Y, C1, C2}
use Rattle.vc_types.specs.Limits.{slice_bytes_fit}
use Rattle.vc_types.specs.Slices.{Coefficients}
use Rattle.vc_types.specs.TransformParameters.{Parameters}
use Rattle.vc_types.proofs.Bits.{length-byte_bits, length-bits_of}
use Rattle.vc_types.specs.Encoding.{component_bits, block_units, encoded_block, encoded_length, encoded_slice}

pub some_scaler : (prefix scaler : ℕ) → slice_bytes_fit prefix scaler ≡ true → 0 < scaler
some_scaler prefix scaler h = grind (arith, nat_tests)

pub few_units : (prefix scaler : ℕ) → slice_bytes_fit prefix scaler ≡ true → scaler ≤ 65535
few_units prefix scaler h = grind (arith, nat_tests)

-- ---- units of the slice size scaler

enough_units : (bits scaler : ℕ) → 0 < scaler → bits ≤ 8 * (block_units scaler bits * scaler)
enough_units bits scaler some = omega (arith, lt-div-mul-add)

units_fit : (bits scaler : ℕ) → block_units scaler bits * scaler ≤ (bits + 7) / 8 + scaler - 1
units_fit bits scaler = div-mul-le_self ((bits + 7) / 8 + scaler - 1) scaler

-- the same by the scaler in other words
pub fit_at : (bits scaler k : ℕ) → k ≡ scaler → scaler ≤ 65535 → bits < 2 ^ 40 → ((bits + 7) / 8 + k - 1) / k * scaler < 2 ^ 40
fit_at bits scaler k is few small = rw is (omega (arith, units_fit bits scaler))

-- ---- lengths

length_block : (scaler : ℕ) (bits : List Bool) → 0 < scaler → length (encoded_block scaler bits) ≡ 8 + 8 * (block_units scaler (length bits) * scaler)
unfolding encoded_block
length_block scaler bits some = grind (arith, length-append, length-byte_bits, length-replicate, enough_units)

pub length_slice : (p : Parameters) (slice index : ℕ) (s : Coefficients) → 0 < p.scaler → length (encoded_slice p slice index s) ≡ 8 * encoded_length p slice index s
unfolding encoded_slice encoded_length
length_slice p slice index s some =
    grind (arith, length-append, length-replicate, length-bits_of, length_block)

-- ---- by the numbers of bits

module _ (p : Parameters) (slice index : ℕ) (s : Coefficients) (y c1 c2 : ℕ) (is_y : y ≡ length (component_bits p slice index s Y)) (is_c1 : c1 ≡ length (component_bits p slice index s C1)) (is_c2 : c2 ≡ length (component_bits p slice index s C2)) where
  pub length_by : p.prefix + 4 + p.scaler * (block_units p.scaler y + block_units p.scaler c1 + block_units p.scaler c2) ≡ encoded_length p slice index s
  unfolding encoded_length
  length_by = rw (is_y, is_c1, is_c2) refl
