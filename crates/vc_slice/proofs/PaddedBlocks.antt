-- Blocks of whole bytes, behind their lengths.
use Rattle.std.proofs.Common.{◌≡◌, ℕ, zero, suc, ◌+◌, ◌-◌, ◌*◌, ◌/◌, ◌<◌, ◌≤◌, Bool, true, false, List, [], ◌∷◌, ◌++◌, length, replicate, take, refl, ap, ◌∙◌, arith, append_assoc, append-nil, length-append}
use Rattle.std.specs.Prelude.{◌||◌, nat_lt}
use Rattle.std.proofs.Math.Nat.{lt-div-mul-add}
use Rattle.std.proofs.lemmas.List.{length-replicate, replicate-append-replicate, take_all}
use Rattle.vc_types.specs.declared.video.Component.TheVariants.{Y, C1, C2}
use Rattle.vc_types.specs.Bits.{byte_bits, bits_of}
use Rattle.vc_types.specs.Encoding.{component_bits, block_units, encoded_block, encoded_length, encoded_slice, is_too_long}
use Rattle.vc_types.specs.Slices.{Coefficients}
use Rattle.vc_types.specs.TransformParameters.{Parameters}
use Rattle.vc_types.proofs.Bits.{bits_of-nil, bits_of-cons, bits_of-append, bits_of-push, length-bits_of}
use Rattle.vc_bits.specs.Bits.{to_edge}
use Rattle.vc_slice.specs.Inside.{padded_block, units_for, up_to_bytes}
use Rattle.vc_slice.proofs.EncodedSlices.{length_slice}

-- there is room for all bytes in the units
pub enough_bytes : (bytes scaler k : ℕ) → k ≡ scaler → 0 < scaler → bytes ≤ (bytes + k - 1) / k * scaler
enough_bytes bytes scaler k is some =
    rw is (let above = lt-div-mul-add {a = bytes + scaler - 1} some in omega (arith, above))

-- bytes of ones
all_ones : byte_bits 255 ≡ replicate 8 true
unfolding byte_bits
all_ones = refl

pub bits_of-ones : (n : ℕ) → bits_of (replicate n 255) ≡ replicate (8 * n) true
bits_of-ones zero = bits_of-nil
bits_of-ones (suc n) =
    let more : 8 + 8 * n ≡ 8 * suc n = omega arith in
    bits_of-cons 255 (replicate n 255)
    ∙ ap (λ (bits : List Bool). bits ++ bits_of (replicate n 255)) all_ones
    ∙ ap (λ (bits : List Bool). replicate 8 true ++ bits) (bits_of-ones n)
    ∙ replicate-append-replicate 8 (8 * n) true
    ∙ ap (λ (k : ℕ). replicate k true) more

-- what is put behind some bytes
pub put : (scaler units ones : ℕ) (old pushed more new block : List ℕ) → units ≡ units_for scaler (length block) → ones ≡ units_for scaler (length block) * scaler - length block
    → pushed ≡ old ++ units ∷ [] → more ≡ pushed ++ block → new ≡ more ++ replicate ones 255
    → bits_of new ≡ bits_of old ++ padded_block scaler block
unfolding padded_block
put scaler units ones old pushed more new block is_units is_ones is_pushed is_more is_new =
    grind (arith, bits_of-append, bits_of-ones, bits_of-push, append_assoc)

-- bytes that grow by more of the same
pub grown : (size n ones byte : ℕ) (old new : List ℕ) → size ≡ length old → n ≡ size + ones → new ≡ take n old ++ replicate (n - size) byte → new ≡ old ++ replicate ones byte
grown size n ones byte old new is_size is_n is = grind (arith, take_all)

-- codes that are filled up with ones
pub filled_codes : (codes start written new : List Bool) (bytes : List ℕ) → start ≡ [] → written ≡ start ++ codes → new ≡ written ++ replicate (to_edge (length written)) true
    → bits_of bytes ≡ new ++ replicate (to_edge (length new)) false → bits_of bytes ≡ up_to_bytes codes
filled_codes codes start written new bytes empty is_written is_new is =
    grind (arith, length-append, length-replicate, append-nil)

-- the blocks of codes
module _ (scaler : ℕ) (block : List ℕ) (bits : List Bool) (is : bits_of block ≡ up_to_bytes bits) where
  length_up : length block ≡ (length bits + 7) / 8
  length_up = omega (arith, length-bits_of block, ap length is, length-append bits (replicate (to_edge (length bits)) true), length-replicate (to_edge (length bits)) true)

  pub units_up : units_for scaler (length block) ≡ block_units scaler (length bits)
  units_up = ap (λ (n : ℕ). units_for scaler n) length_up

  ones_up : 0 < scaler → to_edge (length bits) + 8 * (units_for scaler (length block) * scaler - length block) ≡ 8 * (block_units scaler (length bits) * scaler) - length bits
  ones_up some = grind (arith, units_up, length_up, enough_bytes)

  pub block_up : 0 < scaler → padded_block scaler block ≡ encoded_block scaler bits
  unfolding padded_block encoded_block
  block_up some = grind (arith, append_assoc, replicate-append-replicate, ones_up, units_up)

-- a whole slice
module _ (p : Parameters) (slice index : ℕ) (s : Coefficients) (y c1 c2 : List ℕ)
    (is_y : bits_of y ≡ up_to_bytes (component_bits p slice index s Y))
    (is_c1 : bits_of c1 ≡ up_to_bytes (component_bits p slice index s C1))
    (is_c2 : bits_of c2 ≡ up_to_bytes (component_bits p slice index s C2)) where
  pub too_long_up : (nat_lt 255 (units_for p.scaler (length y)) || nat_lt 255 (units_for p.scaler (length c1)) || nat_lt 255 (units_for p.scaler (length c2))) ≡ is_too_long p slice index s
  unfolding is_too_long
  too_long_up = grind (arith, units_up)

  pub slice_up : 0 < p.scaler → (bytes : List ℕ) → bits_of bytes ≡ bits_of (replicate p.prefix 0 ++ index ∷ []) ++ padded_block p.scaler y ++ padded_block p.scaler c1 ++ padded_block p.scaler c2
      → bits_of bytes ≡ encoded_slice p slice index s
  unfolding encoded_slice
  slice_up some bytes is = grind (arith, block_up)

  pub length_up_slice : 0 < p.scaler → (bytes : List ℕ) → bits_of bytes ≡ encoded_slice p slice index s → length bytes ≡ encoded_length p slice index s
  length_up_slice some bytes is = omega (arith, length-bits_of bytes, ap length is, length_slice p slice index s some)

-- the head of a slice
pub headed : (prefix q : ℕ) (first new : List ℕ) → first ≡ replicate prefix 0 → new ≡ first ++ q ∷ [] → new ≡ replicate prefix 0 ++ q ∷ []
headed prefix q first new is_first is = is ∙ ap (λ (bytes : List ℕ). bytes ++ q ∷ []) is_first

pub three_put : (first a b c : List ℕ) (y c1 c2 : List Bool) → bits_of a ≡ bits_of first ++ y → bits_of b ≡ bits_of a ++ c1 → bits_of c ≡ bits_of b ++ c2 → bits_of c ≡ bits_of first ++ y ++ c1 ++ c2
three_put first a b c y c1 c2 is_a is_b is_c = is_c ∙ ap (λ (bits : List Bool). bits ++ c2) (is_b ∙ ap (λ (bits : List Bool). bits ++ c1) is_a)
