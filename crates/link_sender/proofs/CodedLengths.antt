-- How long the blocks and the slices of small coefficients are.
use Rattle.std.proofs.Common.{◌≡◌, ℕ, zero, suc, ◌+◌, ◌*◌, ◌^◌, ◌<◌, ◌≤◌, ℤ, unsigned_abs, true, false, List, [], ◌∷◌, length, map, drop, refl, ap, ◌∙◌, arith, ◌==◌, length-append, length-drop}
use Rattle.std.specs.Int.Digits.{digits_of}
use Rattle.std.specs.List.{flat_map, range_with_len, zip}
use Rattle.std.proofs.lemmas.Int.Digits.{length-digits_of-le}
use Rattle.std.proofs.lemmas.List.Concat.{flat_map-cons}
use Rattle.std.proofs.Math.Nat.{div-mul-le_self, mul-le-mul_right, div-le_of_le-mul, pow-suc}
use Rattle.vc_types.specs.declared.video.Component.{Component}
use Rattle.vc_types.specs.declared.video.Component.TheVariants.{Y, C1, C2}
use Rattle.vc_types.specs.Codes.{uint_bits, spread_digits, sign_bits, sint_bits}
use Rattle.vc_types.specs.Encoding.{block_bits, block_units, component_bits, encoded_length, kept_before, quantised_numbers, without_last_zeros}
use Rattle.vc_types.specs.Quantisation.{quantised}
use Rattle.vc_types.specs.Slices.{Coefficients, quantisers}
use Rattle.vc_types.specs.TransformParameters.{Parameters}
use Rattle.vc_types.proofs.Quantisers.{quant_factor_range, unsigned_abs-with_sign_of}

-- ---- a code

two_each : (digits : List ℕ) → length (flat_map (λ digit. false ∷ (digit == 1) ∷ []) digits) ≡ 2 * length digits
two_each [] = refl
two_each (digit ∷ digits) = grind (arith, flat_map-cons, two_each digits)

-- a number of so many digits
pub uint_short : (digits v : ℕ) → v < 2 ^ digits → length (uint_bits v) ≤ 2 * digits + 1
unfolding uint_bits spread_digits
uint_short places v small =
    let digits = digits_of 2 (v + 1) in
    let power = pow-suc 2 places in
    let some = length-digits_of-le 2 (suc places) (v + 1) (omega arith) (omega (arith, small, power)) in
    let rest = length-drop 1 digits in
    let pairs = two_each (drop 1 digits) in
    let all = length-append (flat_map (λ digit. false ∷ (digit == 1) ∷ []) (drop 1 digits)) (true ∷ []) in
    omega (arith, some, rest, pairs, all)

sign_short : (v : ℤ) → length (sign_bits v) ≤ 1
sign_short v = grind arith

pub code_short : (v : ℤ) → unsigned_abs v < 2 ^ 60 → length (sint_bits v) ≤ 128
unfolding sint_bits
code_short v small = omega (arith, uint_short 60 (unsigned_abs v) small, sign_short v, length-append (uint_bits (unsigned_abs v)) (sign_bits v))

-- ---- quantised numbers

quantised_small : (z : ℤ) (index m : ℕ) → unsigned_abs z < m → unsigned_abs (quantised z index) < m
unfolding quantised
quantised_small z index m small =
    grind (arith, div-le_of_le-mul, mul-le-mul_right, quant_factor_range, unsigned_abs-with_sign_of)

-- ---- a block

abbrev bits_in : List ℤ → ℕ
bits_in zs = length (flat_map sint_bits zs)

bits_more : (z : ℤ) (zs : List ℤ) → bits_in (z ∷ zs) ≡ length (sint_bits z) + bits_in zs
bits_more z zs = ap length (flat_map-cons sint_bits z zs) ∙ length-append (sint_bits z) (flat_map sint_bits zs)

kept_bits : (zs : List ℤ) (z : ℤ) → bits_in (kept_before zs z) ≤ length (sint_bits z) + bits_in zs
kept_bits zs z = grind (arith, bits_more)

module _ (f : ℕ → ℤ) (small : (i : ℕ) → unsigned_abs (f i) < 2 ^ 60) where
  abbrev numbers : ℕ → ℕ → List ℕ → List ℤ
  numbers a n indices = map (λ z. quantised z.0 z.1) (zip (map f (range_with_len a n)) indices)

  few_bits : (n a : ℕ) (indices : List ℕ) → bits_in (without_last_zeros (numbers a n indices)) ≤ 128 * n
  unfolding without_last_zeros
  few_bits zero a indices = omega arith
  few_bits (suc n) a [] = omega arith
  few_bits (suc n) a (index ∷ indices) =
      grind (arith, code_short, kept_bits, quantised_small, few_bits n (a + 1) indices)

-- coefficients that are small, as many as a number says
pub record AreSmallNumbers (n : ℕ) (zs : List ℤ) : Type 0 where
  pub at : ℕ → ℤ
  pub are : zs ≡ map at (range_with_len 0 n)
  pub small : (i : ℕ) → unsigned_abs (at i) < 2 ^ 60

pub block_short : (p : Parameters) (c : Component) (slice index n : ℕ) (zs : List ℤ) → AreSmallNumbers n zs → length (block_bits p c slice index zs) ≤ 128 * n
unfolding block_bits quantised_numbers
block_short p c slice index n zs h = rw h.are (few_bits h.at h.small n 0 (quantisers p c slice index))

-- ---- a slice

units_short : (scaler bits n : ℕ) → bits ≤ 128 * n → scaler * block_units scaler bits ≤ 16 * n + scaler
units_short scaler bits n few = grind (arith, div-mul-le_self)

pub slice_short : (p : Parameters) (slice index y c1 c2 : ℕ) (s : Coefficients) → AreSmallNumbers y s.y → AreSmallNumbers c1 s.c1 → AreSmallNumbers c2 s.c2
    → encoded_length p slice index s ≤ p.prefix + 4 + 3 * p.scaler + 16 * (y + c1 + c2)
unfolding encoded_length
slice_short p slice index y c1 c2 s is_y is_c1 is_c2 =
    let a = units_short p.scaler (length (component_bits p slice index s Y)) y (block_short p Y slice index y s.y is_y) in
    let b = units_short p.scaler (length (component_bits p slice index s C1)) c1 (block_short p C1 slice index c1 s.c1 is_c1) in
    let c = units_short p.scaler (length (component_bits p slice index s C2)) c2 (block_short p C2 slice index c2 s.c2 is_c2) in
    omega (arith, a, b, c)
