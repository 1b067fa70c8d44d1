-- Magnitudes under a sign, as the code computes them.
use Rattle.std.proofs.Common.{◌≡◌, ℕ, ◌+◌, ◌*◌, ◌/◌, ◌^◌, ◌<◌, ◌≤◌, ℤ, pos, negsuc, neg_ℤ, unsigned_abs, ◌-ℤ◌, ◌≤ℤ◌, ◌<ℤ◌, arith, refl, sym, ap, ◌∙◌, to_z, of_z, FitsSigned}
use Rattle.std.specs.Int.{w32, w64, w128}
use Rattle.std.proofs.lemmas.Int.{ints}
use Rattle.std.proofs.Math.Nat.{mul-le-mul_right, div-eq_of_lt-le}
use Rattle.vc_types.proofs.Quantisers.{unsigned_abs-with_sign_of}
use Rattle.vc_quant.proofs.Quotients.{not_larger}
use Rattle.vc_quant.specs.Narrow.{IsNarrow}
use Rattle.vc_types.specs.Quantisation.{quant_factor, quant_offset, dequantised, dequantised_magnitude, quantised, with_sign_of}

pub signed : (m : ℤ) (q : ℕ) → with_sign_of m (dequantised_magnitude (unsigned_abs m) (quant_factor q) (quant_offset q)) ≡ dequantised m q
unfolding dequantised
signed m q = refl

pub with_sign_of-negative : (z : ℤ) (n : ℕ) → z <ℤ pos 0 → with_sign_of z n ≡ neg_ℤ (pos n)
with_sign_of-negative (pos k) n h = absurd (omega (arith, ints))
with_sign_of-negative (negsuc k) n h = refl

pub with_sign_of-positive : (z : ℤ) (n : ℕ) → pos 0 ≤ℤ z → with_sign_of z n ≡ pos n
with_sign_of-positive (pos k) n h = refl
with_sign_of-positive (negsuc k) n h = absurd (omega (arith, ints))

pub negated_128 : (z : ℤ) (n m : ℕ) → z <ℤ pos 0 → n < 2 ^ 127 → n ≡ m → to_z w128 (of_z w128 (pos 0 -ℤ to_z w128 n)) ≡ with_sign_of z m
negated_128 z n m h small e = rw (← e, with_sign_of-negative z n h) (omega (arith, ints))

pub kept_128 : (z : ℤ) (n m : ℕ) → pos 0 ≤ℤ z → n < 2 ^ 127 → n ≡ m → to_z w128 n ≡ with_sign_of z m
kept_128 z n m h small e = rw (← e, with_sign_of-positive z n h) (omega (arith, ints))

pub negated_64 : (z : ℤ) (n m : ℕ) → z <ℤ pos 0 → n < 2 ^ 63 → n ≡ m → to_z w64 (of_z w64 (pos 0 -ℤ to_z w64 n)) ≡ with_sign_of z m
negated_64 z n m h small e = rw (← e, with_sign_of-negative z n h) (omega (arith, ints))

pub kept_64 : (z : ℤ) (n m : ℕ) → pos 0 ≤ℤ z → n < 2 ^ 63 → n ≡ m → to_z w64 n ≡ with_sign_of z m
kept_64 z n m h small e = rw (← e, with_sign_of-positive z n h) (omega (arith, ints))

-- what is less than a step is quantised to 0
zero_under_sign : (z : ℤ) (n : ℕ) → n ≡ 0 → pos 0 ≡ with_sign_of z n
zero_under_sign (pos k) n none = rw none refl
zero_under_sign (negsuc k) n none = rw none refl

pub nothing : (z : ℤ) (quarters factor q : ℕ) → quarters < factor → quarters ≡ 4 * unsigned_abs z → factor ≡ quant_factor q → pos 0 ≡ quantised z q
unfolding quantised
nothing z quarters factor q small is is_factor =
    let none : quarters / factor ≡ 0 = div-eq_of_lt-le {k = 0} factor (omega arith) (omega (arith, small)) in
    zero_under_sign z (4 * unsigned_abs z / quant_factor q) (ap (λ (n : ℕ). n / quant_factor q) (sym is) ∙ ap (λ (n : ℕ). quarters / n) (sym is_factor) ∙ none)

-- ---- narrow numbers

narrow_magnitude : (m greatest factor offset : ℕ) → m ≤ greatest → greatest * factor + offset + 2 < 2 ^ 31 → dequantised_magnitude m factor offset < 2 ^ 29
narrow_magnitude m greatest factor offset h room = grind (arith, mul-le-mul_right)

pub narrow_coefficient : (z : ℤ) (greatest q : ℕ) → unsigned_abs z ≤ greatest → IsNarrow greatest q → unsigned_abs (dequantised z q) < 2 ^ 29
unfolding dequantised
narrow_coefficient z greatest q h narrow = grind (arith, unsigned_abs-with_sign_of, narrow_magnitude)

-- ---- one coefficient of 32 bits

pub quantised_fits : (z : ℤ) (q : ℕ) → 4 ≤ quant_factor q → FitsSigned w32 z → FitsSigned w32 (quantised z q)
unfolding quantised
quantised_fits (pos n) q large fits = let small = not_larger n (quant_factor q) large in omega (arith, ints, small, fits)
quantised_fits (negsuc n) q large fits = let small = not_larger (unsigned_abs (negsuc n)) (quant_factor q) large in omega (arith, ints, small, fits)

pub narrowed : (r z : ℤ) (q : ℕ) → r ≡ quantised z q → FitsSigned w32 (quantised z q) → (FitsSigned w32 (to_z w64 (of_z w64 r))) × (to_z w32 (of_z w32 (to_z w64 (of_z w64 r))) ≡ quantised z q)
narrowed r z q is fits = rw is (omega (arith, ints, fits), omega (arith, ints, fits))
