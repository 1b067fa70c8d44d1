-- What quantisation loses.
use Rattle.std.proofs.Common.{◌≡◌, ℕ, zero, suc, ◌+◌, ◌-◌, ◌*◌, ◌/◌, ◌<◌, ◌≤◌, ◌≢◌, ℤ, pos, negsuc, ◌-ℤ◌, arith, refl, ◌∙◌, ap, unsigned_abs, inl, inr}
use Rattle.std.proofs.lemmas.Int.{ints}
use Rattle.std.proofs.lemmas.Bool.Decides.{nat_tests}
use Rattle.std.proofs.lemmas.Bool.{cases_eq}
use Rattle.std.proofs.Math.Nat.{div-mul-le_self, lt-div-mul-add, mul-le-mul_left}
use Rattle.std.proofs.Math.Pow.{pow_pos}
use Rattle.vc_types.specs.Quantisation.{quant_factor, quant_offset, dequantised_magnitude, dequantised, quantised, with_sign_of}

pub dequantised_magnitude-zero : (m f o : ℕ) → m ≡ 0 → dequantised_magnitude m f o ≡ 0
dequantised_magnitude-zero m f o e = grind (arith, nat_tests)

pub dequantised_magnitude-other : (m f o : ℕ) → m ≢ 0 → dequantised_magnitude m f o ≡ (m * f + o + 2) / 4
dequantised_magnitude-other m f o e = grind (arith, nat_tests)

near_above : (n f o m : ℕ) → m * f ≤ 4 * n → o ≤ f + 2 → 4 * dequantised_magnitude m f o ≤ 4 * n + f + 4
near_above n f o m low small = grind (arith, nat_tests)

near_below : (n f o m : ℕ) → 4 * n < m * f + f → 4 * n ≤ 4 * dequantised_magnitude m f o + f + 4
near_below n f o m high =
    elim (cases_eq m 0) [
      | inl e ↦ (let none : m * f ≡ 0 = rw e (omega arith) in rw (dequantised_magnitude-zero m f o e) (omega arith))
      | inr apart ↦ rw (dequantised_magnitude-other m f o apart) (omega arith)
    ]

pub unsigned_abs-with_sign_of : (z : ℤ) (n : ℕ) → unsigned_abs (with_sign_of z n) ≡ n
unsigned_abs-with_sign_of (pos k) n = refl
unsigned_abs-with_sign_of (negsuc k) n = omega (arith, ints)

-- a sign taken from a number that is not 0 or has 0 under it
same_sign : (z : ℤ) (m n : ℕ) → (m ≡ 0 → n ≡ 0) → with_sign_of (with_sign_of z m) n ≡ with_sign_of z n
same_sign (pos k) m n h = refl
same_sign (negsuc k) zero n h = rw (h refl) refl
same_sign (negsuc k) (suc m) n h = refl

pub apart : (z : ℤ) (n : ℕ) → unsigned_abs (with_sign_of z n -ℤ z) ≡ (n - unsigned_abs z) + (unsigned_abs z - n)
apart (pos k) n = omega (arith, ints)
apart (negsuc k) n = omega (arith, ints)

pub quant_factor_range : (q : ℕ) → 4 ≤ quant_factor q
unfolding quant_factor
quant_factor_range q = let p = pow_pos (q / 4) in grind (arith, nat_tests)

pub quant_offset_range : (q : ℕ) → quant_offset q ≤ quant_factor q + 2
unfolding quant_offset
quant_offset_range q = let f = quant_factor_range q in grind (arith, nat_tests)

there_and_back : (c : ℤ) (q : ℕ) → dequantised (quantised c q) q ≡ with_sign_of c (dequantised_magnitude (4 * unsigned_abs c / quant_factor q) (quant_factor q) (quant_offset q))
unfolding dequantised quantised
there_and_back c q =
    rw unsigned_abs-with_sign_of (same_sign c (4 * unsigned_abs c / quant_factor q) (dequantised_magnitude (4 * unsigned_abs c / quant_factor q) (quant_factor q) (quant_offset q)) (λ e. dequantised_magnitude-zero (4 * unsigned_abs c / quant_factor q) (quant_factor q) (quant_offset q) e))

pub comes_back_near : (c : ℤ) (q : ℕ) → 4 * unsigned_abs (dequantised (quantised c q) q -ℤ c) ≤ quant_factor q + 4
comes_back_near c q =
    let n = unsigned_abs c in
    let f = quant_factor_range q in
    let some : 0 < quant_factor q = omega arith in
    let m = 4 * n / quant_factor q in
    let above = near_above n (quant_factor q) (quant_offset q) m (div-mul-le_self (4 * n) (quant_factor q)) (quant_offset_range q) in
    let below = near_below n (quant_factor q) (quant_offset q) m (lt-div-mul-add {a = 4 * n} some) in
    rw (there_and_back c q, apart c (dequantised_magnitude m (quant_factor q) (quant_offset q))) (omega (arith, above, below))

itself : (n : ℕ) → dequantised_magnitude (4 * n / 4) 4 1 ≡ n
itself n = let q : 4 * n / 4 ≡ n = omega arith in rw q (grind (arith, nat_tests))

with_sign_of-itself : (c : ℤ) → with_sign_of c (unsigned_abs c) ≡ c
with_sign_of-itself (pos k) = refl
with_sign_of-itself (negsuc k) = refl

pub comes_back : (c : ℤ) → dequantised (quantised c 0) 0 ≡ c
unfolding quant_factor quant_offset
comes_back c = there_and_back c 0 ∙ ap (with_sign_of c) (itself (unsigned_abs c)) ∙ with_sign_of-itself c

-- ---- sizes

scaled_not_smaller : (m f o : ℕ) → 4 ≤ f → m ≤ dequantised_magnitude m f o
scaled_not_smaller m f o large =
    let product = mul-le-mul_left m large in
    grind (arith, nat_tests)

-- no number stands for a coefficient of smaller magnitude than its own
pub dequantised_not_smaller : (z : ℤ) (q : ℕ) → unsigned_abs z ≤ unsigned_abs (dequantised z q)
unfolding dequantised
dequantised_not_smaller z q = rw unsigned_abs-with_sign_of (scaled_not_smaller (unsigned_abs z) (quant_factor q) (quant_offset q) (quant_factor_range q))
