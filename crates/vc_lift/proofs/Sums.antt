-- Weighted sums of numbers of a width fit, and are what is read back.
use Rattle.std.proofs.Common.{◌≡◌, ℕ, ◌+◌, ◌*◌, ◌^◌, ◌<◌, ◌≤◌, ◌/◌, ◌%◌, List, length, take, get_or, ℤ, pos}
use Rattle.std.proofs.Common.{negsuc, ◌+ℤ◌, ◌*ℤ◌, arith, ap, ◌∙◌, unsigned_abs, FitsSigned, to_z, of_z, Bool}
use Rattle.std.specs.Int.{w32, w128, int_shr}
use Rattle.std.specs.List.{sum_by}
use mir.Syntax.{Width}
use mir.Val.{hbits}
use Rattle.std.proofs.lemmas.Int.{to_z-of_z, fits_signed_from_abs}
use Rattle.std.proofs.lemmas.Nat.{one_shl}
use Rattle.std.proofs.lemmas.List.Sums.{sum_by_more, sum_by-take-le, get_or-le-sum_by}
use Rattle.std.proofs.Math.Nat.{div-le_self, mul-le-mul_right}
use Rattle.std.proofs.Math.Pow.{pow_mono}
use Rattle.vc_types.specs.Lifting.{changed_by}
use Rattle.vc_lift.proofs.WeightedSums.{abs-add, abs-mul}

-- a number that went to its bits and is read again
read : (w : Width) (x : ℤ) → unsigned_abs x < 2 ^ hbits w → to_z w (of_z w x) ≡ x
read w x h = to_z-of_z w x (fits_signed_from_abs w x h)

pub read_back : (x : ℤ) → unsigned_abs x < 2 ^ 127 → to_z w128 (of_z w128 x) ≡ x
read_back x h = read w128 x h

-- a tap that is read from 32 bits
pub tap_read : (taps : List ℤ) (j : ℕ) (tap : ℤ) → tap ≡ to_z w32 (of_z w32 (get_or taps j (pos 0)))
    → j < length taps → sum_by unsigned_abs taps < 2 ^ 14 → tap ≡ get_or taps j (pos 0)
tap_read taps j tap is within light = is
    ∙ read w32 (get_or taps j (pos 0)) (omega (arith, get_or-le-sum_by unsigned_abs taps j (pos 0) within))

pub narrow_taps : {n : ℕ} → n < 2 ^ 14 → n < 2 ^ 31
narrow_taps h = omega arith

pub narrow_room : (n m r : ℕ) → n * m + r < 2 ^ 31 → n * m < 2 ^ 31
narrow_room n m r h = omega arith

-- a sample that is read
pub sample_fits : {x : ℤ} → unsigned_abs x ≤ 2 ^ 112 → FitsSigned w128 x
sample_fits {x = x} h = fits_signed_from_abs w128 x (omega arith)

-- taps that the code can take fit 128 bits, with samples below 2 ^ 112
pub light_fits : {n : ℕ} → n < 2 ^ 14 → n < 2 ^ 127
light_fits h = omega arith

pub light_room : {n : ℕ} → n < 2 ^ 14 → n * 2 ^ 112 < 2 ^ 127
light_room h = omega arith

tap_more : (taps : List ℤ) (m j : ℕ) (tap : ℤ) → tap ≡ get_or taps j (pos 0) → j < length taps
    → sum_by unsigned_abs (take (j + 1) taps) * m
    ≡ sum_by unsigned_abs (take j taps) * m + unsigned_abs tap * m
tap_more taps m j tap is within = ap (λ n. n * m) (sum_by_more unsigned_abs taps j (pos 0) within)
    ∙ rw (← is) (omega arith)

-- a product more
pub sum_more : (taps : List ℤ) (m j : ℕ) (tap x sum : ℤ) → tap ≡ get_or taps j (pos 0) → j < length taps
    → unsigned_abs x ≤ m → unsigned_abs sum ≤ sum_by unsigned_abs (take j taps) * m
    → unsigned_abs (sum +ℤ tap *ℤ x) ≤ sum_by unsigned_abs (take (j + 1) taps) * m
sum_more taps m j tap x sum is within small bound =
    omega (arith, tap_more taps m j tap is within, abs-mul tap x m small, abs-add sum (tap *ℤ x), bound)

-- the whole sum
pub whole_sum : (taps : List ℤ) (j m r limit : ℕ) (sum : ℤ) → sum_by unsigned_abs taps * m + r < limit
    → unsigned_abs sum ≤ sum_by unsigned_abs (take j taps) * m → unsigned_abs sum + r < limit
whole_sum taps j m r limit sum room bound =
    omega (arith, mul-le-mul_right m (sum_by-take-le unsigned_abs taps j), room, bound)

-- a tap at place j of the list meets a sample x of magnitude at most m, with the sum so far
module _ (w : Width) (taps : List ℤ) (m j : ℕ) (tap x sum : ℤ) (is : tap ≡ get_or taps j (pos 0))
    (within : j < length taps) (light : sum_by unsigned_abs taps < 2 ^ hbits w) (own : FitsSigned w x)
    (room : sum_by unsigned_abs taps * m < 2 ^ hbits w) (small : unsigned_abs x ≤ m)
    (bound : unsigned_abs sum ≤ sum_by unsigned_abs (take j taps) * m) where
  tap_light : unsigned_abs tap < 2 ^ hbits w
  tap_light = rw is (omega (arith, get_or-le-sum_by unsigned_abs taps j (pos 0) within))

  term_bound : unsigned_abs (tap *ℤ x) ≤ unsigned_abs tap * m
  term_bound = abs-mul tap x m small

  grown : sum_by unsigned_abs (take (j + 1) taps) * m
      ≡ sum_by unsigned_abs (take j taps) * m + unsigned_abs tap * m
  grown = tap_more taps m j tap is within

  all : sum_by unsigned_abs (take (j + 1) taps) * m ≤ sum_by unsigned_abs taps * m
  all = mul-le-mul_right m (sum_by-take-le unsigned_abs taps (j + 1))

  term_small : unsigned_abs (tap *ℤ x) < 2 ^ hbits w
  term_small = omega (arith, grown, term_bound, all, room)

  sum_small : unsigned_abs (sum +ℤ tap *ℤ x) < 2 ^ hbits w
  sum_small = omega (arith, sum_more taps m j tap x sum is within small bound, all, room)

  pub term_fits : FitsSigned w (to_z w (of_z w tap) *ℤ to_z w (of_z w x))
  term_fits = rw (read w tap tap_light, to_z-of_z w x own) (fits_signed_from_abs w _ term_small)

  term_read : to_z w (of_z w (to_z w (of_z w tap) *ℤ to_z w (of_z w x))) ≡ tap *ℤ x
  term_read = rw (read w tap tap_light, to_z-of_z w x own) (read w _ term_small)

  pub sum_fits : FitsSigned w (sum +ℤ to_z w (of_z w (to_z w (of_z w tap) *ℤ to_z w (of_z w x))))
  sum_fits = rw term_read (fits_signed_from_abs w _ sum_small)

  pub sum_read : to_z w (of_z w (sum +ℤ to_z w (of_z w (to_z w (of_z w tap) *ℤ to_z w (of_z w x)))))
      ≡ sum +ℤ tap *ℤ x
  sum_read = rw term_read (read w _ sum_small)

shr_bound : (z : ℤ) (k : ℕ) (m : ℕ) → unsigned_abs z < m → unsigned_abs (int_shr z k) ≤ m
shr_bound (pos n) k m h = omega (arith, div-le_self n (2 ^ k))
shr_bound (negsuc n) k m h = omega (arith, div-le_self n (2 ^ k))

pub shift_read : (w r : ℤ) (k : ℕ) → unsigned_abs w < 2 ^ 126 → unsigned_abs r ≤ 2 ^ 12
    → to_z w128 (of_z w128
    (int_shr (to_z w128 (of_z w128 (to_z w128 (of_z w128 w) +ℤ to_z w128 (of_z w128 r)))) k))
    ≡ int_shr (w +ℤ r) k
shift_read w r k h g = grind (arith, read_back, abs-add, shr_bound)

pub shift_small : (w r : ℤ) (k : ℕ) → unsigned_abs w < 2 ^ 126 → unsigned_abs r ≤ 2 ^ 12
    → unsigned_abs (to_z w128
    (of_z w128 (int_shr (to_z w128
    (of_z w128 (to_z w128 (of_z w128 w) +ℤ to_z w128 (of_z w128 r)))) k))) ≤ 2 ^ 126 + 2 ^ 12
shift_small w r k h g =
    rw (shift_read w r k h g) (shr_bound (w +ℤ r) k (2 ^ 126 + 2 ^ 12) (omega (arith, abs-add w r)))

pub rounding_read : (r : ℤ) (k : ℕ) → k ≤ 12 → r ≡ pos ((1 * 2 ^ k) % 2 ^ 32 / 2) → r ≡ pos (2 ^ k / 2)
rounding_read r k h e = e ∙ ap (λ n. pos (n / 2)) (one_shl k 32 (omega arith))

pub rounding_small : (k : ℕ) → k ≤ 12 → unsigned_abs (pos (2 ^ k / 2)) ≤ 2 ^ 12
rounding_small k h = omega (arith, pow_mono h)

pub changed_read : (adds : Bool) (a b : ℤ) → unsigned_abs a < 2 ^ 127 → unsigned_abs b < 2 ^ 127
    → changed_by adds (to_z w128 (of_z w128 a)) (to_z w128 (of_z w128 b)) ≡ changed_by adds a b
changed_read adds a b h k = rw (read_back a h, read_back b k)
