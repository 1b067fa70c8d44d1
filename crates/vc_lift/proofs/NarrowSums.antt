-- Changes in 32 bits: what a step with room reckons fits, and depends on the samples met alone.
use Rattle.std.proofs.Common.{◌≡◌, ℕ, zero, suc, ◌+◌, ◌*◌, ◌/◌, ◌%◌, ◌^◌, ◌<◌, ◌≤◌, List, length, take}
use Rattle.std.proofs.Common.{get_or, ℤ, pos, negsuc, ◌+ℤ◌, ◌*ℤ◌, arith, ap, ◌∙◌, refl, subst, unsigned_abs}
use Rattle.std.proofs.Common.{slice_index_or, FitsSigned, to_z, of_z, Bool}
use Rattle.std.specs.Int.{w32, int_shr}
use Rattle.std.specs.List.{sum_by}
use Rattle.std.proofs.lemmas.Int.{ints, to_z-of_z, to_z_pos, fits_signed_from_abs}
use Rattle.std.proofs.lemmas.Nat.{one_shl, le-div}
use Rattle.std.proofs.lemmas.List.Sums.{sum_by-take-le}
use Rattle.std.proofs.Math.Nat.{div-le_self, div-mul-le_self, mul-le-mul_right}
use Rattle.std.proofs.Math.Numerals.{add-one}
use Rattle.std.proofs.Math.Pow.{pow_mono, pow_pos}
use Rattle.vc_types.specs.Lifting.{half_of, changed_by}
use Rattle.vc_lift.specs.CountedSteps.{CountedStep, sum_below, place_met, sum_met, change_at}
use Rattle.vc_lift.specs.Growth.{weight}
use Rattle.vc_lift.specs.Ranges.{HasRangeAt}
use Rattle.vc_lift.proofs.WeightedSums.{abs-add}
use Rattle.vc_lift.proofs.Sums.{sum_more}

div_mono : (m n k : ℕ) → 0 < k → m ≤ n → m / k ≤ n / k
div_mono m n k some h = le-div (m / k) n k some (let below = div-mul-le_self m k in omega (arith, below, h))

-- a shift down divides, up to one
pub shr_at_most : (z : ℤ) (k m : ℕ) → unsigned_abs z ≤ m → unsigned_abs (int_shr z k) ≤ m / 2 ^ k + 1
shr_at_most (pos n) k m h = (let below = div_mono n m (2 ^ k) (pow_pos k) h in omega (arith, below))
shr_at_most (negsuc n) k m h =
    (let below = div_mono n m (2 ^ k) (pow_pos k) (omega arith) in omega (arith, below))

-- ---- sums over the samples met

sum_within : (taps : List ℤ) (f : ℕ → ℤ) (m j : ℕ) → j ≤ length taps
    → ((i : ℕ) → i < length taps → unsigned_abs (f i) ≤ m)
    → unsigned_abs (sum_below j (λ i. get_or taps i (pos 0) *ℤ f i)) ≤ sum_by unsigned_abs (take j taps) * m
unfolding sum_below
sum_within taps f m zero h small = omega arith
sum_within taps f m (suc j) h small =
    subst (λ n. unsigned_abs
    (sum_below j (λ i. get_or taps i (pos 0) *ℤ f i) +ℤ get_or taps j
    (pos 0) *ℤ f j) ≤ sum_by unsigned_abs (take n taps) * m) (add-one j)
    (sum_more taps m j (get_or taps j (pos 0)) (f j) (sum_below j (λ i. get_or taps i (pos 0) *ℤ f i)) refl
    (omega arith) (small j (omega arith)) (sum_within taps f m j (omega arith) small))

pub sum_met_within : (s : CountedStep) (half : ℕ) (x : ℕ → ℤ) (n m : ℕ)
    → ((j : ℕ) → j < length s.taps → unsigned_abs (x (place_met s half n j)) ≤ m)
    → unsigned_abs (sum_met s half x n) ≤ weight s * m
unfolding sum_met
sum_met_within s half x n m small =
    let sum = sum_within s.taps (λ j. x (place_met s half n j)) m (length s.taps) (omega arith) small in
    let part = mul-le-mul_right m (sum_by-take-le unsigned_abs s.taps (length s.taps)) in
    omega (arith, sum, part)

-- the change of a sample that has room
pub change_within : (s : CountedStep) (half : ℕ) (x : ℕ → ℤ) (n limit : ℕ) → HasRangeAt limit s half x n
    → unsigned_abs (x (2 * n + s.parity)) + unsigned_abs (change_at s half x n) < limit
unfolding change_at
change_within s half x n limit room = grind (arith, sum_met_within, shr_at_most, abs-add)

same_below : (n : ℕ) (f g : ℕ → ℤ) → ((j : ℕ) → j < n → f j ≡ g j) → sum_below n f ≡ sum_below n g
unfolding sum_below
same_below zero f g same = refl
same_below (suc n) f g same = ap (λ z. z +ℤ f n) (same_below n f g (λ j h. same j (omega arith)))
    ∙ ap (λ z. sum_below n g +ℤ z) (same n (omega arith))

-- lines whose samples met are the same
pub same_change : (s : CountedStep) (half : ℕ) (x y : ℕ → ℤ) (n m : ℕ)
    → ((j : ℕ) → j < length s.taps → x (place_met s half n j) ≡ y (place_met s half m j))
    → change_at s half x n ≡ change_at s half y m
unfolding change_at sum_met
same_change s half x y n m same =
    ap (λ z. int_shr (z +ℤ pos (half_of s.shift)) s.shift)
    (same_below (length s.taps) _ _ (λ j h. ap (λ z. slice_index_or s.taps j (pos 0) *ℤ z) (same j h)))

pub same_room : (s : CountedStep) (half : ℕ) (x y : ℕ → ℤ) (n m limit : ℕ)
    → ((j : ℕ) → j < length s.taps → x (place_met s half n j) ≡ y (place_met s half m j))
    → x (2 * n + s.parity) ≡ y (2 * m + s.parity) → HasRangeAt limit s half y m → HasRangeAt limit s half x n
same_room s half x y n m limit same own room = grind arith

-- ---- 32 bits

read : (x : ℤ) → unsigned_abs x < 2 ^ 31 → to_z w32 (of_z w32 x) ≡ x
read x h = to_z-of_z w32 x (fits_signed_from_abs w32 x h)

pub narrow_rounding : (k : ℕ) → k ≤ 12 → to_z w32 (1 * 2 ^ k % 2 ^ 32 / 2) ≡ pos (half_of k)
narrow_rounding k h = omega (arith, ints, one_shl, to_z_pos, pow_mono)

pub narrow_shift : (w r : ℤ) (k : ℕ) → r ≡ pos (half_of k) → unsigned_abs w + half_of k < 2 ^ 31
    → to_z w32 (of_z w32 (int_shr (to_z w32 (of_z w32 (to_z w32 (of_z w32 w) +ℤ r))) k))
    ≡ int_shr (w +ℤ pos (half_of k)) k
narrow_shift w r k e h = grind (arith, read, abs-add, div-le_self)

pub narrow_changed : (adds : Bool) (a b : ℤ) → FitsSigned w32 a → FitsSigned w32 b
    → changed_by adds (to_z w32 (of_z w32 a)) (to_z w32 (of_z w32 b)) ≡ changed_by adds a b
narrow_changed adds a b h k = rw (to_z-of_z w32 a h, to_z-of_z w32 b k) refl
