-- Sums of signed numbers by their index, and how large they get.
use Rattle.std.proofs.Common.{◌≡◌, ℕ, zero, suc, ◌+◌, ◌*◌, ◌≤◌, ℤ, pos, ◌+ℤ◌, ◌*ℤ◌, arith, ap, refl, ◌∙◌}
use Rattle.std.proofs.Common.{unsigned_abs}
use Rattle.std.proofs.lemmas.Int.{ints, unsigned_abs-mul}
use Rattle.std.proofs.Math.Nat.{mul-le-mul}
use Rattle.std.proofs.Math.Numerals.{add-one}
use Rattle.vc_lift.specs.CountedSteps.{sum_below}

pub sum_below_none : (f : ℕ → ℤ) → sum_below 0 f ≡ pos 0
unfolding sum_below
sum_below_none f = refl

pub sum_below_more : (n : ℕ) (f : ℕ → ℤ) → sum_below (n + 1) f ≡ sum_below n f +ℤ f n
unfolding sum_below
sum_below_more n f = rw add-one

add_zero : (a : ℤ) → pos 0 +ℤ a ≡ a +ℤ pos 0
add_zero a = omega (arith, ints)

regroup : (a b c : ℤ) → (a +ℤ b) +ℤ c ≡ a +ℤ (b +ℤ c)
regroup a b c = omega (arith, ints)

-- the first number of a sum apart
pub sum_below_first : (n : ℕ) (f : ℕ → ℤ) → sum_below (suc n) f ≡ f 0 +ℤ sum_below n (λ k. f (suc k))
unfolding sum_below
sum_below_first zero f = add_zero (f 0)
sum_below_first (suc n) f = ap (λ z. z +ℤ f (suc n)) (sum_below_first n f)
    ∙ regroup (f 0) (sum_below n (λ k. f (suc k))) (f (suc n))

pub abs-add : (a b : ℤ) → unsigned_abs (a +ℤ b) ≤ unsigned_abs a + unsigned_abs b
abs-add a b = omega (arith, ints)

pub abs-mul : (t x : ℤ) (m : ℕ) → unsigned_abs x ≤ m → unsigned_abs (t *ℤ x) ≤ unsigned_abs t * m
abs-mul t x m h = rw (unsigned_abs-mul t x) (grind (arith, mul-le-mul))
