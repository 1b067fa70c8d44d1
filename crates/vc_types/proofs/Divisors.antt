-- Euclid's algorithm: how many steps it may take at most doesn't matter where they are enough.
use Rattle.std.proofs.Common.{◌≡◌, ℕ, zero, suc, ◌%◌, ◌≤◌, ◌<◌, refl, ap, sym, ◌∙◌, arith}
use Rattle.std.specs.Int.{IsGcd}
use Rattle.std.proofs.lemmas.Nat.Gcd.{IsGcd-from_zero, IsGcd-from_mod}
use Rattle.vc_types.specs.Ratios.{divisor_within, greatest_divisor}

rest_below : (a b : ℕ) → a % suc b ≤ b
rest_below a b = omega arith

pub steps_enough : (m n a b : ℕ) → b ≤ m → b ≤ n → divisor_within m a b ≡ divisor_within n a b
steps_enough zero zero a b few many = refl
steps_enough zero (suc n) a zero few many = refl
steps_enough zero n a (suc b) few many = absurd (omega arith)
steps_enough (suc m) zero a zero few many = refl
steps_enough m zero a (suc b) few many = absurd (omega arith)
steps_enough (suc m) (suc n) a zero few many = refl
steps_enough (suc m) (suc n) a (suc b) few many =
    let rest = rest_below a b in
    steps_enough m n (suc b) (a % suc b) (omega (arith, rest)) (omega (arith, rest))

-- one step
pub next_divisor : (a b : ℕ) → 0 < b → greatest_divisor a b ≡ greatest_divisor b (a % b)
unfolding greatest_divisor
next_divisor a zero some = absurd (omega arith)
next_divisor a (suc b) some =
    let rest = rest_below a b in
    steps_enough b (a % suc b) (suc b) (a % suc b) rest (omega arith)

pub last_divisor : (a b : ℕ) → b ≡ 0 → greatest_divisor a b ≡ a
unfolding greatest_divisor
last_divisor a b none = rw none refl

within_divides : (steps a b : ℕ) → b ≤ steps → IsGcd a b (divisor_within steps a b)
within_divides zero a b few = IsGcd-from_zero a b (omega arith)
within_divides (suc steps) a zero few = IsGcd-from_zero a zero refl
within_divides (suc steps) a (suc b) few =
    let rest = rest_below a b in
    IsGcd-from_mod a (suc b) _ (within_divides steps (suc b) (a % suc b) (omega (arith, rest)))

-- It is the greatest common divisor.
pub is_greatest : (a b : ℕ) → IsGcd a b (greatest_divisor a b)
unfolding greatest_divisor
is_greatest a b = within_divides b a b (omega arith)
