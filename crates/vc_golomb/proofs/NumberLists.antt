-- Numbers that are read one after another, by their places and as a list.
use Rattle.std.proofs.Common.{◌≡◌, ℕ, zero, suc, ◌<◌, ◌≤◌, ◌^◌, ◌-◌, ℤ, unsigned_abs, List, Bool, arith, refl, sym, ◌∙◌}
use Rattle.std.specs.Prelude.{Result, Ok, Err, OnOk, OnErr, IsErr, ◌↔◌}
use Rattle.vc_types.specs.Bounded.{bounded_sint, bounded_sints}
use Rattle.vc_types.specs.Lifting.{line_of}
use Rattle.vc_golomb.specs.Numbers.{number_at, HasLarge}

pub number_listed : (n k : ℕ) (bits : List Bool) → k < n → line_of (bounded_sints n bits) k ≡ number_at bits k
unfolding bounded_sints number_at
number_listed zero k bits h = absurd (omega arith)
number_listed (suc n) zero bits h = refl
number_listed (suc n) (suc k) bits h = number_listed n k (bounded_sint bits).1 (omega arith)

module _ {E : Type 0} (n : ℕ) (bits : List Bool) where
  pub listed : (out : List ℤ) (read : Result ℕ E) → OnOk read ((i : ℕ) → i < n → line_of out i ≡ number_at bits i)
      → OnOk read ((i : ℕ) → i < n → line_of out i ≡ line_of (bounded_sints n bits) i)
  listed out (Ok most) read = λ i h. read i h ∙ sym (number_listed n i bits h)
  listed out (Err large) read = read

  pub large_listed : (read : Result ℕ E) → OnErr read ((i : ℕ) × (i < n) × (2 ^ 30 ≤ unsigned_abs (number_at bits i)))
      → OnErr read (HasLarge n bits)
  large_listed read i = grind (arith, number_listed)

-- the first number is refused
pub large_first : {E : Type 0} (bits : List Bool) (read : Result ℤ E) → IsErr read ↔ (2 ^ 30 - 1 < unsigned_abs (bounded_sint bits).0) → OnErr read (2 ^ 30 ≤ unsigned_abs (number_at bits 0))
unfolding number_at
large_first bits (Ok number) large = tt
large_first bits (Err refused) large = omega (arith, large.0 refl)
