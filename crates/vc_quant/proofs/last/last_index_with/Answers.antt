use Rattle.std.proofs.Common.{◌≡◌, ◌-◌, ◌*◌, ◌/◌, ◌^◌, ◌%◌, ◌<◌, ◌∙◌, ℕ, arith, ap}
use Rattle.std.proofs.lemmas.Nat.{one_shl}
use Rattle.vc_quant.proofs.Quotients.{digits_are, some_quarters, few_digits, some_factor}
use Rattle.vc_quant.proofs.last.last_index_with.Goals as goal

pub overflow_shl-least : goal.overflow_shl-least
overflow_shl-least c = omega (arith, few_digits c.args.digits c.args.magnitude c.requires.digits.1 c.requires.size)

pub reciprocal_of-requires : goal.reciprocal_of-requires
reciprocal_of-requires c = (c.requires.digits.0, few_digits c.args.digits c.args.magnitude c.requires.digits.1 c.requires.size)

quotient_is : (digits magnitude quotient : ℕ) → digits < 64 → quotient ≡ 4 * magnitude / (1 * 2 ^ digits % 2 ^ 64 - 1) → quotient ≡ 4 * magnitude / (2 ^ digits - 1)
quotient_is digits magnitude quotient small is = is ∙ ap (λ (n : ℕ). 4 * magnitude / (n - 1)) (one_shl digits 64 small)

pub last_index-requires : goal.last_index-requires
last_index-requires c = grind (arith, few_digits, quotient_is, some_quarters)

pub returns-clause-value : goal.returns-clause-value
returns-clause-value c = grind (arith, few_digits, quotient_is, digits_are, some_factor)
