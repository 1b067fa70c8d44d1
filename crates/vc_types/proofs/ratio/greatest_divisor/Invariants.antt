use Rattle.std.proofs.Common.{◌≡◌, ◌≤◌, ◌+◌, ℕ}
use Rattle.vc_types.specs.Ratios.{greatest_divisor}
use Rattle.vc_types.proofs.ratio.greatest_divisor.Given as goal

abbrev pub invariant-steps : goal.invariant-steps
invariant-steps l = (greatest_divisor l.dividend l.divisor ≡ greatest_divisor l.fn.a l.fn.b) × (1 ≤ l.dividend + l.divisor)

abbrev pub decreases-steps : goal.decreases-steps
decreases-steps l = l.divisor
