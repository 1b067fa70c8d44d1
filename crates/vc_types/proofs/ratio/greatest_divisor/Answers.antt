use Rattle.std.proofs.Common.{arith, ◌∙◌, sym}
use Rattle.vc_types.proofs.Divisors.{last_divisor, next_divisor}
use Rattle.vc_types.proofs.ratio.greatest_divisor.Goals as goal

pub steps-preserved : goal.steps-preserved
steps-preserved c = (sym (next_divisor _ _ (omega arith)) ∙ c.steps.invariant.0, omega arith)

pub returns-clause-value : goal.returns-clause-value
returns-clause-value c = sym (last_divisor _ _ (omega arith)) ∙ c.steps.invariant.0

pub returns-clause-some : goal.returns-clause-some
returns-clause-some c = omega (arith, c.steps.invariant.1)
