use Rattle.std.proofs.Common.{arith, rules}
use Rattle.vc_lift.specs.CountedSteps.{change_at}
use Rattle.vc_lift.proofs.Sums.{shift_read, shift_small, rounding_read, rounding_small}
use Rattle.vc_lift.proofs.columns.change_at.Goals as goal

pub returns-clause-value : goal.returns-clause-value
unfolding change_at
returns-clause-value c = search (rules, rounding_read, shift_read, rounding_small)

pub returns-clause-bound : goal.returns-clause-bound
returns-clause-bound c = grind (arith, rounding_read, shift_small, rounding_small)
