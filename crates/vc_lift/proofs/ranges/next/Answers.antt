use Rattle.std.proofs.Common.{arith}
use Rattle.vc_lift.proofs.NarrowGrowth.{bound_even, bound_odd}
use Rattle.vc_lift.proofs.ranges.next.Goals as goal

pub returns-in_err-stretched-clause-value : goal.returns-in_err-stretched-clause-value
returns-in_err-stretched-clause-value c = grind (arith, bound_even)

pub returns-in_err-stretched-2-clause-value : goal.returns-in_err-stretched-2-clause-value
returns-in_err-stretched-2-clause-value c = grind (arith, bound_odd)

pub returns-in_ok-stretched-clause-value : goal.returns-in_ok-stretched-clause-value
returns-in_ok-stretched-clause-value c = grind (arith, bound_even)

pub returns-in_ok-stretched-2-clause-value : goal.returns-in_ok-stretched-2-clause-value
returns-in_ok-stretched-2-clause-value c = grind (arith, bound_odd)
