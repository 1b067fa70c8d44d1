use Rattle.std.proofs.Common.{arith}
use Rattle.vc_slice.proofs.FallSums.{most_set, most_set_above, most_set_le}
use Rattle.vc_slice.proofs.falls.mark.Goals as goal

pub returns-clause-on : goal.returns-clause-on
returns-clause-on c = omega (arith, most_set)

pub returns-clause-off : goal.returns-clause-off
returns-clause-off c = λ q lt. most_set_above q c.from.result c.args.kept.now c.args.place (omega (arith, c.from.ensures))

pub returns-clause-places : goal.returns-clause-places
returns-clause-places c = grind (arith, most_set_le)
