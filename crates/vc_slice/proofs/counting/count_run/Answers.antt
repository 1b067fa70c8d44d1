use Rattle.std.proofs.Common.{arith}
use Rattle.vc_slice.proofs.RunLengths.{codes_of_used, zeros_wait}
use Rattle.vc_slice.proofs.counting.count_run.Goals as goal

pub returns-then-used-eq0-clause-bits : goal.returns-then-used-eq0-clause-bits
returns-then-used-eq0-clause-bits c = grind (arith, zeros_wait c.args.index c.requires.index)

pub returns-else-used-eq0-clause-bits : goal.returns-else-used-eq0-clause-bits
returns-else-used-eq0-clause-bits c = grind (arith, codes_of_used c.args.index c.requires.index c.used-used.result)
