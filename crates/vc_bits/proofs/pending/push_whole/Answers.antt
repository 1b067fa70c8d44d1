use Rattle.std.proofs.Common.{arith}
use Rattle.vc_bits.proofs.Waiting.{whole_first}
use Rattle.vc_bits.proofs.pending.push_whole.Goals as goal

pub returns-clause-bits : goal.returns-clause-bits
returns-clause-bits c = grind (arith, whole_first)
