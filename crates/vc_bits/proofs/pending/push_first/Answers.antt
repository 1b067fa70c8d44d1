use Rattle.std.proofs.Common.{arith}
use Rattle.vc_bits.proofs.Waiting.{first_byte}
use Rattle.vc_bits.proofs.pending.push_first.Goals as goal

pub returns-clause-bits : goal.returns-clause-bits
returns-clause-bits c = grind (arith, first_byte)
