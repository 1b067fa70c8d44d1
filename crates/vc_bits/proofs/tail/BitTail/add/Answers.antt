use Rattle.std.proofs.Common.{arith}
use Rattle.vc_bits.proofs.Waiting.{added}
use Rattle.vc_bits.proofs.Words.{length-word_bits}
use Rattle.vc_bits.proofs.tail.BitTail.add.Goals as goal

pub returns-clause-bits : goal.returns-clause-bits
returns-clause-bits c = grind (arith, added)

pub returns-clause-len : goal.returns-clause-len
returns-clause-len c = grind (arith, length-word_bits)
