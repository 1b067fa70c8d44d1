use Rattle.std.proofs.Common.{arith}
use Rattle.vc_bits.proofs.Words.{peeked_twelve, peeked_filled}
use Rattle.vc_bits.proofs.block.Block.peek_twelve.Goals as goal

pub returns-then-self-ge12-clause-twelve : goal.returns-then-self-ge12-clause-twelve
returns-then-self-ge12-clause-twelve c = grind (arith, peeked_twelve)

pub returns-else-self-ge12-clause-twelve : goal.returns-else-self-ge12-clause-twelve
returns-else-self-ge12-clause-twelve c = grind (arith, peeked_filled)
