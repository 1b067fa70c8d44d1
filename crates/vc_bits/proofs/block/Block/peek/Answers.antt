use Rattle.std.proofs.Common.{rules}
use Rattle.std.proofs.lemmas.Nat.{one_shl}
use Rattle.vc_bits.proofs.Words.{peeked_ones}
use Rattle.vc_bits.proofs.block.Block.peek.Goals as goal

pub returns-then-self-gt0 : goal.returns-then-self-gt0
returns-then-self-gt0 c = search (rules, one_shl, peeked_ones)
