use Rattle.std.proofs.Common.{arith}
use Rattle.vc_bits.proofs.Waiting.{added}
use Rattle.vc_bits.proofs.writer.BitWriter.bits.Goals as goal

pub returns-then-filled-ge32-clause-ok : goal.returns-then-filled-ge32-clause-ok
returns-then-filled-ge32-clause-ok c = grind (arith, added)
