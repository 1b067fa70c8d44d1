use Rattle.std.proofs.Common.{arith}
use Rattle.vc_bits.proofs.Waiting.{repeated_more}
use Rattle.vc_bits.proofs.writer.BitWriter.repeat.Goals as goal

pub words-preserved : goal.words-preserved
words-preserved c = grind (arith, repeated_more)
