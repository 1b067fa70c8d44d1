use Rattle.std.proofs.Common.{arith}
use Rattle.vc_bits.proofs.Waiting.{whole_bytes}
use Rattle.vc_bits.proofs.writer.BitWriter.finish.Goals as goal

pub returns : goal.returns
returns c = grind (arith, whole_bytes)
