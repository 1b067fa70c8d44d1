use Rattle.std.proofs.Common.{arith}
use Rattle.std.proofs.lemmas.Bool.{eqb-false}
use Rattle.vc_bits.proofs.Words.{byte_moved}
use Rattle.vc_bits.proofs.block.with_bytes.Goals as goal

pub bytes-preserved : goal.bytes-preserved
bytes-preserved c = grind (arith, byte_moved, eqb-false)
