use Rattle.std.proofs.Common.{arith}
use Rattle.vc_bits.proofs.Waiting.{one_fewer}
use Rattle.vc_bits.proofs.pending.cut_last.Goals as goal

pub last-preserved : goal.last-preserved
last-preserved c = grind (arith, one_fewer)
