use Rattle.std.proofs.Common.{arith}
use Rattle.vc_slice.proofs.FallSums.{fallen, next_number, small_at}
use Rattle.vc_slice.proofs.falls.add_subband.Goals as goal

pub loop-place-preserved : goal.loop-place-preserved
loop-place-preserved c = grind (arith, small_at, fallen, next_number)
