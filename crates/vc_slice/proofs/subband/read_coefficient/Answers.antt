use Rattle.std.proofs.Common.{arith}
use Rattle.vc_slice.proofs.Dequantising.{large_stays}
use Rattle.vc_slice.proofs.subband.read_coefficient.Goals as goal

pub returns-in-Err-clause-value : goal.returns-in-Err-clause-value
returns-in-Err-clause-value c = grind (arith, large_stays)
