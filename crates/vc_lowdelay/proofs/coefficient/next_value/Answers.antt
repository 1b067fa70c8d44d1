use Rattle.std.proofs.Common.{arith}
use Rattle.vc_slice.proofs.Dequantising.{large_stays}
use Rattle.vc_lowdelay.proofs.coefficient.next_value.Goals as goal

pub returns-in-Err-clause-large : goal.returns-in-Err-clause-large
returns-in-Err-clause-large c = grind (arith, large_stays)
