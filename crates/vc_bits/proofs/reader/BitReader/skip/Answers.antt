use Rattle.std.proofs.Common.{arith}
use Rattle.vc_bits.proofs.Left.{state_is, enough_left}
use Rattle.vc_bits.proofs.reader.BitReader.skip.Goals as goal

pub returns : goal.returns
returns c = grind (arith, enough_left, state_is)
