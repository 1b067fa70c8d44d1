use Rattle.std.proofs.lemmas.Grind.{common_steps}
use Rattle.std.proofs.Common.{arith}
use Rattle.vc_types.proofs.Digits.{fits_more, digit_of-lt}
use Rattle.vc_bits.proofs.Writing.{fill_more}
use Rattle.vc_bits.proofs.byte.filled.Goals as goal

pub loop-used-preserved : goal.loop-used-preserved
loop-used-preserved c = grind (arith, common_steps, fits_more, digit_of-lt, fill_more)
