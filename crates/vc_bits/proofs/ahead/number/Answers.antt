use Rattle.std.proofs.Common.{arith}
use Rattle.vc_bits.proofs.BytesNumber.{number_none, number_more, fits_more, number_between}
use Rattle.vc_bits.proofs.ahead.number.Goals as goal

pub loop-place-init : goal.loop-place-init
loop-place-init c = record { number = number_none; fits = omega arith }

pub loop-place-preserved : goal.loop-place-preserved
loop-place-preserved c = grind (arith, number_more, fits_more)

pub returns : goal.returns
returns c = grind (arith, number_between)
