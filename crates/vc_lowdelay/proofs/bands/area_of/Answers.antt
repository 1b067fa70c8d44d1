use Rattle.std.proofs.Common.{arith}
use Rattle.std.proofs.lemmas.Nat.{mul-le}
use Rattle.vc_lowdelay.proofs.bands.area_of.Goals as goal

pub overflow_mul-result : goal.overflow_mul-result
overflow_mul-result c = omega (arith, mul-le c.args.rect.now.width c.args.rect.now.height 8192 8192 (omega arith) (omega arith))

pub returns-clause-range : goal.returns-clause-range
returns-clause-range c = omega (arith, mul-le c.args.rect.now.width c.args.rect.now.height 8192 8192 (omega arith) (omega arith))
