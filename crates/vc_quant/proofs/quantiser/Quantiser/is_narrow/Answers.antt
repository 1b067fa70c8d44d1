use Rattle.std.proofs.Common.{◌^◌, arith}
use Rattle.std.proofs.lemmas.Nat.{mul-le}
use Rattle.vc_quant.proofs.quantiser.Quantiser.is_narrow.Goals as goal

pub overflow_mul-result : goal.overflow_mul-result
overflow_mul-result c =
    omega (arith, mul-le c.from.result c.args.self.now.factor (2 ^ 32) (2 ^ 31) (omega arith) (omega arith))

pub overflow_add-result : goal.overflow_add-result
overflow_add-result c =
    omega (arith, mul-le c.from.result c.args.self.now.factor (2 ^ 32) (2 ^ 31) (omega arith) (omega arith))

pub overflow_add-result-2 : goal.overflow_add-result-2
overflow_add-result-2 c =
    omega (arith, mul-le c.from.result c.args.self.now.factor (2 ^ 32) (2 ^ 31) (omega arith) (omega arith))
