use Rattle.std.proofs.lemmas.Grind.{common_steps}
use Rattle.std.proofs.Common.{arith}
use Rattle.std.proofs.lemmas.Int.{to_z-of_z}
use Rattle.std.proofs.Math.Nat.{mul-le-mul_right}
use Rattle.vc_quant.proofs.Magnitudes.{signed, narrow_coefficient}
use Rattle.vc_quant.proofs.narrow.NarrowQuantiser.dequant.Goals as goal

pub coefficient-requires : goal.coefficient-requires
coefficient-requires c = grind (arith, to_z-of_z, mul-le-mul_right)

pub returns-clause-value : goal.returns-clause-value
returns-clause-value c = grind (arith, to_z-of_z, signed)

pub returns-clause-narrow : goal.returns-clause-narrow
returns-clause-narrow c = grind (arith, common_steps, narrow_coefficient)
