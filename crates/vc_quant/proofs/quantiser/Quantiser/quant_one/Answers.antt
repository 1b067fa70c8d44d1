use Rattle.std.proofs.Common.{arith}
use Rattle.std.proofs.lemmas.Int.{to_z-of_z}
use Rattle.vc_quant.proofs.Magnitudes.{narrowed, quantised_fits}
use Rattle.vc_quant.proofs.quantiser.Quantiser.quant_one.Goals as goal

pub overflow_cast-result : goal.overflow_cast-result
overflow_cast-result c = grind (arith, to_z-of_z, narrowed, quantised_fits)

pub returns : goal.returns
returns c = grind (arith, to_z-of_z, narrowed, quantised_fits)
