use Rattle.std.proofs.Common.{arith}
use Rattle.std.proofs.lemmas.Int.{to_z-of_z}
use Rattle.std.proofs.Math.Nat.{div-le_self}
use Rattle.vc_types.specs.Quantisation.{quantised}
use Rattle.vc_quant.proofs.Magnitudes.{negated_64, kept_64, nothing}
use Rattle.vc_quant.proofs.Quotients.{not_larger}
use Rattle.vc_quant.proofs.quantiser.Quantiser.quant.Goals as goal

pub returns-then-quarters-self-clause-value : goal.returns-then-quarters-self-clause-value
returns-then-quarters-self-clause-value c = grind (arith, to_z-of_z, nothing)

pub returns-then-c-lt0-clause-value : goal.returns-then-c-lt0-clause-value
unfolding quantised
returns-then-c-lt0-clause-value c = grind (arith, to_z-of_z, negated_64, div-le_self)

pub returns-else-c-lt0-clause-value : goal.returns-else-c-lt0-clause-value
unfolding quantised
returns-else-c-lt0-clause-value c = grind (arith, to_z-of_z, kept_64, div-le_self)

pub returns-then-c-lt0-clause-not_larger : goal.returns-then-c-lt0-clause-not_larger
returns-then-c-lt0-clause-not_larger c = grind (arith, to_z-of_z, not_larger)

pub returns-else-c-lt0-clause-not_larger : goal.returns-else-c-lt0-clause-not_larger
returns-else-c-lt0-clause-not_larger c = grind (arith, to_z-of_z, not_larger)
