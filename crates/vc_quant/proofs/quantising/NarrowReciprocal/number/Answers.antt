use Rattle.std.proofs.Common.{rules}
use Rattle.vc_types.specs.Quantisation.{quantised}
use Rattle.vc_quant.proofs.quantising.NarrowReciprocal.number.Goals as goal

pub returns-then-coefficient-lt0 : goal.returns-then-coefficient-lt0
unfolding quantised
returns-then-coefficient-lt0 c = search rules

pub returns-else-coefficient-lt0 : goal.returns-else-coefficient-lt0
unfolding quantised
returns-else-coefficient-lt0 c = search rules
