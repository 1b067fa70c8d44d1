use Rattle.vc_golomb.proofs.OnesBefore.{ones_bits, ones_fit}
use Rattle.vc_golomb.proofs.short.behind_ones.Goals as goal

pub returns-clause-value : goal.returns-clause-value
returns-clause-value c = ones_bits c.args.ones c.args.code.count c.args.code.bits c.requires.ones c.requires.count c.requires.range

pub returns-clause-range : goal.returns-clause-range
returns-clause-range c = ones_fit c.args.ones c.args.code.count c.args.code.bits c.requires.ones c.requires.count c.requires.range
