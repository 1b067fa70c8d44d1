use Rattle.std.proofs.Common.{arith}
use Rattle.vc_bits.proofs.Words.{filled_small, filled_bits}
use Rattle.vc_bits.proofs.block.filled_word.Goals as goal

pub overflow_add-result : goal.overflow_add-result
overflow_add-result c = omega (arith, filled_small c.args.count c.args.word c.requires)

pub returns-clause-bits : goal.returns-clause-bits
returns-clause-bits c = filled_bits c.args.count c.args.word c.requires

pub returns-clause-range : goal.returns-clause-range
returns-clause-range c = filled_small c.args.count c.args.word c.requires
