use Rattle.std.proofs.Common.{arith}
use Rattle.vc_bits.proofs.Waiting.{joined_bits, joined_fits, moved_fits, moved_up}
use Rattle.vc_golomb.proofs.short.code_behind.Goals as goal

pub overflow_add-result : goal.overflow_add-result
overflow_add-result c = omega (arith, moved_fits c.args.first.bits c.args.second.count c.args.second.bits (omega arith) c.requires.second)

pub returns-clause-value : goal.returns-clause-value
returns-clause-value c = grind (arith, moved_up, joined_bits)

pub returns-clause-range : goal.returns-clause-range
returns-clause-range c =
    rw (moved_up c.args.first.count c.args.first.bits c.args.second.count c.requires.first (omega arith)) (joined_fits c.args.first.count c.args.first.bits c.args.second.count c.args.second.bits c.requires.first c.requires.second)
