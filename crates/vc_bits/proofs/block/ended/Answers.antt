use Rattle.std.proofs.Common.{arith}
use Rattle.vc_bits.proofs.Tails.{taken}
use Rattle.vc_bits.proofs.block.ended.Goals as goal

pub returns-clause-bits : goal.returns-clause-bits
returns-clause-bits c =
    taken c.args.count c.args.word c.from-last.result c.from.result c.joined-word.result
    c.args.tail_bits c.args.tail _ (omega arith) (c.requires.few (omega arith)) c.from-last.ensures
    c.requires.tail c.from.ensures c.joined-word.ensures
