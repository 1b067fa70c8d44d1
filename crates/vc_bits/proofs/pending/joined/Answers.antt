use Rattle.std.proofs.Common.{arith}
use Rattle.vc_bits.proofs.Waiting.{moved_bits, moved_fits}
use Rattle.vc_bits.proofs.pending.joined.Goals as goal

pub overflow_add-result : goal.overflow_add-result
overflow_add-result c = omega (arith, moved_fits c.args.word c.args.count c.args.number (omega arith) c.requires.number)

pub returns : goal.returns
returns c = moved_bits c.args.have c.args.word c.args.count c.args.number (omega arith) c.requires.number
