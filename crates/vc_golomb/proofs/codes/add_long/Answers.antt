use Rattle.std.proofs.Common.{arith}
use Rattle.vc_golomb.proofs.AppendedCodes.{first_part_fits, two_parts}
use Rattle.vc_golomb.proofs.codes.add_long.Goals as goal

pub add-requires-clause-number : goal.add-requires-clause-number
add-requires-clause-number c = first_part_fits c.args.code.count c.args.code.bits (omega arith) c.requires.range

pub returns-then-code-gt32-clause-bits : goal.returns-then-code-gt32-clause-bits
returns-then-code-gt32-clause-bits c = two_parts c.args.code.count c.args.code.bits _ _ _ (omega arith) c.add.ensures.bits c.add-then-code-gt32.ensures.bits
