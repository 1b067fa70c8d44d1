use Rattle.std.proofs.Common.{arith}
use Rattle.vc_bits.proofs.Words.{four_moved}
use Rattle.vc_bits.proofs.block.with_four.Goals as goal

pub returns-clause-bits : goal.returns-clause-bits
returns-clause-bits c = four_moved c.args.count c.args.word _ c.args.rest.now _ c.requires.count c.requires.bytes (λ i. omega (arith, c.type_inv.rest i)) (omega (arith, c.from.ensures, c.from_be_bytes-more.ensures)) c.split_at.ensures.back
