use Rattle.std.proofs.Common.{arith}
use Rattle.picture_encode.proofs.PackedBits.{packed_back}
use Rattle.picture_encode.proofs.slices.bits_are_packed.Goals as goal

pub returns : goal.returns
returns c = packed_back c.args.bytes.now (λ i h. omega (arith, c.type_inv.bytes i))
