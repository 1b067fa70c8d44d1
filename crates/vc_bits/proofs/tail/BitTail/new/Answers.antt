use Rattle.std.proofs.Common.{refl}
use Rattle.vc_bits.specs.Bits.{word_bits}
use Rattle.vc_bits.proofs.tail.BitTail.new.Goals as goal

pub returns : goal.returns
unfolding word_bits
returns c = refl
