use Rattle.std.proofs.Common.{◌∙◌, ◌++◌, ap, Bool, List}
use Rattle.vc_bits.specs.Bits.{word_bits}
use Rattle.vc_bits.proofs.Tails.{behind_word}
use Rattle.vc_bits.proofs.Words.{none_yet}
use Rattle.vc_bits.proofs.block.Block.with_tail.Goals as goal

pub returns : goal.returns
returns c =
    let tail = word_bits c.args.tail_bits c.args.tail in
    c.ended-word.ensures.bits ∙ behind_word _ _ _ _ tail c.refilled-word.ensures.bits
    ∙ ap (λ (bits : List Bool). bits ++ tail) (none_yet c.args.bytes.now)
