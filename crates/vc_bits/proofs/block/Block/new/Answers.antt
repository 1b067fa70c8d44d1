use Rattle.std.proofs.Common.{◌∙◌}
use Rattle.vc_bits.specs.Bits.{word_bits}
use Rattle.vc_bits.proofs.Tails.{behind_word, no_tail}
use Rattle.vc_bits.proofs.Words.{none_yet}
use Rattle.vc_bits.proofs.block.Block.new.Goals as goal

pub returns : goal.returns
returns c = behind_word _ _ _ _ (word_bits 0 0) c.refilled-word.ensures.bits ∙ no_tail _ ∙ none_yet _
