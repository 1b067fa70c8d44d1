use Rattle.std.proofs.Common.{◌-◌, ◌∙◌, ap, drop, refl}
use Rattle.vc_bits.specs.Bits.{word_bits}
use Rattle.vc_bits.proofs.Tails.{past_word, within_word}
use Rattle.vc_bits.proofs.block.Block.skip.Goals as goal

pub returns-then-bits-self : goal.returns-then-bits-self
returns-then-bits-self c =
    let b = c.self.inside in
    c.ended-word.ensures.bits
    ∙ within_word b.count b.word c.args.bits _ _ b.rest.now _ (word_bits b.tail_bits b.tail)
    c.if-bits-self.true c.refilled-word.ensures.bits
    ∙ ap (drop c.args.bits) c.self.view_is

pub returns-else-bits-self : goal.returns-else-bits-self
returns-else-bits-self c =
    let b = c.self.inside in
    let past = c.args.bits - b.count in
    c.ended-word-else-bits-self.ensures.bits
    ∙ past_word b.count b.word c.args.bits past _ _ b.tail_bits b.tail _ b.rest.now _
    c.if-bits-self.false refl c.tail_left-left.ensures c.behind-word.ensures.bits
    ∙ ap (drop c.args.bits) c.self.view_is
