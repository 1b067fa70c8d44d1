use Rattle.std.proofs.Common.{◌-◌, ◌+◌, ◌%◌, ◌++◌, ◌∙◌, ap, arith, refl, Bool, List}
use Rattle.vc_types.specs.Bits.{bits_of}
use Rattle.vc_bits.proofs.Waiting.{added, filled_up}
use Rattle.vc_bits.proofs.tail.BitTail.finish.Goals as goal

pub returns : goal.returns
returns c =
    let inside = c.self.inside in
    let bytes = c.args.bytes.now.items in
    let missing = (8 - inside.count) % 8 in
    let view = ap (λ (bits : List Bool). bits_of bytes ++ bits) c.self.view_is in
    filled_up bytes inside.count inside.word missing c.repeated.result c.args.fill (bits_of bytes ++ c.args.self) (bits_of c.push_all.new.bytes.items) view (omega arith) c.repeated.ensures.value
    (c.push_all.ensures.bits ∙ added bytes bytes inside.count inside.word missing c.repeated.result c.joined-word.result (inside.count + missing) (bits_of bytes ++ c.args.self) view refl refl c.joined-word.ensures)
