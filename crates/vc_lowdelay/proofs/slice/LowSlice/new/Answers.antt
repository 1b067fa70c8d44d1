use Rattle.std.proofs.Common.{ℕ, length, take, drop, length-drop, ap, ◌∙◌, arith}
use Rattle.vc_types.proofs.Bits.{length-bits_of}
use Rattle.vc_bits.specs.Bits.{BitsLeft}
use Rattle.vc_lowdelay.proofs.BlockBits.{slice_is}
use Rattle.vc_lowdelay.proofs.slice.LowSlice.new.Goals as goal

pub number-index-requires-clause-left : goal.number-index-requires-clause-left
number-index-requires-clause-left c =
    let whole = ap (λ (b : BitsLeft). length b.left) c.new-bits.ensures in
    omega (arith, whole, length-bits_of c.args.bytes.now, c.requires.some)

pub number-luma_length-requires-clause-left : goal.number-luma_length-requires-clause-left
number-luma_length-requires-clause-left c =
    let whole = ap (λ (b : BitsLeft). length b.left) c.new-bits.ensures in
    let behind = ap length c.number-index.ensures.left in
    omega (arith, whole, behind, length-drop 7 c.new-bits.result.left, length-bits_of c.args.bytes.now, c.length_bits-count.ensures.room)

pub overflow_cast-left : goal.overflow_cast-left
overflow_cast-left c =
    let whole = ap (λ (b : BitsLeft). length b.left) c.new-bits.ensures in
    let behind = ap length c.number-index.ensures.left in
    let left = ap length c.number-luma_length.ensures.left in
    omega (arith, whole, behind, length-drop 7 c.new-bits.result.left, left, length-drop c.length_bits-count.result c.number-index.new.bits.left, length-bits_of c.args.bytes.now, c.requires.few, c.bits_left-left.ensures)

pub block-luma-requires : goal.block-luma-requires
block-luma-requires c = omega (arith, c.min.ensures, c.bits_left-left.ensures)

pub block-colour-requires : goal.block-colour-requires
block-colour-requires c =
    let left = ap length c.block-luma.ensures.left in
    omega (arith, left, length-drop c.min.result c.number-luma_length.new.bits.left, c.min.ensures, c.saturating_sub.ensures, c.bits_left-left.ensures)

pub returns : goal.returns
returns c =
    let b2 = c.number-luma_length.new.bits.left in
    let b3 = c.block-luma.new.bits.left in
    slice_is c.args.bytes.now c.new-bits.result.left c.number-index.new.bits.left b2 b3
    c.number-index.result c.length_bits-count.result c.number-luma_length.result c.bits_left-left.result c.block-luma.result c.block-colour.result
    (ap (λ (b : BitsLeft). b.left) c.new-bits.ensures) c.number-index.ensures.value c.number-index.ensures.left
    c.length_bits-count.ensures.value c.number-luma_length.ensures.value c.number-luma_length.ensures.left c.bits_left-left.ensures
    (c.block-luma.ensures.value ∙ ap (λ (k : ℕ). take k b2) c.min.ensures) (c.block-luma.ensures.left ∙ ap (λ (k : ℕ). drop k b2) c.min.ensures)
    (c.block-colour.ensures.value ∙ ap (λ (k : ℕ). take k b3) c.saturating_sub.ensures)
