use Rattle.std.proofs.Common.{◌≡◌, ℕ, ◌+◌, ◌*◌, ◌%◌, List, drop, ap, refl, ◌∙◌, arith}
use Rattle.vc_types.specs.Bits.{bits_of}
use Rattle.vc_bits.specs.Bits.{BitsLeft}
use Rattle.vc_bits.proofs.Left.{state_is}
use Rattle.vc_bits.proofs.Peeking.{skipped}
use Rattle.vc_bits.proofs.Tails.{part_read}
use Rattle.vc_bits.proofs.reader.BitReader.block_bits.Goals as goal

pub returns-clause-ok : goal.returns-clause-ok
returns-clause-ok c =
    let left = ap (λ (s : BitsLeft). s.left) c.self.view_is in
    part_read c.self.inside.rest.now _ _ c.self.inside.used c.args.bits _ _ _ _ _ _ refl
    c.split_at.ensures.front c.split_at.ensures.back c.first_bits.ensures
    c.with_tail-block.ensures c.from.ensures c.skip.ensures left

pub returns-clause-moved : goal.returns-clause-moved
returns-clause-moved c =
    let r = c.self.inside in
    let to = r.used + c.args.bits in
    let left = ap (λ (s : BitsLeft). s.left) c.self.view_is in
    let place : 8 * r.whole + r.used ≡ c.args.self.now.place =
    ap (λ (s : BitsLeft). s.place) c.self.view_is in
    let there = ap (λ (bytes : List ℕ). drop (to % 8) (bits_of bytes)) c.split_at.ensures.back in
    state_is _ _ _ _ (there ∙ skipped r.rest.now r.used c.args.bits to refl ∙ ap (drop c.args.bits) left)
    (omega (arith, place, c.split_at.ensures.front_len))
