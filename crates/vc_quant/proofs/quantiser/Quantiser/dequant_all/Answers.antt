use Rattle.std.proofs.Common.{rules, ◌≡◌, ◌^◌, ◌<◌, ◌≤◌, FitsSigned, unsigned_abs, pos, to_z, of_z, arith, ap, ◌∙◌}
use Rattle.std.specs.Int.{w32}
use Rattle.std.proofs.lemmas.Int.{to_z-of_z}
use Rattle.vc_types.specs.Lifting.{line_of}
use Rattle.vc_types.specs.Quantisation.{dequantised}
use Rattle.vc_quant.proofs.Elements.{one_more_made, past_made}
use Rattle.vc_quant.proofs.quantiser.Quantiser.dequant_all.Goals as goal

pub loop-number-preserved : goal.loop-number-preserved
loop-number-preserved c =
    let i = c.loop-number.number-index in
    let now = c.loop-number.numbers in
    let first = c.args.numbers.now in
    let x = line_of now i in
    let v = to_z w32 (of_z w32 c.dequant.result) in
    let fits : FitsSigned w32 x = search rules in
    let read : to_z w32 (of_z w32 x) ≡ line_of first i =
    to_z-of_z w32 x fits ∙ c.loop-number.invariant.left i (omega arith) in
    let kept : v ≡ c.dequant.result = to_z-of_z w32 c.dequant.result (record { sfits = c.dequant.type_inv }) in
    let same = c.in-Some.ensures.same.0 in
    let made : v ≡ dequantised (line_of first i) c.args.self.now.index =
    kept ∙ c.dequant.ensures.value ∙ ap (λ z. dequantised z c.in-Some.narrow.index) read
    ∙ ap (dequantised (line_of first i)) same in
    record {
      done = one_more_made now i v (λ k z. z ≡ dequantised (line_of first k) c.args.self.now.index)
          (omega arith) made c.loop-number.invariant.done;
      narrow = one_more_made now i v (λ k z. unsigned_abs z < 2 ^ 29)
          (omega arith) (rw kept c.dequant.ensures.narrow) c.loop-number.invariant.narrow;
      left = λ k h. past_made now i v k h ∙ c.loop-number.invariant.left k (omega arith);
    }
