use Rattle.std.proofs.Common.{arith}
use Rattle.vc_quant.proofs.Quotients.{narrow_below}
use Rattle.vc_quant.proofs.narrow.NarrowQuantiser.lowered.Goals as goal

pub overflow_cast-result : goal.overflow_cast-result
overflow_cast-result c =
    let q = c.args.self.now in
    let narrow = narrow_below q.greatest q.index c.saturating_sub-index.result (omega arith) q.index_is_known q.is_narrow in
    omega (arith, narrow.0, c.factor.ensures.value)

pub overflow_cast-result-2 : goal.overflow_cast-result-2
overflow_cast-result-2 c =
    let q = c.args.self.now in
    let narrow = narrow_below q.greatest q.index c.saturating_sub-index.result (omega arith) q.index_is_known q.is_narrow in
    omega (arith, narrow.1, c.offset.ensures.value)

pub invariant_of-result : goal.invariant_of-result
invariant_of-result c =
    let q = c.args.self.now in
    record {
      index_is_known = omega (arith, q.index_is_known);
      factor_is = c.factor.ensures.value;
      offset_is = c.offset.ensures.value;
      is_narrow = narrow_below q.greatest q.index c.saturating_sub-index.result (omega arith) q.index_is_known q.is_narrow;
    }
