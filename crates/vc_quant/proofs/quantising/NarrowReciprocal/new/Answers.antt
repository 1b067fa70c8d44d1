use Rattle.std.proofs.Common.{◌≡◌, ◌^◌, ◌≤◌, arith}
use Rattle.std.proofs.Math.Nat.{pow-le-pow_right}
use Rattle.vc_quant.proofs.Quotients.{digits_fit, digits_are_narrow}
use Rattle.vc_types.specs.Quantisation.{quant_factor}
use Rattle.vc_quant.proofs.quantising.NarrowReciprocal.new.Goals as goal

pub invariant_of-result : goal.invariant_of-result
invariant_of-result c =
    let factor = quant_factor c.args.index in
    let log = c.min-log.result in
    let power : 2 ^ log ≤ 2 ^ c.ilog2.result = pow-le-pow_right (omega arith) {i = log} {j = c.ilog2.result} (omega arith) in
    let reached : 2 ^ log ≤ factor = omega (arith, power) in
    record {
      times_fit = omega (arith, digits_fit factor c.factor_reciprocal.result log (omega arith) reached c.factor_reciprocal.ensures);
      shift_fits = omega arith;
      is_exact = digits_are_narrow factor c.factor_reciprocal.result log (omega arith) reached c.factor_reciprocal.ensures
          (λ less. let same : log ≡ c.ilog2.result = omega arith in rw same (omega arith));
    }
