use Rattle.std.proofs.Common.{pos, ◌≤ℤ◌, ◌<ℤ◌, unsigned_abs, arith, ◌∙◌, ap}
use Rattle.std.specs.Int.{w64}
use Rattle.std.proofs.lemmas.Int.{ints, to_z-of_z}
use Rattle.vc_types.specs.Quantisation.{quant_factor, quant_offset, dequantised_magnitude}
use Rattle.vc_quant.proofs.Magnitudes.{signed, negated_128, kept_128}
use Rattle.vc_quant.proofs.quantiser.Quantiser.dequant.Goals as goal

pub returns-then-m-lt0-clause-value : goal.returns-then-m-lt0-clause-value
returns-then-m-lt0-clause-value c =
    let q = c.args.self.now.index in
    let size = c.unsigned_abs.ensures.value ∙ ap unsigned_abs (to_z-of_z w64 c.args.m c.ranges.m) in
    let is = c.magnitude-size.ensures.value ∙ ap (λ n. dequantised_magnitude n (quant_factor q) (quant_offset q)) size in
    let negative : c.args.m <ℤ pos 0 = omega (arith, ints) in
    negated_128 c.args.m c.magnitude-size.result (dequantised_magnitude (unsigned_abs c.args.m) (quant_factor q) (quant_offset q)) negative (omega arith) is ∙ signed c.args.m q

pub returns-else-m-lt0-clause-value : goal.returns-else-m-lt0-clause-value
returns-else-m-lt0-clause-value c =
    let q = c.args.self.now.index in
    let size = c.unsigned_abs.ensures.value ∙ ap unsigned_abs (to_z-of_z w64 c.args.m c.ranges.m) in
    let is = c.magnitude-size.ensures.value ∙ ap (λ n. dequantised_magnitude n (quant_factor q) (quant_offset q)) size in
    let positive : pos 0 ≤ℤ c.args.m = omega (arith, ints) in
    kept_128 c.args.m c.magnitude-size.result (dequantised_magnitude (unsigned_abs c.args.m) (quant_factor q) (quant_offset q)) positive (omega arith) is ∙ signed c.args.m q
