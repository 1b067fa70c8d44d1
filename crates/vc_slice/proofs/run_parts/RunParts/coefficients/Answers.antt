use Rattle.std.proofs.Common.{arith, ◌∙◌, sym, ap, ◌*◌, ◌≤◌}
use Rattle.std.proofs.lemmas.Nat.{mul-le}
use Rattle.vc_types.specs.Subbands.{area}
use Rattle.vc_types.specs.TransformParameters.{parameters_of}
use Rattle.vc_geometry.proofs.RunWalk.{run_before-none, run_before-more, run_before-all}
use Rattle.vc_slice.proofs.run_parts.RunParts.coefficients.Goals as goal

pub loop-b-init : goal.loop-b-init
loop-b-init c = record { sum = sym (run_before-none (parameters_of c.args.self.now.plan) c.args.c c.args.self.now.first c.args.self.now.count); bound = omega arith }

pub overflow_add-count : goal.overflow_add-count
overflow_add-count c =
    let r = c.rect-rect.result in
    let few = c.rect-rect.ensures.range in
    let most : r.width * r.height ≤ 8192 * 8192 = mul-le r.width r.height 8192 8192 (omega (arith, few.0)) (omega (arith, few.1)) in
    omega (arith, most, c.loop-b.invariant.bound)

pub loop-b-preserved : goal.loop-b-preserved
loop-b-preserved c =
    let r = c.rect-rect.result in
    let few = c.rect-rect.ensures.range in
    let most : r.width * r.height ≤ 8192 * 8192 = mul-le r.width r.height 8192 8192 (omega (arith, few.0)) (omega (arith, few.1)) in
    let same = ap area c.rect-rect.ensures.value in
    let more = run_before-more (parameters_of c.args.self.now.plan) c.args.c c.args.self.now.first c.args.self.now.count c.loop-b.b (omega arith) in
    record { sum = omega (arith, same, more, c.loop-b.invariant.sum); bound = omega (arith, most, c.loop-b.invariant.bound) }

pub returns-clause-value : goal.returns-clause-value
returns-clause-value c = c.loop-b.invariant.sum ∙ run_before-all (parameters_of c.args.self.now.plan) c.args.c c.args.self.now.first c.args.self.now.count c.loop-b.b (omega arith)
