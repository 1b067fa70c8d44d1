use Rattle.std.proofs.Common.{◌≡◌, ◌<◌, [], Err, length, rules, ap, arith}
use Rattle.vc_types.specs.Quantisation.{subband_count}
use Rattle.vc_lowdelay.specs.declared.refusal.LowRefusal.TheVariants.{NoMemory}
use Rattle.vc_lowdelay.specs.Components.{FollowsLarge, ReadsLargeOf}
use Rattle.vc_lowdelay.proofs.ReadComponents.{none_read, subband_read, subband_large, all_read}
use Rattle.vc_lowdelay.proofs.Refused.{for_weaker}
use Rattle.vc_lowdelay.proofs.wide.read_component.Goals as goal

pub returns-in_err-coefficients-clause-refused : goal.returns-in_err-coefficients-clause-refused
returns-in_err-coefficients-clause-refused c =
    let same : c.from_residual.result ≡ Err NoMemory = search rules in
    rw same tt

pub loop-b-init : goal.loop-b-init
loop-b-init c =
    let none : c.in_ok-coefficients.coefficients.items ≡ [] = search rules in
    none_read c.args.bands.now c.args.c c.args.block.now c.in_ok-coefficients.coefficients.items c.copy-left.result (ap length none) c.copy-left.ensures

pub returns-in_err-read_subband-clause-refused : goal.returns-in_err-read_subband-clause-refused
returns-in_err-read_subband-clause-refused c =
    let bands = c.args.bands.now in
    let e = c.in_err-read_subband.field-0.0 in
    let few : c.loop-b.b < subband_count bands.parts.now.plan.depth_ho bands.parts.now.plan.depth = omega arith in
    let same : c.from_residual-in_err-read_subband.result ≡ Err e = search rules in
    rw same (for_weaker (FollowsLarge c.args.c c.area-count.result c.loop-b.left c.quantiser.result.index) (ReadsLargeOf bands c.args.c c.args.block.now)
    (subband_large bands c.args.c c.args.block.now c.loop-b.b c.area-count.result c.quantiser.result.index few c.area-count.ensures.value c.quantiser.ensures c.loop-b.coefficients.items c.loop-b.left c.loop-b.invariant)
    e c.in_err-read_subband.ensures.refused)

pub loop-b-preserved : goal.loop-b-preserved
loop-b-preserved c =
    let bands = c.args.bands.now in
    subband_read bands c.args.c c.args.block.now c.loop-b.b c.area-count.result c.quantiser.result.index (omega arith) c.area-count.ensures.value c.quantiser.ensures
    c.loop-b.coefficients.items c.loop-b.left c.loop-b.invariant c.read_subband.new.coefficients.items c.read_subband.new.block c.in_ok-read_subband.ensures.read c.in_ok-read_subband.ensures.rest

pub returns-clause-value : goal.returns-clause-value
returns-clause-value c = all_read c.args.bands.now c.args.c c.args.block.now c.loop-b.b c.loop-b.coefficients.items c.loop-b.left (omega arith) c.loop-b.invariant
