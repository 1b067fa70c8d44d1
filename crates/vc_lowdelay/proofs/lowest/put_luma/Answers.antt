use Rattle.std.proofs.Common.{◌≡◌, ◌+◌, ◌≤◌, Err, FitsSigned, rules, ap, ◌∙◌, arith}
use Rattle.std.specs.Int.{w64}
use Rattle.std.proofs.lemmas.Int.{to_z-of_z}
use Rattle.vc_types.specs.declared.video.Component.TheVariants.{Y}
use Rattle.vc_types.specs.Subbands.{area}
use Rattle.vc_types.specs.TransformParameters.{parameters_of}
use Rattle.vc_lowdelay.specs.Placed.{read_at}
use Rattle.vc_lowdelay.proofs.NextNumbers.{none_read, one_more_read, value_is, large_read}
use Rattle.vc_lowdelay.proofs.RectReads.{none_put, one_more_put, all_put}
use Rattle.vc_lowdelay.proofs.lowest.put_luma.Goals as goal

pub loop-i-init : goal.loop-i-init
loop-i-init c =
    let values = read_at c.args.coded.now.luma c.args.quantiser.now.index in
    record {
      put = none_put c.lowest_rect-rect.result values c.args.band.now;
      rest = none_read c.args.coded.now.luma c.copy-block.result c.copy-block.ensures;
    }

pub returns-in_err-value-clause-large : goal.returns-in_err-value-clause-large
returns-in_err-value-clause-large c =
    let n = ap area c.lowest_rect-rect.ensures.value in
    let same : c.from_residual.result ≡ Err c.in_err-value.field-0.0 = search rules in
    rw same (large_read c.args.coded.now.luma c.loop-i.block c.loop-i.i c.loop-i.invariant.rest c.args.quantiser.now.index _
    (omega (arith, n, c.area_of-i-end.ensures.value, c.loop-i-test.true)) c.in_err-value.ensures.large)

pub loop-i-preserved : goal.loop-i-preserved
loop-i-preserved c =
    let fits : FitsSigned w64 c.in_ok-value.value = search rules in
    let luma = c.args.coded.now.luma in
    let q = c.args.quantiser.now.index in
    let i = c.loop-i.i in
    let across : c.lowest_rect-rect.result.x + c.lowest_rect-rect.result.width ≤ c.args.band.now.width = omega (arith, c.lowest_rect-rect.ensures.right, c.requires.band.width) in
    record {
      put = one_more_put c.lowest_rect-rect.result (read_at luma q) c.args.band.now across i c.cell_of-x.result.0 c.cell_of-x.result.1 c.in_ok-value.value c.loop-i.band c.put.new.self
          (omega arith) c.loop-i.invariant.put c.cell_of-x.ensures.value c.put.ensures.size.0 c.put.ensures.size.1 (c.put.ensures.on ∙ to_z-of_z w64 c.in_ok-value.value fits) c.put.ensures.off
          (value_is luma c.loop-i.block i c.loop-i.invariant.rest c.in_ok-value.value q c.in_ok-value.ensures.value) c.in_ok-value.ensures.small;
      rest = one_more_read luma c.loop-i.block i c.loop-i.invariant.rest c.next_value.new.block c.next_value.ensures.rest;
    }

pub returns-clause-placed : goal.returns-clause-placed
returns-clause-placed c =
    all_put c.lowest_rect-rect.result (read_at c.args.coded.now.luma c.args.quantiser.now.index) c.args.band.now
    (omega (arith, c.lowest_rect-rect.ensures.right, c.requires.band.width))
    (parameters_of c.args.plan.now) Y c.args.slice c.loop-i.i c.loop-i.band c.lowest_rect-rect.ensures.value (omega arith) c.loop-i.invariant.put
