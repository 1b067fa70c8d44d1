use Rattle.std.proofs.Common.{rules, ◌<◌, arith}
use Rattle.vc_types.specs.Subbands.{subband_at}
use Rattle.vc_types.specs.TransformParameters.{parameters_of}
use Rattle.vc_types.proofs.SliceRectangles.{coefficients_before-none, coefficients_before-more, coefficients_before-all}
use Rattle.picture_build.proofs.LargestSlices.{part-most, product-most}
use Rattle.picture_build.proofs.sizes.most_of.Goals as goal

pub loop-b-init : goal.loop-b-init
loop-b-init c = record {
  most = λ n h. (let none = coefficients_before-none (parameters_of c.args.plan.now) c.args.c n in omega (arith, none));
  range = omega arith;
}

pub overflow_add-most : goal.overflow_add-most
overflow_add-most c =
    let p = parameters_of c.args.plan.now in
    let across : 0 < c.args.plan.now.slices_x = search rules in
    let down : 0 < c.args.plan.now.slices_y = search rules in
    let most = product-most p across down c.band-band.result c.div_ceil.result c.div_ceil-in-loop-b.result
    c.div_ceil.ensures c.div_ceil-in-loop-b.ensures (omega (arith, c.band-band.ensures.range.0)) (omega (arith, c.band-band.ensures.range.1)) in
    omega (arith, most, c.loop-b.invariant.range, c.bands-b-end.ensures.range)

pub loop-b-preserved : goal.loop-b-preserved
loop-b-preserved c =
    let p = parameters_of c.args.plan.now in
    let across : 0 < c.args.plan.now.slices_x = search rules in
    let down : 0 < c.args.plan.now.slices_y = search rules in
    let most = product-most p across down c.band-band.result c.div_ceil.result c.div_ceil-in-loop-b.result
    c.div_ceil.ensures c.div_ceil-in-loop-b.ensures (omega (arith, c.band-band.ensures.range.0)) (omega (arith, c.band-band.ensures.range.1)) in
    record {
      most = λ n h. (
          let more = coefficients_before-more p c.args.c n c.loop-b.b (omega (arith, c.bands-b-end.ensures.count)) in
          let part = part-most p across down c.band-band.result c.div_ceil.result c.div_ceil-in-loop-b.result
          c.div_ceil.ensures c.div_ceil-in-loop-b.ensures c.args.c (subband_at p.depth_ho p.depth c.loop-b.b) n c.band-band.ensures.value in
          let before = c.loop-b.invariant.most n h in
          omega (arith, more, part, before));
      range = omega (arith, most, c.loop-b.invariant.range);
    }

pub returns-clause-most : goal.returns-clause-most
returns-clause-most c = λ n h.
    let all = coefficients_before-all (parameters_of c.args.plan.now) c.args.c n c.loop-b.b (omega (arith, c.bands-b-end.ensures.count)) in
    let before = c.loop-b.invariant.most n h in
    omega (arith, all, before)
