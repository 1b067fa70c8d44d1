use Rattle.std.proofs.Common.{◌≡◌, Err, rules}
use Rattle.vc_types.specs.TransformParameters.{parameters_of}
use Rattle.vc_lowdelay.specs.Coded.{slice_of}
use Rattle.vc_lowdelay.proofs.LargeReads.{large_luma, large_colours}
use Rattle.vc_lowdelay.proofs.PutSlices.{luma_placed, c1_placed, c2_placed}
use Rattle.vc_lowdelay.proofs.lowest.put_slice.Goals as goal

pub returns-in_err-put_luma-clause-large : goal.returns-in_err-put_luma-clause-large
returns-in_err-put_luma-clause-large c =
    let same : c.from_residual.result ≡ Err c.in_err-put_luma.field-0.0 = search rules in
    rw same (large_luma (parameters_of c.args.plan.now) c.args.slice (slice_of c.args.coded.now) c.lowest_quantiser-quantiser.result.index c.lowest_quantiser-quantiser.ensures c.in_err-put_luma.ensures.large)

pub returns-in_err-put_colours-clause-large : goal.returns-in_err-put_colours-clause-large
returns-in_err-put_colours-clause-large c =
    let same : c.from_residual-in_err-put_colours.result ≡ Err c.in_err-put_colours.field-0.0 = search rules in
    rw same (large_colours (parameters_of c.args.plan.now) c.args.slice (slice_of c.args.coded.now) c.lowest_quantiser-quantiser.result.index c.lowest_quantiser-quantiser.ensures c.in_err-put_colours.ensures.large)

pub returns-clause-y : goal.returns-clause-y
returns-clause-y c =
    luma_placed (parameters_of c.args.plan.now) c.args.slice (slice_of c.args.coded.now) c.lowest_quantiser-quantiser.result.index c.lowest_quantiser-quantiser.ensures
    c.args.bands.now.y c.put_luma.new.band c.in_ok-put_luma.ensures.placed

pub returns-clause-c1 : goal.returns-clause-c1
returns-clause-c1 c =
    c1_placed (parameters_of c.args.plan.now) c.args.slice (slice_of c.args.coded.now) c.lowest_quantiser-quantiser.result.index c.lowest_quantiser-quantiser.ensures
    c.args.bands.now.c1 c.put_colours.new.c1 c.in_ok-put_colours.ensures.c1

pub returns-clause-c2 : goal.returns-clause-c2
returns-clause-c2 c =
    c2_placed (parameters_of c.args.plan.now) c.args.slice (slice_of c.args.coded.now) c.lowest_quantiser-quantiser.result.index c.lowest_quantiser-quantiser.ensures
    c.args.bands.now.c2 c.put_colours.new.c2 c.in_ok-put_colours.ensures.c2
