use Rattle.std.proofs.Common.{◌≡◌, ◌+◌, ◌*◌, ◌≤◌, Err, FitsSigned, rules, ap, ◌∙◌, arith}
use Rattle.std.specs.Int.{w64}
use Rattle.std.proofs.lemmas.Int.{to_z-of_z}
use Rattle.vc_types.specs.declared.video.Component.TheVariants.{C1, C2}
use Rattle.vc_types.specs.Subbands.{area}
use Rattle.vc_types.specs.TransformParameters.{parameters_of}
use Rattle.vc_lowdelay.specs.Placed.{read_at}
use Rattle.vc_lowdelay.proofs.LargeReads.{colours_alike}
use Rattle.vc_lowdelay.proofs.NextNumbers.{ReadTo, none_read, one_more_read, twice_more, value_is, large_read}
use Rattle.vc_lowdelay.proofs.RectReads.{none_put, one_more_put, all_put}
use Rattle.vc_lowdelay.proofs.lowest.put_colours.Goals as goal

pub loop-i-init : goal.loop-i-init
loop-i-init c =
    record {
      first = none_put c.lowest_rect-rect.result (λ k. read_at c.args.coded.now.colour c.args.quantiser.now.index (2 * k)) c.args.c1.now;
      second = none_put c.lowest_rect-rect.result (λ k. read_at c.args.coded.now.colour c.args.quantiser.now.index (2 * k + 1)) c.args.c2.now;
      rest = none_read c.args.coded.now.colour c.copy-block.result c.copy-block.ensures;
    }

pub returns-in_err-first-clause-large : goal.returns-in_err-first-clause-large
returns-in_err-first-clause-large c =
    let n = ap area c.lowest_rect-rect.ensures.value in
    let same : c.from_residual.result ≡ Err c.in_err-first.field-0.0 = search rules in
    rw same (large_read c.args.coded.now.colour c.loop-i.block (2 * c.loop-i.i) c.loop-i.invariant.rest c.args.quantiser.now.index _
    (omega (arith, n, c.area_of-i-end.ensures.value, c.loop-i-test.true)) c.in_err-first.ensures.large)

pub returns-in_err-second-clause-large : goal.returns-in_err-second-clause-large
returns-in_err-second-clause-large c =
    let n = ap area c.lowest_rect-rect.ensures.value in
    let between : ReadTo c.args.coded.now.colour (2 * c.loop-i.i + 1) c.next_value.new.block = one_more_read c.args.coded.now.colour c.loop-i.block (2 * c.loop-i.i) c.loop-i.invariant.rest c.next_value.new.block c.next_value.ensures.rest in
    let same : c.from_residual-in_err-second.result ≡ Err c.in_err-second.field-0.0 = search rules in
    rw same (large_read c.args.coded.now.colour c.next_value.new.block (2 * c.loop-i.i + 1) between c.args.quantiser.now.index _
    (omega (arith, n, c.area_of-i-end.ensures.value, c.loop-i-test.true)) c.in_err-second.ensures.large)

pub loop-i-preserved : goal.loop-i-preserved
loop-i-preserved c =
    let first_fits : FitsSigned w64 c.in_ok-first.first = search rules in
    let second_fits : FitsSigned w64 c.in_ok-second.second = search rules in
    let colour = c.args.coded.now.colour in
    let q = c.args.quantiser.now.index in
    let i = c.loop-i.i in
    let rect = c.lowest_rect-rect.result in
    let across1 : rect.x + rect.width ≤ c.args.c1.now.width = omega (arith, c.lowest_rect-rect.ensures.right, c.requires.c1.width) in
    let across2 : rect.x + rect.width ≤ c.args.c2.now.width = omega (arith, c.lowest_rect-rect.ensures.right, c.requires.c2.width) in
    let start : ReadTo colour (2 * i) c.loop-i.block = c.loop-i.invariant.rest in
    let between : ReadTo colour (2 * i + 1) c.next_value.new.block = one_more_read colour c.loop-i.block (2 * i) start c.next_value.new.block c.next_value.ensures.rest in
    record {
      first = one_more_put rect (λ k. read_at colour q (2 * k)) c.args.c1.now across1 i c.cell_of-x.result.0 c.cell_of-x.result.1 c.in_ok-first.first c.loop-i.c1 c.put.new.self
          (omega arith) c.loop-i.invariant.first c.cell_of-x.ensures.value c.put.ensures.size.0 c.put.ensures.size.1 (c.put.ensures.on ∙ to_z-of_z w64 c.in_ok-first.first first_fits) c.put.ensures.off
          (value_is colour c.loop-i.block (2 * i) start c.in_ok-first.first q c.in_ok-first.ensures.value) c.in_ok-first.ensures.small;
      second = one_more_put rect (λ k. read_at colour q (2 * k + 1)) c.args.c2.now across2 i c.cell_of-x.result.0 c.cell_of-x.result.1 c.in_ok-second.second c.loop-i.c2 c.put-in-loop-i.new.self
          (omega arith) c.loop-i.invariant.second c.cell_of-x.ensures.value c.put-in-loop-i.ensures.size.0 c.put-in-loop-i.ensures.size.1 (c.put-in-loop-i.ensures.on ∙ to_z-of_z w64 c.in_ok-second.second second_fits) c.put-in-loop-i.ensures.off
          (value_is colour c.next_value.new.block (2 * i + 1) between c.in_ok-second.second q c.in_ok-second.ensures.value) c.in_ok-second.ensures.small;
      rest = twice_more colour c.next_value-in-loop-i.new.block i (one_more_read colour c.next_value.new.block (2 * i + 1) between c.next_value-in-loop-i.new.block c.next_value-in-loop-i.ensures.rest);
    }

pub returns-clause-c1 : goal.returns-clause-c1
returns-clause-c1 c =
    all_put c.lowest_rect-rect.result (λ k. read_at c.args.coded.now.colour c.args.quantiser.now.index (2 * k)) c.args.c1.now
    (omega (arith, c.lowest_rect-rect.ensures.right, c.requires.c1.width))
    (parameters_of c.args.plan.now) C1 c.args.slice c.loop-i.i c.loop-i.c1 c.lowest_rect-rect.ensures.value (omega arith) c.loop-i.invariant.first

pub returns-clause-c2 : goal.returns-clause-c2
returns-clause-c2 c =
    all_put c.lowest_rect-rect.result (λ k. read_at c.args.coded.now.colour c.args.quantiser.now.index (2 * k + 1)) c.args.c2.now
    (omega (arith, c.lowest_rect-rect.ensures.right, c.requires.c2.width))
    (parameters_of c.args.plan.now) C2 c.args.slice c.loop-i.i c.loop-i.c2 (c.lowest_rect-rect.ensures.value ∙ colours_alike (parameters_of c.args.plan.now) c.args.slice) (omega arith) c.loop-i.invariant.second
