use Rattle.std.proofs.Common.{arith, ◌+◌, ◌*◌, ℕ, length, refl, sym, ap, ◌∙◌}
use Rattle.vc_types.specs.Subbands.{padded_width}
use Rattle.vc_types.specs.TransformParameters.{parameters_of}
use Rattle.vc_types.proofs.SliceCounts.{some_across, some_down}
use Rattle.vc_types.proofs.SliceRectangles.{coefficients_before-none}
use Rattle.vc_geometry.proofs.RunWalk.{run_before-none}
use Rattle.picture_build.specs.Halves.{LiesAmong}
use Rattle.picture_build.proofs.FilledRuns.{run-within, run-from-more, run-stands, run-stays, run-all}
use Rattle.picture_build.proofs.HalvedRuns.{line_from, seen-on, seen-off}
use Rattle.picture_build.proofs.RowsWithin.{few_cells}
use Rattle.picture_build.proofs.halves.place_run_in.Goals as goal

pub loop-b-init : goal.loop-b-init
loop-b-init c =
    let run = c.args.run.now in
    record {
      from = sym (run_before-none (parameters_of run.plan) c.args.run.now.component run.first run.count);
      on = λ k i hk hi seen. absurd (omega (arith, coefficients_before-none (parameters_of run.plan) c.args.run.now.component (run.first + k), hi));
      off = λ k seen none. refl;
      length = refl;
    }

pub place_rows-requires-clause-cells : goal.place_rows-requires-clause-cells
place_rows-requires-clause-cells c = c.loop-b.invariant.length ∙ c.requires.cells ∙ ap (λ (n : ℕ). c.args.rows.count * n) (sym c.padded-width.ensures.width)

pub place_rows-requires-clause-from : goal.place_rows-requires-clause-from
place_rows-requires-clause-from c =
    let run = c.args.run.now in
    let p = parameters_of run.plan in
    let seen = LiesAmong (c.args.rows.top * padded_width p c.args.run.now.component) (length c.args.cells.now) in
    let within = run-within p c.args.run.now.component run.first run.count seen run.run (some_across run.plan.slices_x run.plan.slices_y run.plan.slices) (some_down run.plan.slices_x run.plan.slices_y run.plan.slices) c.args.strip.now c.loop-b.b c.loop-b.from c.rect-rect.result (omega arith) c.rect-rect.ensures.value c.loop-b.invariant.from in
    omega (arith, within, c.requires.strip)

pub overflow_mul-from : goal.overflow_mul-from
overflow_mul-from c =
    let r = c.rect-rect.result in
    let few = few_cells r.x r.y r.width r.height c.rect-rect.ensures.range in
    omega (arith, few)

pub overflow_add-from : goal.overflow_add-from
overflow_add-from c =
    let run = c.args.run.now in
    let p = parameters_of run.plan in
    let seen = LiesAmong (c.args.rows.top * padded_width p c.args.run.now.component) (length c.args.cells.now) in
    let within = run-within p c.args.run.now.component run.first run.count seen run.run (some_across run.plan.slices_x run.plan.slices_y run.plan.slices) (some_down run.plan.slices_x run.plan.slices_y run.plan.slices) c.args.strip.now c.loop-b.b c.loop-b.from c.rect-rect.result (omega arith) c.rect-rect.ensures.value c.loop-b.invariant.from in
    omega (arith, within, c.requires.strip)

pub loop-b-preserved : goal.loop-b-preserved
loop-b-preserved c =
    let run = c.args.run.now in
    let p = parameters_of run.plan in
    let wide = padded_width p c.args.run.now.component in
    let base = c.args.rows.top * wide in
    let len = length c.args.cells.now in
    let seen = LiesAmong base len in
    let r = c.rect-rect.result in
    let strip = c.args.strip.now in
    let old = c.loop-b.cells in
    let new = c.place_rows.new.cells in
    let across = some_across run.plan.slices_x run.plan.slices_y run.plan.slices in
    let down = some_down run.plan.slices_x run.plan.slices_y run.plan.slices in
    let on = seen-on c.padded-width.result.0 wide c.args.rows.top len c.padded-width.ensures.width old new strip c.loop-b.from r
    (λ j m h within is. c.place_rows.ensures.on j m h (omega (arith, within, c.loop-b.invariant.length)) is) in
    let off = seen-off c.padded-width.result.0 wide c.args.rows.top len c.padded-width.ensures.width old new strip c.loop-b.from r c.place_rows.ensures.off in
    record {
      from = run-from-more p c.args.run.now.component run.first run.count seen run.run across down strip c.loop-b.b c.loop-b.from r (omega arith) c.rect-rect.ensures.value c.loop-b.invariant.from;
      on = run-stands p c.args.run.now.component run.first run.count seen run.run across down strip c.loop-b.b c.loop-b.from r (omega arith) c.rect-rect.ensures.value c.loop-b.invariant.from (line_from base old) (line_from base new) on off c.loop-b.invariant.on;
      off = run-stays p c.args.run.now.component run.first run.count seen run.run across down strip c.loop-b.b c.loop-b.from r (omega arith) c.rect-rect.ensures.value c.loop-b.invariant.from (line_from base old) (line_from base new) on off (line_from base c.args.cells.now) c.loop-b.invariant.off;
      length = c.place_rows.ensures.length ∙ c.loop-b.invariant.length;
    }

pub returns : goal.returns
returns c =
    let run = c.args.run.now in
    let p = parameters_of run.plan in
    let base = c.args.rows.top * padded_width p c.args.run.now.component in
    record {
      others = c.loop-b.invariant.off;
      own = run-all p c.args.run.now.component run.first run.count (LiesAmong base (length c.args.cells.now)) c.args.strip.now c.loop-b.b (line_from base c.loop-b.cells) (omega arith) c.loop-b.invariant.on;
      length = c.loop-b.invariant.length;
    }
