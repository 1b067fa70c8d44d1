use Rattle.std.proofs.Common.{arith, ◌≡◌, ◌≢◌, ◌<◌, ◌+◌, ℕ, length, refl, sym, subst, ◌∙◌}
use Rattle.vc_types.specs.Lifting.{line_of}
use Rattle.vc_types.specs.Subbands.{area, padded_width, place_in}
use Rattle.vc_types.specs.TransformParameters.{parameters_of}
use Rattle.vc_types.proofs.SliceCounts.{some_across, some_down}
use Rattle.vc_types.proofs.SliceRectangles.{coefficients_before-none}
use Rattle.vc_geometry.specs.CellRects.{cell_number}
use Rattle.vc_geometry.proofs.RunWalk.{run_before-none}
use Rattle.picture_build.proofs.FilledRuns.{AllSeen, run-within, run-from-more, run-stands, run-stays, run-all}
use Rattle.picture_build.proofs.RowsWithin.{few_cells, rows_within}
use Rattle.picture_build.proofs.filling.place_run.Goals as goal

pub loop-b-init : goal.loop-b-init
loop-b-init c =
    let run = c.args.run.now in
    record {
      from = sym (run_before-none (parameters_of run.plan) c.args.run.now.component run.first run.count);
      on = λ k i hk hi seen. absurd (omega (arith, coefficients_before-none (parameters_of run.plan) c.args.run.now.component (run.first + k), hi));
      off = λ k seen none. refl;
      length = refl;
    }

pub place_rect-requires-clause-cells : goal.place_rect-requires-clause-cells
place_rect-requires-clause-cells c =
    let r = c.rect-rect.result in
    rows_within (r.y + r.height) c.padded-width.result.0 _ _ (length c.args.cells.now) (length c.loop-b.cells)
    c.rect-rect.ensures.bottom c.padded-width.ensures.width c.requires.cells c.loop-b.invariant.length

pub place_rect-requires-clause-from : goal.place_rect-requires-clause-from
place_rect-requires-clause-from c =
    let run = c.args.run.now in
    let within = run-within (parameters_of run.plan) c.args.run.now.component run.first run.count AllSeen run.run (some_across run.plan.slices_x run.plan.slices_y run.plan.slices) (some_down run.plan.slices_x run.plan.slices_y run.plan.slices) c.args.strip.now c.loop-b.b c.loop-b.from c.rect-rect.result (omega arith) c.rect-rect.ensures.value c.loop-b.invariant.from in
    omega (arith, within, c.requires.strip)

pub overflow_mul-from : goal.overflow_mul-from
overflow_mul-from c =
    let r = c.rect-rect.result in
    let few = few_cells r.x r.y r.width r.height c.rect-rect.ensures.range in
    omega (arith, few)

pub overflow_add-from : goal.overflow_add-from
overflow_add-from c =
    let run = c.args.run.now in
    let within = run-within (parameters_of run.plan) c.args.run.now.component run.first run.count AllSeen run.run (some_across run.plan.slices_x run.plan.slices_y run.plan.slices) (some_down run.plan.slices_x run.plan.slices_y run.plan.slices) c.args.strip.now c.loop-b.b c.loop-b.from c.rect-rect.result (omega arith) c.rect-rect.ensures.value c.loop-b.invariant.from in
    omega (arith, within, c.requires.strip)

pub loop-b-preserved : goal.loop-b-preserved
loop-b-preserved c =
    let run = c.args.run.now in
    let p = parameters_of run.plan in
    let r = c.rect-rect.result in
    let strip = c.args.strip.now in
    let new = c.place_rect.new.cells in
    let same = c.padded-width.ensures.width in
    let on : (j : ℕ) → j < area r → line_of new (cell_number (padded_width p c.args.run.now.component) (place_in r j)) ≡ line_of strip (c.loop-b.from + j) =
    subst (λ stride. (j : ℕ) → j < area r → line_of new (cell_number stride (place_in r j)) ≡ line_of strip (c.loop-b.from + j)) same c.place_rect.ensures.on in
    let off : (k : ℕ) → ((j : ℕ) → j < area r → k ≢ cell_number (padded_width p c.args.run.now.component) (place_in r j)) → line_of new k ≡ line_of c.loop-b.cells k =
    subst (λ stride. (k : ℕ) → ((j : ℕ) → j < area r → k ≢ cell_number stride (place_in r j)) → line_of new k ≡ line_of c.loop-b.cells k) same c.place_rect.ensures.off in
    record {
      from = run-from-more (parameters_of run.plan) c.args.run.now.component run.first run.count AllSeen run.run (some_across run.plan.slices_x run.plan.slices_y run.plan.slices) (some_down run.plan.slices_x run.plan.slices_y run.plan.slices) c.args.strip.now c.loop-b.b c.loop-b.from c.rect-rect.result (omega arith) c.rect-rect.ensures.value c.loop-b.invariant.from;
      on = run-stands (parameters_of run.plan) c.args.run.now.component run.first run.count AllSeen run.run (some_across run.plan.slices_x run.plan.slices_y run.plan.slices) (some_down run.plan.slices_x run.plan.slices_y run.plan.slices) c.args.strip.now c.loop-b.b c.loop-b.from c.rect-rect.result (omega arith) c.rect-rect.ensures.value c.loop-b.invariant.from (line_of c.loop-b.cells) (line_of new) (λ j h seen. on j h) (λ m seen none. off m none) c.loop-b.invariant.on;
      off = run-stays (parameters_of run.plan) c.args.run.now.component run.first run.count AllSeen run.run (some_across run.plan.slices_x run.plan.slices_y run.plan.slices) (some_down run.plan.slices_x run.plan.slices_y run.plan.slices) c.args.strip.now c.loop-b.b c.loop-b.from c.rect-rect.result (omega arith) c.rect-rect.ensures.value c.loop-b.invariant.from (line_of c.loop-b.cells) (line_of new) (λ j h seen. on j h) (λ m seen none. off m none) (line_of c.args.cells.now) c.loop-b.invariant.off;
      length = c.place_rect.ensures.length ∙ c.loop-b.invariant.length;
    }

pub returns : goal.returns
returns c =
    let run = c.args.run.now in
    record {
      only = record { length = c.loop-b.invariant.length; others = λ m none. c.loop-b.invariant.off m tt none };
      own = λ k i hk hi. run-all (parameters_of run.plan) c.args.run.now.component run.first run.count AllSeen c.args.strip.now c.loop-b.b (line_of c.loop-b.cells) (omega arith) c.loop-b.invariant.on k i hk hi tt;
    }
