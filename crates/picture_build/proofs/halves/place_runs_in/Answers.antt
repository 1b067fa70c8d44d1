use Rattle.std.proofs.Common.{◌++◌, ◌∷◌, [], ◌*◌, List, take, arith, sym, ap, subst, ◌∙◌}
use Rattle.std.proofs.lemmas.List.{take_all, take_more}
use Rattle.vc_types.specs.Subbands.{padded_width}
use Rattle.vc_types.specs.TransformParameters.{parameters_of}
use Rattle.picture_build.specs.declared.waiting.WaitingRun.{WaitingRun}
use Rattle.picture_build.specs.Halves.{FillsRunsIn}
use Rattle.picture_build.specs.Waiting.{IsWaitingRun}
use Rattle.picture_build.proofs.HalvedRuns.{fills-in-length, fills-in-more, fills-in-none}
use Rattle.picture_build.proofs.halves.place_runs_in.Goals as goal

pub loop-waiting-init : goal.loop-waiting-init
loop-waiting-init c = fills-in-none (parameters_of c.args.plan.now) c.args.c _ _

pub new-run-requires-clause-run : goal.new-run-requires-clause-run
new-run-requires-clause-run c =
    let own = subst (IsWaitingRun (parameters_of c.args.plan.now)) (sym c.waiting-item.is) (c.requires.runs c.loop-waiting.waiting-index c.waiting-item.result c.loop-waiting-test.true) in
    own.run

pub new-run-requires-clause-some : goal.new-run-requires-clause-some
new-run-requires-clause-some c =
    let own = subst (IsWaitingRun (parameters_of c.args.plan.now)) (sym c.waiting-item.is) (c.requires.runs c.loop-waiting.waiting-index c.waiting-item.result c.loop-waiting-test.true) in
    own.some

pub place_run_in-requires-clause-strip : goal.place_run_in-requires-clause-strip
place_run_in-requires-clause-strip c =
    let own = subst (IsWaitingRun (parameters_of c.args.plan.now)) (sym c.waiting-item.is) (c.requires.runs c.loop-waiting.waiting-index c.waiting-item.result c.loop-waiting-test.true) in
    rw (c.new-run.ensures.plan, c.new-run.ensures.component, c.new-run.ensures.first, c.new-run.ensures.count, c.component.ensures.value) (own.whole c.args.c)

pub place_run_in-requires-clause-cells : goal.place_run_in-requires-clause-cells
place_run_in-requires-clause-cells c =
    let p = parameters_of c.args.plan.now in
    rw (c.new-run.ensures.plan, c.new-run.ensures.component)
    (fills-in-length p c.args.c (c.args.rows.top * padded_width p c.args.c) (take c.loop-waiting.waiting-index c.args.runs.now) c.args.cells.now c.loop-waiting.cells c.loop-waiting.invariant ∙ c.requires.cells)

pub loop-waiting-preserved : goal.loop-waiting-preserved
loop-waiting-preserved c =
    let p = parameters_of c.args.plan.now in
    let base = c.args.rows.top * padded_width p c.args.c in
    let runs = c.args.runs.now in
    let i = c.loop-waiting.waiting-index in
    let run = c.waiting-item.result in
    subst (λ (done : List WaitingRun). FillsRunsIn p c.args.c base done c.args.cells.now c.place_run_in.new.cells)
    (ap (λ (r : WaitingRun). take i runs ++ r ∷ []) c.waiting-item.is ∙ sym (take_more runs i run c.loop-waiting-test.true))
    (fills-in-more p c.args.c base (take i runs) run c.args.cells.now c.loop-waiting.cells c.place_run_in.new.cells c.loop-waiting.invariant
    (rw (c.new-run.ensures.plan, c.new-run.ensures.component, c.new-run.ensures.first, c.new-run.ensures.count, c.component.ensures.value) at c.place_run_in.ensures))

pub returns : goal.returns
returns c =
    let p = parameters_of c.args.plan.now in
    subst (λ (done : List WaitingRun). FillsRunsIn p c.args.c (c.args.rows.top * padded_width p c.args.c) done c.args.cells.now c.loop-waiting.cells)
    (take_all c.loop-waiting.waiting-index c.args.runs.now (omega arith)) c.loop-waiting.invariant
