use Rattle.std.proofs.Common.{◌≤◌, ◌+◌, ◌++◌, ◌∷◌, [], List, length, take, arith, sym, ap, subst, ◌∙◌}
use Rattle.std.proofs.lemmas.List.{take_all, take_more}
use Rattle.picture_build.specs.declared.waiting.WaitingRun.{WaitingRun}
use Rattle.picture_build.specs.Marks.{MarksRuns}
use Rattle.picture_build.proofs.WaitingRuns.{marks-length, marks-more, marks-none}
use Rattle.picture_build.proofs.marking.mark_runs.Goals as goal

pub loop-run-init : goal.loop-run-init
loop-run-init c = marks-none _

pub mark_run-requires : goal.mark_run-requires
mark_run-requires c =
    let runs = c.args.runs.now in
    let i = c.loop-run.run-index in
    let inside = subst (λ (run : WaitingRun). run.first + run.count ≤ length c.args.came.now.items) (sym c.run-item.is) (c.requires i c.run-item.result c.loop-run-test.true) in
    let long = marks-length (take i runs) c.args.came.now.items c.loop-run.came.items c.loop-run.invariant in
    omega (arith, inside, long)

pub loop-run-preserved : goal.loop-run-preserved
loop-run-preserved c =
    let runs = c.args.runs.now in
    let i = c.loop-run.run-index in
    let run = c.run-item.result in
    subst (λ (done : List WaitingRun). MarksRuns done c.args.came.now.items c.mark_run.new.came.items)
    (ap (λ (r : WaitingRun). take i runs ++ r ∷ []) c.run-item.is ∙ sym (take_more runs i run c.loop-run-test.true))
    (marks-more (take i runs) run c.args.came.now.items c.loop-run.came.items c.mark_run.new.came.items c.loop-run.invariant c.mark_run.ensures)

pub returns : goal.returns
returns c =
    subst (λ (done : List WaitingRun). MarksRuns done c.args.came.now.items c.loop-run.came.items)
    (take_all c.loop-run.run-index c.args.runs.now (omega arith)) c.loop-run.invariant
