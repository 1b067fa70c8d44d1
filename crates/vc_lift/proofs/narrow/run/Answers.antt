use Rattle.std.proofs.Common.{take, take_all, arith, refl, sym, ap, ◌∙◌}
use Rattle.vc_lift.specs.CountedSteps.{lift_all}
use Rattle.vc_lift.specs.Halves.{line_in}
use Rattle.vc_lift.specs.Steps.{counted_of}
use Rattle.vc_lift.specs.StepLists.{steps_of}
use Rattle.vc_lift.proofs.LineLocality.{same_lift}
use Rattle.vc_lift.proofs.NarrowGrowth.{parities_of, range_now}
use Rattle.vc_lift.proofs.Runs.{lift_all_more}
use Rattle.vc_lift.proofs.narrow.run.Goals as goal

pub loop-i-init : goal.loop-i-init
unfolding lift_all
loop-i-init c = record { on = λ x k h lt. refl; off = λ i none. refl }

pub lift-requires-clause-range : goal.lift-requires-clause-range
lift-requires-clause-range c = λ x h.
    let ss = steps_of c.args.steps.now in
    range_now ss c.args.halves.now.half (line_in c.args.halves.now c.args.cells.now x)
    (line_in c.args.halves.now c.loop-i.cells x) c.loop-i.i (counted_of c.step_at-step.result)
    c.requires.lines.some (parities_of ss c.args.steps.now.little)
    (c.requires.narrow x h) c.step_at-step.ensures (omega arith) (λ k lt. c.loop-i.invariant.on x k h lt)

pub loop-i-preserved : goal.loop-i-preserved
loop-i-preserved c =
    let ss = steps_of c.args.steps.now in
    let s = counted_of c.step_at-step.result in
    let half = c.args.halves.now.half in
    record {
      on = λ x k h lt.
          (let before = line_in c.args.halves.now c.args.cells.now x in
          c.lift.ensures.on x k h lt
          ∙ same_lift half c.requires.lines.some s (line_in c.args.halves.now c.loop-i.cells x)
          (lift_all (take c.loop-i.i ss) half before) (λ j under. c.loop-i.invariant.on x j h under) k lt
          ∙ sym (ap (λ f. f k)
          (lift_all_more ss half before c.loop-i.i s (omega arith) c.step_at-step.ensures)));
      off = λ i none. c.lift.ensures.off i none ∙ c.loop-i.invariant.off i none;
    }

pub returns : goal.returns
returns c =
    let all = take_all c.loop-i.i (steps_of c.args.steps.now) (omega arith) in
    rw all at c.loop-i.invariant
