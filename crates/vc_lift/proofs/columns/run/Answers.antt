use Rattle.std.proofs.Common.{◌+◌, ◌*◌, ◌^◌, ◌<◌, length, unsigned_abs, pos, slice_index_or, arith, refl, sym}
use Rattle.std.proofs.Common.{ap, ◌∙◌}
use Rattle.std.proofs.lemmas.List.Elements.{All-get_or}
use Rattle.vc_lift.specs.CountedSteps.{lift, lift_all}
use Rattle.vc_lift.specs.Columns.{column_of}
use Rattle.vc_lift.specs.Steps.{counted_of}
use Rattle.vc_lift.specs.StepLists.{steps_of}
use Rattle.vc_lift.proofs.LineGrowth.{little_now}
use Rattle.vc_lift.proofs.Places.{place_below}
use Rattle.vc_lift.proofs.Runs.{lift_all_more}
use Rattle.vc_lift.proofs.columns.run.Goals as goal

pub loop-i-init : goal.loop-i-init
unfolding lift_all
loop-i-init c = λ x h. refl

pub lift-requires-clause-little : goal.lift-requires-clause-little
lift-requires-clause-little c = λ x h.
    let width = c.args.columns.width in
    little_now 16 (steps_of c.args.steps.now) c.args.steps.now.little c.args.columns.half (2 ^ 108)
    (column_of width c.args.cells.now x) (column_of width c.loop-i.cells x) c.loop-i.i c.requires.some
    (omega arith)
    (λ k lt. (let within : k * width + x < length c.args.cells.now = omega
    (arith, place_below c.args.columns.half width k x lt h) in
    let small : unsigned_abs (slice_index_or c.args.cells.now (k * width + x) (pos 0)) < 2 ^ 108 =
    All-get_or (λ z. unsigned_abs z < 2 ^ 108) c.args.cells.now (k * width + x)
    (pos 0) within c.requires.small in omega (arith, small)))
    (c.loop-i.invariant x h)

pub loop-i-preserved : goal.loop-i-preserved
loop-i-preserved c = λ x h.
    let s = counted_of c.step_at-step.result in
    c.lift.ensures x h
    ∙ ap (lift s c.args.columns.half) (c.loop-i.invariant x h)
    ∙ sym (lift_all_more (steps_of c.args.steps.now) c.args.columns.half
    (column_of c.args.columns.width c.args.cells.now x) c.loop-i.i s (omega arith) c.step_at-step.ensures)
