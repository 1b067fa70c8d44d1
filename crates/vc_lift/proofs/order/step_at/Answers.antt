use Rattle.std.proofs.Common.{sym, ap, ◌∙◌, arith}
use Rattle.vc_lift.specs.CountedSteps.{opposite_counted}
use Rattle.vc_lift.specs.Steps.{counted_row}
use Rattle.vc_lift.proofs.LineUndoing.{order_at}
use Rattle.vc_lift.proofs.Runs.{length-steps_of, plain_row}
use Rattle.vc_lift.proofs.order.step_at.Goals as goal

pub step_of-requires : goal.step_of-requires
step_of-requires c = let s = c.args.steps.now in
    plain_row s.undo s.rows.now _ _ s.little (omega (arith, length-steps_of s))

pub step_of-requires-else-steps : goal.step_of-requires-else-steps
step_of-requires-else-steps c = let s = c.args.steps.now in
    plain_row s.undo s.rows.now _ _ s.little (omega (arith, length-steps_of s))

pub returns-then-steps : goal.returns-then-steps
returns-then-steps c =
    let s = c.args.steps.now in
    rw c.if-steps.true (c.opposite.ensures ∙ ap opposite_counted c.step_of.ensures
    ∙ sym (order_at counted_row s.rows.now c.args.i _ _ (omega (arith, length-steps_of s))))
