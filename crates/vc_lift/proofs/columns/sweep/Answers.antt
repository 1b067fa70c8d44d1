use Rattle.std.proofs.Common.{◌≡◌, ◌^◌, arith, ap, ◌∙◌}
use Rattle.vc_lift.proofs.LineGrowth.{by_parity, by_other}
use Rattle.vc_lift.specs.Columns.{column_of, one_changed}
use Rattle.vc_lift.specs.Steps.{counted_of}
use Rattle.vc_lift.proofs.Sweeps.{part, part_none, part_all, part_more, within_part, next_part}
use Rattle.vc_lift.proofs.columns.sweep.Goals as goal

pub loop-n-init : goal.loop-n-init
loop-n-init c = λ x h. part_none (counted_of c.args.step.now) c.args.columns.half
    (column_of c.args.columns.width c.args.cells.now x)

pub change_row-requires-clause-met : goal.change_row-requires-clause-met
change_row-requires-clause-met c = λ x h.
    let before = column_of c.args.columns.width c.args.cells.now x in
    within_part (counted_of c.args.step.now) c.args.columns.half c.loop-n.n (2 ^ 112) before
    (column_of c.args.columns.width c.loop-n.cells x) c.args.step.now.plain.parity
    (c.loop-n.invariant x h)
    (by_other before c.args.columns.half (2 ^ 112) c.args.step.now.parity c.args.step.now.plain.parity
    (c.requires.little x h))

pub change_row-requires-clause-changed : goal.change_row-requires-clause-changed
change_row-requires-clause-changed c = λ x h.
    let before = column_of c.args.columns.width c.args.cells.now x in
    next_part (counted_of c.args.step.now) c.args.columns.half c.loop-n.n (2 ^ 112) before
    (column_of c.args.columns.width c.loop-n.cells x) c.args.step.now.plain.parity
    (c.loop-n.invariant x h) c.loop-n-test.true
    (by_parity before c.args.columns.half (2 ^ 112) c.args.step.now.parity c.args.step.now.plain.parity
    (c.requires.little x h))

pub loop-n-preserved : goal.loop-n-preserved
loop-n-preserved c = λ x h.
    let s = counted_of c.args.step.now in
    c.change_row.ensures x h
    ∙ ap (λ f. one_changed s c.args.columns.half c.loop-n.n f) (c.loop-n.invariant x h)
    ∙ part_more s c.args.columns.half c.loop-n.n
    (column_of c.args.columns.width c.args.cells.now x) c.args.step.now.plain.parity

pub returns : goal.returns
returns c = λ x h.
    let s = counted_of c.args.step.now in
    let before = column_of c.args.columns.width c.args.cells.now x in
    let end : c.loop-n.n ≡ c.args.columns.half = omega arith in
    c.loop-n.invariant x h ∙ ap (λ n. part s c.args.columns.half n before) end
    ∙ part_all s c.args.columns.half before
