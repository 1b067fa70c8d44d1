use Rattle.std.proofs.Common.{◌≡◌, ◌+◌, ◌^◌, length, arith}
use Rattle.vc_types.specs.Lifting.{line_of}
use Rattle.vc_lift.specs.Halves.{line_in}
use Rattle.vc_lift.specs.Steps.{counted_of}
use Rattle.vc_lift.proofs.Betweens.{between_none, number_run, number_made, made_more, room_after}
use Rattle.vc_lift.proofs.narrow.change_each.Goals as goal

pub loop-n-init : goal.loop-n-init
loop-n-init c = record {
  on = λ x k h lt. between_none (counted_of c.args.step.now) c.args.halves.now.half c.args.lo
      (line_in c.args.halves.now c.args.cells.now x) k;
  off = λ i none j. line_of c.args.cells.now i;
}

pub change_run-requires : goal.change_run-requires
change_run-requires c =
    let s = counted_of c.args.step.now in
    let h = c.args.halves.now in
    let n = c.loop-n.n in
    let p = c.args.step.now.plain.parity in
    record {
      small = c.requires.lines.small;
      at = omega arith;
      run = rw c.loop-n.auto.cells
          (number_run s h n c.args.width (length c.args.cells.now) p (omega arith) c.requires.lines);
      room = λ x lt.
          room_after s h c.args.lo n c.args.width c.args.cells.now c.loop-n.cells c.requires.lines.some p
          c.loop-n.auto.n c.loop-n.invariant
          (2 ^ 31) x n lt (omega arith) (omega arith)
          (c.requires.room x n lt c.loop-n.auto.n c.loop-n-test.true);
    }

pub loop-n-preserved : goal.loop-n-preserved
loop-n-preserved c =
    let s = counted_of c.args.step.now in
    let h = c.args.halves.now in
    let n = c.loop-n.n in
    let p = c.args.step.now.plain.parity in
    made_more s h c.args.lo n c.args.width c.args.cells.now c.loop-n.cells c.requires.lines.some p
    c.loop-n.auto.n c.loop-n.invariant
    (n + 1) c.change_run.new.cells (omega arith)
    (number_made s h n c.args.width (length c.args.cells.now) p
    (omega arith) c.requires.lines c.loop-n.cells c.change_run.new.cells c.change_run.ensures)

pub returns : goal.returns
returns c =
    let end : c.loop-n.n ≡ c.args.hi = omega arith in
    rw end at c.loop-n.invariant
