use Rattle.std.proofs.Common.{◌^◌, arith}
use Rattle.vc_lift.specs.Halves.{line_in}
use Rattle.vc_lift.specs.Steps.{counted_of}
use Rattle.vc_lift.proofs.Betweens.{room_at, whole_made}
use Rattle.vc_lift.proofs.narrow.lift.Goals as goal

pub change_each-requires : goal.change_each-requires
change_each-requires c = record {
  lines = c.requires.lines;
  ordered = omega arith;
  within = omega arith;
  room = λ x n h from lt. room_at (2 ^ 31) (counted_of c.args.step.now) c.args.halves.now.half
      (line_in c.args.halves.now c.args.cells.now x) n lt (c.requires.range x h);
}

pub returns-then-width-eq1 : goal.returns-then-width-eq1
returns-then-width-eq1 c = rw c.if-width-eq1.true c.change_line.ensures

pub returns-else-halves-eq1 : goal.returns-else-halves-eq1
returns-else-halves-eq1 c =
    whole_made (counted_of c.args.step.now) c.args.halves.now c.args.width c.args.cells.now
    c.change_each.new.cells c.change_each.ensures
