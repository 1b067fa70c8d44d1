use Rattle.std.proofs.Common.{rules, ◌^◌, arith}
use Rattle.vc_lift.specs.Halves.{line_in}
use Rattle.vc_lift.specs.Steps.{counted_of}
use Rattle.vc_lift.proofs.Betweens.{room_at, made_more, room_after, whole_made}
use Rattle.vc_lift.proofs.narrow.change_line.Goals as goal

pub change_each-requires : goal.change_each-requires
change_each-requires c = record {
  lines = c.requires.lines;
  ordered = omega arith;
  within = omega arith;
  room = λ x n one from lt. room_at (2 ^ 31) (counted_of c.args.step.now) c.args.halves.now.half
      (line_in c.args.halves.now c.args.cells.now x) n (omega arith) (c.requires.range x one);
}

pub change_inside-requires-clause-each : goal.change_inside-requires-clause-each
change_inside-requires-clause-each c =
    let s = counted_of c.args.step.now in
    let h = c.args.halves.now in
    record {
      lines = search rules;
      ordered = omega arith;
      within = omega arith;
      room = λ x n one from lt.
          room_after s h 0 c.min-first.result 1 c.args.cells.now c.change_each.new.cells c.requires.lines.some
          c.args.step.now.plain.parity (omega arith) c.change_each.ensures
          (2 ^ 31) x n one from (omega arith)
          (room_at (2 ^ 31) s h.half (line_in h c.args.cells.now x) n (omega arith)
          (c.requires.range x one));
    }

pub change_each-requires-2 : goal.change_each-requires-2
change_each-requires-2 c =
    let s = counted_of c.args.step.now in
    let h = c.args.halves.now in
    let so_far = made_more s h 0 c.min-first.result 1 c.args.cells.now c.change_each.new.cells
    c.requires.lines.some c.args.step.now.plain.parity (omega arith) c.change_each.ensures
    c.max-last.result c.change_inside.new.cells (omega arith) c.change_inside.ensures in
    record {
      lines = search rules;
      ordered = omega arith;
      within = omega arith;
      room = λ x n one from lt.
          room_after s h 0 c.max-last.result 1 c.args.cells.now c.change_inside.new.cells
          c.requires.lines.some c.args.step.now.plain.parity (omega arith) so_far
          (2 ^ 31) x n one from lt
          (room_at (2 ^ 31) s h.half (line_in h c.args.cells.now x) n lt (c.requires.range x one));
    }

pub returns : goal.returns
returns c =
    let s = counted_of c.args.step.now in
    let h = c.args.halves.now in
    let so_far = made_more s h 0 c.min-first.result 1 c.args.cells.now c.change_each.new.cells
    c.requires.lines.some c.args.step.now.plain.parity (omega arith) c.change_each.ensures
    c.max-last.result c.change_inside.new.cells (omega arith) c.change_inside.ensures in
    whole_made s h 1 c.args.cells.now c.change_each-2.new.cells
    (made_more s h 0 c.max-last.result 1 c.args.cells.now c.change_inside.new.cells c.requires.lines.some
    c.args.step.now.plain.parity (omega arith) so_far
    h.half c.change_each-2.new.cells (omega arith) c.change_each-2.ensures)
