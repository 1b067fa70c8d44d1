use Rattle.std.proofs.Common.{◌≡◌, ◌+◌, ◌^◌, ◌∙◌, length, arith, ap}
use Rattle.vc_types.specs.Lifting.{line_of}
use Rattle.vc_lift.specs.CountedSteps.{lift_between}
use Rattle.vc_lift.specs.Halves.{line_in}
use Rattle.vc_lift.specs.Steps.{counted_of}
use Rattle.vc_lift.proofs.Betweens.{between_none}
use Rattle.vc_lift.proofs.InsideRuns.{inside_run, inside_room, inside_made}
use Rattle.vc_lift.proofs.narrow.change_inside.Goals as goal

pub change_run-requires : goal.change_run-requires
change_run-requires c =
    let r = c.requires in
    let some = c.if-lo-hi.true in
    let s = counted_of c.args.step.now in
    record {
      small = r.each.lines.small;
      at = omega arith;
      run = inside_run s c.args.halves.now c.args.lo c.args.hi
          (length c.args.cells.now) c.args.step.now.plain.parity r.whole some r.each.within (r.left some)
          (r.right some) r.each.lines;
      room = λ x h.
          inside_room s c.args.halves.now c.args.lo c.args.hi
          (length c.args.cells.now) c.args.step.now.plain.parity r.whole some r.each.within (r.left some)
          (r.right some) r.each.lines
          (2 ^ 31) c.args.cells.now x h
          (r.each.room 0 (c.args.lo + x) (omega arith) (omega arith) (omega arith));
    }

pub returns-then-lo-hi : goal.returns-then-lo-hi
returns-then-lo-hi c =
    let r = c.requires in
    let some = c.if-lo-hi.true in
    inside_made (counted_of c.args.step.now) c.args.halves.now c.args.lo c.args.hi
    (length c.args.cells.now) c.args.step.now.plain.parity r.whole some r.each.within (r.left some)
    (r.right some) r.each.lines
    c.args.cells.now c.change_run.new.cells c.change_run.ensures

pub returns-else-lo-hi : goal.returns-else-lo-hi
returns-else-lo-hi c =
    let s = counted_of c.args.step.now in
    let half = c.args.halves.now.half in
    let end : c.args.lo ≡ c.args.hi = omega arith in
    record {
      on = λ x k one h. (let line = line_in c.args.halves.now c.args.cells.now x in
          between_none s half c.args.lo line k ∙ ap (λ n. lift_between s half c.args.lo n line k) end);
      off = λ i none j. line_of c.args.cells.now i;
    }
