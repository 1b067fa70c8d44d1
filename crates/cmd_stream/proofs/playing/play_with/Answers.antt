use Rattle.std.proofs.Common.{rules, ◌≡◌, ◌^◌, ◌-◌, ◌+◌, ◌∙◌, refl, sym, subst, arith, true, false}
use Rattle.vc_types.specs.DataUnits.{is_end_of_sequence}
use Rattle.vc_units.specs.Reading.{unit_of}
use Rattle.cmd_stream.specs.Stream.{at_start, after_unit}
use Rattle.cmd_stream.specs.Taking.{CountsAtMost}
use Rattle.cmd_stream.specs.PlayViews.{player_state}
use Rattle.cmd_stream.proofs.UnitsRead.{begun, with_unit, with_last, at_edge}
use Rattle.cmd_stream.proofs.Players.{within_upto}
use Rattle.cmd_stream.proofs.PlayStopping.{unit_unread, unit_untaken}
use Rattle.cmd_stream.proofs.playing.play_with.Goals as goal

pub loop-unit-init : goal.loop-unit-init
loop-unit-init g c = record {
  borrows = refl;
  sound = c.requires.sound;
  near = omega (arith, c.requires.place);
  behind = (at_start, c.requires.player, c.requires.place, begun c.args.packets _ _);
  few = subst (CountsAtMost 0) (sym c.requires.player) tt;
  input_later = omega arith;
  output_later = omega arith;
}

pub returns-in-Ok-clause-ended : goal.returns-in-Ok-clause-ended
returns-in-Ok-clause-ended g c =
    let at = c.loop-unit.invariant.behind in
    let u = unit_of c.in-Ok-Some.unit in
    let read = rw c.in-Ok-Some.field-0-is at (rw c.loop-unit.invariant.sound at c.in-Ok-Some.ensures.unit) in
    let brought = c.in-Ok.ensures.brought at.0.stream at.1 in
    let ends : is_end_of_sequence u ≡ true = search rules in
    record {
      so_far = after_unit at.0 u brought.0.next;
      keeps = brought.1;
      few = within_upto (c.loop-unit._unit + 1) (2 ^ 32 - 1) (player_state c.take.new.self) (omega (arith, c.loop-unit-test.true)) (c.in-Ok.ensures.few c.loop-unit._unit c.loop-unit.invariant.few);
      units = with_last c.args.packets c.loop-unit._unit _ _ _ _ at.0 at.3 (omega (arith, c.loop-unit-test.true)) _ u read.1 _ brought.0 brought.2 ends;
    }

pub returns-in-Err-take-clause-ended : goal.returns-in-Err-take-clause-ended
returns-in-Err-take-clause-ended g c =
    let at = c.loop-unit.invariant.behind in
    let u = unit_of c.in-Ok-Some.unit in
    let read = rw c.in-Ok-Some.field-0-is at (rw c.loop-unit.invariant.sound at c.in-Ok-Some.ensures.unit) in
    let brought = c.in-Err-take.ensures.brought at.0.stream at.1 in
    rw (c.taking_ended.ensures, c.place-place.ensures, at.2) (unit_untaken c.args.packets c.loop-unit._unit _ _ _ _ at.0 at.3 (omega (arith, c.loop-unit-test.true)) u read.1 c.in-Err-take.fault (player_state c.take.new.self) brought)

pub returns-in-Ok-None-clause-ended : goal.returns-in-Ok-None-clause-ended
returns-in-Ok-None-clause-ended g c =
    let at = c.loop-unit.invariant.behind in
    let read = rw c.in-Ok-None.field-0-is at (rw c.loop-unit.invariant.sound at c.in-Ok-None.ensures.unit) in
    record {
      so_far = at.0;
      keeps = at.1;
      few = within_upto c.loop-unit._unit (2 ^ 32 - 1) (player_state c.loop-unit.player) (omega (arith, c.loop-unit-test.true)) c.loop-unit.invariant.few;
      units = at_edge c.args.packets c.loop-unit._unit _ _ _ _ at.0 at.3 _ read;
    }

pub returns-in-Err-clause-ended : goal.returns-in-Err-clause-ended
returns-in-Err-clause-ended g c =
    let at = c.loop-unit.invariant.behind in
    let read = rw c.loop-unit.invariant.sound at c.in-Err.ensures.unit in
    rw (c.reading_ended.ensures, c.place-place.ensures, at.2) (unit_unread c.args.packets c.loop-unit._unit _ _ _ _ at.0 at.3 refl (omega (arith, c.loop-unit-test.true)) c.in-Err.fault c.loop-unit.reader.place read)

pub loop-unit-preserved : goal.loop-unit-preserved
loop-unit-preserved g c =
    let at = c.loop-unit.invariant.behind in
    let u = unit_of c.in-Ok-Some.unit in
    let read = rw c.in-Ok-Some.field-0-is at (rw c.loop-unit.invariant.sound at c.in-Ok-Some.ensures.unit) in
    let moved = rw c.in-Ok-Some.field-0-is at c.in-Ok-Some.ensures.place in
    let brought = c.in-Ok.ensures.brought at.0.stream at.1 in
    let goes_on : is_end_of_sequence u ≡ false = search rules in
    record {
      borrows = c.in-Ok-Some.ensures.borrows ∙ c.loop-unit.invariant.borrows;
      sound = rw c.loop-unit.invariant.sound at c.in-Ok-Some.ensures.fault;
      near = omega (arith, c.in-Ok-Some.ensures.grows, c.loop-unit.invariant.near);
      behind = (
        after_unit at.0 u brought.0.next,
        brought.1,
        omega (arith, moved, at.2),
        with_unit c.args.packets c.loop-unit._unit _ _ _ _ at.0 at.3 (omega (arith, c.loop-unit-test.true)) _ u read.1 _ brought.0 brought.2 goes_on,
      );
      few = c.in-Ok.ensures.few c.loop-unit._unit c.loop-unit.invariant.few;
      input_later = omega (arith, c.loop-unit.invariant.input_later, (rw c.loop-unit.invariant.sound at c.in-Ok-Some.ensures.cause).later);
      output_later = omega (arith, c.loop-unit.invariant.output_later, c.in-Ok.ensures.cause.later);
    }
