use Rattle.std.proofs.Common.{◌∷◌, [], refl, ◌∙◌}
use Rattle.cmd_receive.specs.Exchanges.{loop_state}
use Rattle.cmd_receive.specs.LoopLaws.{more_looped, part_behind}
use Rattle.cmd_receive.proofs.Exchanging.{ended, failed, heard, lost, unanswered, unheard, unsent, unwritten}
use Rattle.cmd_receive.proofs.outlet.LoopOutletOutlet.put.Goals as goal

-- it wasn't sent
pub returns-in-Failed-clause-broke : goal.returns-in-Failed-clause-broke
returns-in-Failed-clause-broke g c = λ first before went.
    let now = c.in-Failed.ensures in
    let at = loop_state g.N.Wire.told g.N.Wire.faults g.O.Sink.held g.O.Sink.faults g.P.Places.told g.P.Places.bound c.args.self.now in (
      went.0,
      part_behind _ at _ before (c.args.datagram.now ∷ []) _ went.1 (unsent _ _ _ _ now.cause.later now.told (now.cause.rose refl)),
    )

-- the output failed
pub returns-in-Err-Output-clause-broke : goal.returns-in-Err-Output-clause-broke
returns-in-Err-Output-clause-broke g c = λ first before went.
    let given = rw c.in-Ok-Some.field-0-is at c.in-Ok-Some.ensures.brings in
    let now = c.in-Err-Output.ensures in
    let sent = c.in-Yes.ensures in
    let at = loop_state g.N.Wire.told g.N.Wire.faults g.O.Sink.held g.O.Sink.faults g.P.Places.told g.P.Places.bound c.args.self.now in (
      (given.0 ∙ went.0.0, (now.borrows_output ∙ went.0.1.0, now.borrows_places ∙ went.0.1.1)),
      part_behind _ at _ before (c.args.datagram.now ∷ []) _ went.1 (unwritten _ _ _ _ sent.cause.later sent.told _ _ _ given.1 _ (rw c.in-Err-Output.field-0-is at now.takes)),
    )

-- it was lost
pub returns-in-Lost-clause-took : goal.returns-in-Lost-clause-took
returns-in-Lost-clause-took g c = λ first before went.
    let now = c.in-Lost.ensures in
    let at = loop_state g.N.Wire.told g.N.Wire.faults g.O.Sink.held g.O.Sink.faults g.P.Places.told g.P.Places.bound c.args.self.now in (
      went.0,
      more_looped _ at _ before (c.args.datagram.now ∷ []) went.1 (unanswered _ _ _ _ now.cause.later now.told),
    )

-- it came back, and was heard
pub returns-in-Ok-clause-took : goal.returns-in-Ok-clause-took
returns-in-Ok-clause-took g c = λ first before went.
    let given = rw c.in-Ok-Some.field-0-is at c.in-Ok-Some.ensures.brings in
    let now = c.in-Ok.ensures in
    let sent = c.in-Yes.ensures in
    let at = loop_state g.N.Wire.told g.N.Wire.faults g.O.Sink.held g.O.Sink.faults g.P.Places.told g.P.Places.bound c.args.self.now in (
      (given.0 ∙ went.0.0, (now.borrows_output ∙ went.0.1.0, now.borrows_places ∙ went.0.1.1)),
      more_looped _ at _ before (c.args.datagram.now ∷ []) went.1 (heard _ _ _ _ sent.cause.later sent.told _ _ _ given.1 _ now.takes.hears),
    )

-- memory ran out for what came
pub returns-in-Err-NoMemory-clause-broke : goal.returns-in-Err-NoMemory-clause-broke
returns-in-Err-NoMemory-clause-broke g c = λ first before went.
    let given = rw c.in-Ok-Some.field-0-is at c.in-Ok-Some.ensures.brings in
    let now = c.in-Err-NoMemory.ensures in
    let sent = c.in-Yes.ensures in
    let at = loop_state g.N.Wire.told g.N.Wire.faults g.O.Sink.held g.O.Sink.faults g.P.Places.told g.P.Places.bound c.args.self.now in (
      (given.0 ∙ went.0.0, (now.borrows_output ∙ went.0.1.0, now.borrows_places ∙ went.0.1.1)),
      part_behind _ at _ before (c.args.datagram.now ∷ []) _ went.1 (unheard _ _ _ _ sent.cause.later sent.told _ _ _ given.1 _ (rw c.in-Err-NoMemory.field-0-is at now.takes)),
    )

-- no more will come
pub returns-in-Ok-None-clause-took : goal.returns-in-Ok-None-clause-took
returns-in-Ok-None-clause-took g c = λ first before went.
    let none = rw c.in-Ok-None.field-0-is at c.in-Ok-None.ensures.brings in
    let sent = c.in-Yes.ensures in
    let at = loop_state g.N.Wire.told g.N.Wire.faults g.O.Sink.held g.O.Sink.faults g.P.Places.told g.P.Places.bound c.args.self.now in (
      (none.0 ∙ went.0.0, went.0.1),
      more_looped _ at _ before (c.args.datagram.now ∷ []) went.1 (ended _ _ _ _ sent.cause.later sent.told _ _ none.1),
    )

-- the receive failed
pub returns-in-Err-WireFailed-clause-broke : goal.returns-in-Err-WireFailed-clause-broke
returns-in-Err-WireFailed-clause-broke g c = λ first before went.
    let none = rw c.in-Err-WireFailed.field-0-is at c.in-Err-WireFailed.ensures.brings in
    let sent = c.in-Yes.ensures in
    let at = loop_state g.N.Wire.told g.N.Wire.faults g.O.Sink.held g.O.Sink.faults g.P.Places.told g.P.Places.bound c.args.self.now in (
      (none.0 ∙ went.0.0, went.0.1),
      part_behind _ at _ before (c.args.datagram.now ∷ []) _ went.1 (failed _ _ _ _ sent.cause.later sent.told _ _ none.1),
    )

-- or there was no memory for it
pub returns-in-Err : goal.returns-in-Err
returns-in-Err g c =
    let none = c.in-Err.ensures.brings in
    let sent = c.in-Yes.ensures in
    let at = loop_state g.N.Wire.told g.N.Wire.faults g.O.Sink.held g.O.Sink.faults g.P.Places.told g.P.Places.bound c.args.self.now in
    record {
      opened = tt;
      took = tt;
      broke = λ first before went. (
        (none.0 ∙ went.0.0, went.0.1),
        part_behind _ at _ before (c.args.datagram.now ∷ []) _ went.1 (lost _ _ _ _ sent.cause.later sent.told _ _ c.in-Err.field-0 none.1),
      );
    }
