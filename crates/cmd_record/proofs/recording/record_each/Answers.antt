use Rattle.std.proofs.Common.{[], refl, arith}
use Rattle.link_outside.specs.Calls.{passes_given}
use Rattle.cmd_record.proofs.RecordLoop.{at_first, none_left, one_more, output_fails, wire_fails}
use Rattle.cmd_record.proofs.recording.record_each.Goals as goal

pub loop-place-init : goal.loop-place-init
loop-place-init g c = record {
  listens = c.requires.listens;
  room = c.requires.room;
  at = ([], at_first c.args.recorder.now _ _ _ _ c.requires.none);
}

pub take-requires-clause-few : goal.take-requires-clause-few
take-requires-clause-few g c =
    let at = c.loop-place.invariant.at.1 in
    omega (arith, at.counted.datagrams_are, at.number_is, c.loop-place-test.true, c.ranges.packets.fits)

-- a part of an entry was written
pub returns-in-Err-clause-records : goal.returns-in-Err-clause-records
returns-in-Err-clause-records g c =
    let now = c.in-Datagram.ensures in
    let failed = c.in-Err.ensures in
    output_fails _ _ _ _ _ _ _ _ _ _ _ _ c.loop-place.invariant.at.1 _ _ _ now.told.1 now.cause.later _ _ c.args.packets c.take.new.self
    c.loop-place-test.true failed.err (failed.cause.rose refl)

pub returns-in-End-clause-records : goal.returns-in-End-clause-records
returns-in-End-clause-records g c =
    let told = c.in-End.ensures.told in
    none_left _ _ _ _ _ _ _ _ _ _ _ _ c.loop-place.invariant.at.1 c.args.packets c.loop-place-test.true _ _ told.1 told.0

pub returns-in-Failed-clause-records : goal.returns-in-Failed-clause-records
returns-in-Failed-clause-records g c =
    wire_fails _ _ _ _ _ _ _ _ _ _ _ _ c.loop-place.invariant.at.1 c.args.packets c.loop-place-test.true _ _
    c.in-Failed.ensures.told (c.in-Failed.ensures.cause.rose refl)

pub loop-place-preserved : goal.loop-place-preserved
loop-place-preserved g c =
    let was = c.loop-place.invariant in
    let now = c.in-Datagram.ensures in
    let took = c.in-Ok.ensures in
    let kept = c.keep.ensures in
    let gave = passes_given _ _ _ now.told.1 in
    record {
      listens = rw (kept.told, gave.listens_stays) was.listens;
      room = omega (arith, c.recv.auto.buf, was.room);
      at = (
        _,
        one_more _ _ _ _ _ _ _ _ _ _ _ _ was.at.1 _ _ _ now.told.1 (omega (arith, kept.faults, now.cause.later)) _ _ _ kept.told _ (c.has_enough.ensures.more c.if-has_enough.false)
            took.sessions took.datagrams took.watches took.ok took.cause.later,
      );
    }
