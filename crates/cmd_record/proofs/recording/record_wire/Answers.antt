use Rattle.std.proofs.Common.{refl}
use Rattle.link_hearing.specs.FromWire.{listening_at}
use Rattle.cmd_record.proofs.RecordEnds.{not_begun, not_listening, recorded_until}
use Rattle.cmd_record.proofs.recording.record_wire.Goals as goal

-- no buffer
pub returns-in_default : goal.returns-in_default
returns-in_default g c = not_begun c.args.options.now.packets c.args.options.now.sessions (listening_at c.args.options.now.at.now c.args.options.now.idle) _ _ refl refl

-- a wire that doesn't listen
pub returns-in_default-listen : goal.returns-in_default-listen
returns-in_default-listen g c =
    not_listening c.args.options.now.packets c.args.options.now.sessions (listening_at c.args.options.now.at.now c.args.options.now.idle) _ _ c.new-recorder.result c.summary.result
    c.in_default-listen.ensures.told refl (c.in_default-listen.ensures.cause.rose refl) c.summary.ensures
    c.new-recorder.ensures.none

pub returns : goal.returns
returns g c =
    recorded_until c.args.options.now.packets c.args.options.now.sessions (listening_at c.args.options.now.at.now c.args.options.now.idle) _ _ _ _ _ _ _ _ _ c.in-Yes.ensures.told
    c.in-Yes.ensures.cause.later
    (rw c.new-recorder.ensures.sessions at c.record_each-recorded.ensures.records) _ c.answer.ensures
