use Rattle.std.proofs.Common.{false, ap, ◌∙◌}
use Rattle.cmd_gen.specs.Checking.{checked_stream}
use Rattle.cmd_gen.proofs.FrameSteps.{stream_checked}
use Rattle.cmd_send.proofs.TakingFrames.{end_is}
use Rattle.cmd_send.specs.FramesSent.{frames_sent}
use Rattle.cmd_gen.specs.Defaults.{all_generated, sent_by_default}
use Rattle.link_model.specs.Packets.{End}
use Rattle.link_model.specs.Sending.{high_half}
use Rattle.link_receiver.proofs.Asked.{asked_none, asked_twice}
use Rattle.link_sender.specs.Packing.{datagram_with}
use Rattle.link_sender.specs.State.{numbers_of}
use Rattle.vc_types.specs.SenderSettings.{Sending}
use Rattle.cmd_gen.proofs.round_trip.RoundTrip.finish.Goals as goal

pub returns-clause-different : goal.returns-clause-different
returns-clause-different g c = λ generating window checked.
    let s = sent_by_default generating.frames in
    let old = numbers_of c.args.self.now.sender in
    let end =
    c.in_ok-end.ensures.value.datagram_is
    ∙ ap (λ (t : Sending). datagram_with t old.number old.timestamp false (End (high_half old.number))) checked.sent.settings_are
    ∙ end_is s (all_generated generating) old checked.sent.numbers_are in
    let taken = rw c.deref.ensures.value at (c.in_ok-take.ensures.checked generating window (frames_sent s (all_generated generating)) checked.checked) in
    c.finish-2.ensures.different generating window (checked_stream generating) (stream_checked generating window _ _ end taken)

pub returns-in_err-end-clause-told : goal.returns-in_err-end-clause-told
returns-in_err-end-clause-told g c = asked_none _

pub returns-clause-told : goal.returns-clause-told
returns-clause-told g c = asked_twice _ _ _ c.in_ok-take.ensures.told c.finish-2.ensures.told
