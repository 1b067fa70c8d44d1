use Rattle.std.proofs.Common.{◌≡◌, ◌∙◌, ℕ, ap, subst, sym}
use Rattle.cmd_gen.proofs.FrameSteps.{frame_checked, frame_refused}
use Rattle.cmd_gen.specs.Looping.{IsFrameRefused}
use Rattle.cmd_gen.specs.Defaults.{sent_by_default}
use Rattle.link_model.specs.SendingPictures.{Need, chosen_index, wants_lengths}
use Rattle.link_receiver.proofs.Asked.{asked_none}
use Rattle.link_sender.specs.Sent.{IsRefused, IsSent}
use Rattle.link_sender.specs.State.{numbers_of}
use Rattle.picture_encode.specs.Answering.{Answers}
use Rattle.vc_types.specs.Planes.{planes_in}
use Rattle.vc_types.specs.SenderSettings.{Sending, sending_view}
use Rattle.cmd_gen.proofs.round_trip.RoundTrip.check_frame.Goals as goal

-- a frame that is sent, and whose datagrams are received
pub returns-in-Ok-take_all-clause-value : goal.returns-in-Ok-take_all-clause-value
returns-in-Ok-take_all-clause-value g c = λ generating window sent small behind.
    let settings = c.args.self.now.sender.settings in
    let s = sent_by_default generating.frames in
    let answers = Answers g.F.Fn (sending_view settings) c.args.self.now.sender.chooser in
    let as_chosen : (need : Need) (index : ℕ) → answers need index → index ≡ chosen_index s need = λ need index a. c.requires.chooses need index a ∙ ap (λ (t : Sending). chosen_index t need) behind.sent.settings_are in
    let frame = planes_in c.args.frame.now in
    let value = subst (λ (t : Sending). IsSent answers (wants_lengths t.choice) t frame (numbers_of c.args.self.now.sender) (numbers_of c.send_frame_joined.new.self) c.in-Ok.datagrams.items) behind.sent.settings_are (rw c.requires.wants at c.in-Ok.ensures.value) in
    frame_checked generating window sent frame c.args.self.now.sender c.args.self.now.checker behind answers as_chosen c.send_frame_joined.new.self c.in-Ok.datagrams.items small c.in-Ok.ensures.settings value _
    (rw c.deref.ensures.value at (c.in-Ok-take_all.ensures.checked generating window _ behind.checked))

-- a frame that is refused
pub returns-clause-value : goal.returns-clause-value
returns-clause-value g c = λ generating window sent small behind.
    let settings = c.args.self.now.sender.settings in
    let s = sent_by_default generating.frames in
    let answers = Answers g.F.Fn (sending_view settings) c.args.self.now.sender.chooser in
    let as_chosen : (need : Need) (index : ℕ) → answers need index → index ≡ chosen_index s need = λ need index a. c.requires.chooses need index a ∙ ap (λ (t : Sending). chosen_index t need) behind.sent.settings_are in
    let frame = planes_in c.args.frame.now in
    let value = subst (λ (t : Sending). IsRefused answers (wants_lengths t.choice) t frame c.in-Err.refusal) behind.sent.settings_are ((rw c.requires.wants at c.in-Err.ensures.value).0) in
    subst (IsFrameRefused generating frame) (sym c.refusal_ending.ensures)
    (frame_refused generating window sent frame c.args.self.now.sender c.args.self.now.checker behind answers as_chosen c.in-Err.refusal value)

pub returns-clause-told : goal.returns-clause-told
returns-clause-told g c = asked_none _
