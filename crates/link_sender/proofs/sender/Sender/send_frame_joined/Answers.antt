use Rattle.std.proofs.Common.{sym, arith, rules}
use Rattle.std.proofs.lemmas.Grind.{common_steps}
use Rattle.std.proofs.lemmas.Result.{err_from_is_err_and}
use Rattle.picture_encode.specs.Answering.{Answers}
use Rattle.vc_types.specs.Planes.{planes_in}
use Rattle.vc_types.specs.SenderSettings.{sending_view}
use Rattle.link_sender.specs.State.{numbers_of}
use Rattle.link_sender.proofs.Frames.{are_pictures, is_sent, none_for_frame, samples_refuse, slices_refuse}
use Rattle.link_sender.proofs.sender.Sender.send_frame_joined.Goals as goal

pub returns-in_err-check_samples_joined-clause-value : goal.returns-in_err-check_samples_joined-clause-value
returns-in_err-check_samples_joined-clause-value g c = grind (arith, common_steps, samples_refuse)

pub encode_frame_joined-requires-clause-samples : goal.encode_frame_joined-requires-clause-samples
encode_frame_joined-requires-clause-samples g c =
    let sound = c.in_ok-check_samples_joined.ensures.sound (sending_view c.args.self.now.settings) (sym c.args.self.now.plan_is) in
    search rules

pub returns-in_err-coded-clause-value : goal.returns-in_err-coded-clause-value
returns-in_err-coded-clause-value g c = grind (arith, common_steps, slices_refuse)

pub put_frame-requires : goal.put_frame-requires
put_frame-requires g c =
    let sender = c.args.self.now in
    record { whole = are_pictures (Answers g.F.Fn (sending_view sender.settings) sender.chooser) sender.chooser.wants_lens (sending_view sender.settings) (planes_in c.args.frame.now) c.in_ok-coded.coded c.in_ok-coded.ensures }

pub returns-in_err-put_frame-clause-value : goal.returns-in_err-put_frame-clause-value
returns-in_err-put_frame-clause-value g c =
    let sender = c.args.self.now in
    let p = err_from_is_err_and c.from_residual-in_err-put_frame.result c.from_residual-in_err-put_frame.ensures.1 in
    rw (p.1, p.2) (
      none_for_frame (Answers g.F.Fn (sending_view sender.settings) sender.chooser) sender.chooser.wants_lens (sending_view sender.settings) (planes_in c.args.frame.now),
      c.in_err-put_frame.ensures.unchanged,
    )

pub returns-clause-value : goal.returns-clause-value
returns-clause-value g c =
    let sender = c.args.self.now in
    let s = sending_view sender.settings in
    is_sent (Answers g.F.Fn s sender.chooser) sender.chooser.wants_lens s (planes_in c.args.frame.now) c.in_ok-coded.coded c.in_ok-coded.ensures
    (numbers_of sender) (numbers_of c.put_frame.new.self) c.in_ok-put_frame.field-0.items (c.in_ok-check_samples_joined.ensures.sound s (sym sender.plan_is)) c.in_ok-put_frame.ensures.datagrams c.in_ok-put_frame.ensures.numbers
