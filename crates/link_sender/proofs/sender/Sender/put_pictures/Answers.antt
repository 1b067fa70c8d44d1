use Rattle.vc_types.specs.SenderSettings.{sending_view}
use Rattle.link_sender.proofs.Numbered.{then_ok}
use Rattle.link_sender.proofs.PutPictures.{first_is, one_sent, second_is, two_sent}
use Rattle.link_sender.proofs.sender.Sender.put_pictures.Goals as goal

pub put_picture-requires-clause-whole : goal.put_picture-requires-clause-whole
put_picture-requires-clause-whole g c = first_is (sending_view c.args.self.now.settings) c.args.slices.now c.deref.result.now c.deref.ensures.value c.requires.whole.each

pub put_picture-requires-in-Some-clause-whole : goal.put_picture-requires-in-Some-clause-whole
put_picture-requires-in-Some-clause-whole g c = second_is (sending_view c.args.self.now.settings) c.args.slices.now c.in-Some.slices c.deref-in-Some.result.now c.in-Some.is c.deref-in-Some.ensures.value c.requires.whole.each

pub returns-in-Some : goal.returns-in-Some
returns-in-Some g c =
    then_ok c.put_picture-in-Some.result c.put_picture-in-Some.ensures
    (two_sent (sending_view c.args.self.now.settings) c.args.slices.now c.args.self.now.frame c.deref.result.now c.deref-in-Some.result.now c.in-Some.slices c.args.outbox.now c.put_picture.new.outbox c.put_picture-in-Some.new.outbox c.deref.ensures.value c.in-Some.is c.deref-in-Some.ensures.value c.in_ok-put_picture.ensures)

pub returns-in-None : goal.returns-in-None
returns-in-None g c =
    one_sent (sending_view c.args.self.now.settings) c.args.slices.now c.args.self.now.frame c.deref.result.now c.args.outbox.now c.put_picture.new.outbox c.deref.ensures.value c.in-None.is c.in_ok-put_picture.ensures
