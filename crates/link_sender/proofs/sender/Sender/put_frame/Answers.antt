use Rattle.std.proofs.Common.{◌+◌, ◌%◌, ◌^◌}
use Rattle.vc_types.specs.SenderSettings.{sending_view}
use Rattle.link_sender.specs.declared.outbox.Outbox.{Outbox}
use Rattle.link_sender.specs.Sent.{coded_frame_outgoing}
use Rattle.link_sender.proofs.PutPictures.{last_timestamp, number_behind}
use Rattle.link_sender.proofs.sender.Sender.put_frame.Goals as goal

pub returns-clause-numbers : goal.returns-clause-numbers
returns-clause-numbers g c =
    let sender = c.args.self.now in
    let s = sending_view sender.settings in
    let empty : Outbox = record { alloc = sender.alloc; datagrams = c.new.result; sequence = sender.number } in
    let number = number_behind s (coded_frame_outgoing s sender.frame c.args.slices.now) empty c.put_pictures.new.outbox c.new.ensures.items c.in_ok-put_pictures.ensures in
    let time = last_timestamp s sender.frame c.timestamp-self.result c.timestamp-self.ensures in
    λ i. record { frame = (sender.frame + 1) % 2 ^ 63; number = number i; timestamp = time i }
