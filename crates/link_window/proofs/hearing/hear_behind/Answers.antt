use Rattle.std.proofs.Common.{ap, sym, ◌∙◌}
use Rattle.link_model.specs.Session.{Received}
use Rattle.receiver_model.specs.Judging.{opens_from}
use Rattle.vc2_payload.specs.Views.{payload_value}
use Rattle.link_window.proofs.DatagramSteps.{opens_behind}
use Rattle.link_window.proofs.hearing.hear_behind.Goals as goal

pub returns-in-Some : goal.returns-in-Some
returns-in-Some c =
    let packet = c.args.packet.now in
    let st = c.args.standing.now in
    let r : Received = record { ssrc = packet.ssrc; value = payload_value packet.payload } in
    opens_behind c.args.datagram.now r c.requires.read st c.in-Some.next
    (sym (c.in-Some.ensures ∙ ap (opens_from st) c.opening-opening.ensures))
