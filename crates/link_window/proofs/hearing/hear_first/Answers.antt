use Rattle.std.proofs.Common.{sym}
use Rattle.link_model.specs.Session.{Received}
use Rattle.vc2_payload.specs.Views.{payload_value}
use Rattle.link_window.proofs.DatagramSteps.{opens_first, nothing_first}
use Rattle.link_window.proofs.hearing.hear_first.Goals as goal

pub returns-in-Some : goal.returns-in-Some
returns-in-Some c = λ d is.
    let packet = c.args.packet.now in
    let r : Received = record { ssrc = packet.ssrc; value = payload_value packet.payload } in
    opens_first d r is c.in-Some.opening (sym c.in-Some.ensures)

pub returns-in-None : goal.returns-in-None
returns-in-None c = λ d is.
    let packet = c.args.packet.now in
    let r : Received = record { ssrc = packet.ssrc; value = payload_value packet.payload } in
    let none = sym c.in-None.ensures in
    nothing_first d r is c.early_outcome.result none (c.early_outcome.ensures packet.ssrc none)
