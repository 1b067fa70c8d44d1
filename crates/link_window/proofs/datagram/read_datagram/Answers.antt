use Rattle.link_model.specs.Session.{OfRtp, OfPayload}
use Rattle.rtp_head.specs.Views.{packet_of}
use Rattle.link_window.proofs.DatagramSteps.{no_packet, no_payload}
use Rattle.link_window.proofs.datagram.read_datagram.Goals as goal

pub returns-in-Err-clause-refused : goal.returns-in-Err-clause-refused
returns-in-Err-clause-refused c =
    (OfRtp c.in-Err.refusal, no_packet c.args.datagram.now c.in-Err.refusal c.in-Err.ensures.value, c.rtp_outcome.ensures)

pub returns-in-Err-read_payload-clause-refused : goal.returns-in-Err-read_payload-clause-refused
returns-in-Err-read_payload-clause-refused c =
    let refusal = c.in-Err-read_payload.refusal in
    (OfPayload refusal, no_payload c.args.datagram.now (packet_of c.in-Ok.view) refusal c.in-Ok.ensures.value c.in-Err-read_payload.ensures.value, c.payload_outcome.ensures)
