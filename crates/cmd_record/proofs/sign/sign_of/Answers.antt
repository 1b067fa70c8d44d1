use Rattle.rtp_head.specs.Views.{packet_of}
use Rattle.vc2_payload.specs.Views.{payload_value}
use Rattle.cmd_record.proofs.ReadSigns.{no_packet, no_payload, read_sign}
use Rattle.cmd_record.proofs.sign.sign_of.Goals as goal

pub returns-in-Ok-read_payload : goal.returns-in-Ok-read_payload
returns-in-Ok-read_payload c =
    let sign = c.payload_sign.ensures in
    read_sign c.args.datagram.now (packet_of c.in-Ok.packet) c.in-Ok.ensures.value
    (payload_value c.in-Ok-read_payload.payload) c.in-Ok-read_payload.ensures.value c.payload_sign.result sign.begins sign.ends

pub returns-in-Err-read_payload : goal.returns-in-Err-read_payload
returns-in-Err-read_payload c =
    no_payload c.args.datagram.now (packet_of c.in-Ok.packet) c.in-Ok.ensures.value c.in-Err-read_payload.field-0
    c.in-Err-read_payload.ensures.value

pub returns-in-Err : goal.returns-in-Err
returns-in-Err c = no_packet c.args.datagram.now c.in-Err.field-0 c.in-Err.ensures.value
