-- What code keeps of an RTP header.
use Rattle.link_model.specs.Packets.{RtpPacket}
use Rattle.rtp_head.specs.declared.view.RtpView.{RtpView}

abbrev pub packet_of : RtpView → RtpPacket
packet_of v = record {
  marker = v.marker;
  payload_type = v.payload_type;
  sequence = v.sequence;
  timestamp = v.timestamp;
  ssrc = v.ssrc;
  from = v.from;
  to = v.to;
}
