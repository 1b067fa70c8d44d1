-- What code keeps of a session that a datagram opens.
use Rattle.link_model.specs.Session.{Session}
use Rattle.link_window.specs.declared.heard.Opening.{Opening}
use Rattle.vc_types.specs.SequenceHeader.{sequence_of}

abbrev pub session_of : Opening → Session
session_of o = record {
  ssrc = o.ssrc;
  sequence = sequence_of o.header;
  presentation = o.presentation;
}
