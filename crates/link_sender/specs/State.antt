-- What a sender keeps from one frame to the next.
use Rattle.std.specs.Prelude.{◌≡◌, ◌+◌, ◌%◌, ◌^◌, false}
use Rattle.link_model.specs.Packets.{End}
use Rattle.link_model.specs.Sending.{high_half}
use Rattle.link_sender.specs.declared.datagram.Datagram.{Datagram}
use Rattle.link_sender.specs.declared.sender.Sender.{Sender}
use Rattle.link_sender.specs.Packing.{datagram_with}
use Rattle.link_sender.specs.Sent.{Numbers}
use Rattle.vc_types.specs.SenderSettings.{Sending}

abbrev pub numbers_of : {F : Type 0} → Sender F → Numbers
numbers_of s = record { frame = s.frame; number = s.number; timestamp = s.timestamp }

-- the end of the sequence is sent, with the timestamp of the last datagram
pub record EndsSequence (s : Sending) (old new : Numbers) (end : Datagram) : Type 0 where
  pub datagram_is :
      end.bytes.items ≡ datagram_with s old.number old.timestamp false (End (high_half old.number))
  pub numbers_are : new ≡ record old { number = (old.number + 1) % 2 ^ 32 }
