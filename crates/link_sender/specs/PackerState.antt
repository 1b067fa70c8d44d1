-- What a packer keeps from one picture to the next, and what packing a picture does.
use Rattle.std.specs.Prelude.{◌≡◌, ◌+◌, ◌%◌, ◌^◌, ℕ, None, Result, Ok, Err, length}
use Rattle.std.specs.Global.{Vec}
use Rattle.stream_model.specs.Packing.{PackedPicture, end_around, first_large_part}
use Rattle.stream_model.specs.Packing.{packed_picture, packed_timestamp}
use Rattle.link_sender.specs.declared.datagram.Datagram.{Datagram}
use Rattle.link_sender.specs.declared.packer.Packer.{Packer}
use Rattle.link_sender.specs.declared.refusal.SendRefusal.{SendRefusal}
use Rattle.link_sender.specs.Packing.{bytes_of_all}
use Rattle.link_sender.specs.PackRefusals.{SaysLarge}
use Rattle.vc_types.specs.SenderSettings.{Packing}

-- how many pictures there were, modulo 2 ^ 63, the extended sequence number of the next datagram,
-- modulo 2 ^ 32, and the timestamp of the last
pub record PackCounts : Type 0 where
  pub pictures : ℕ
  pub sequence : ℕ
  pub timestamp : ℕ

abbrev pub counts_of : Packer → PackCounts
counts_of p =
    record { pictures = p.pictures; sequence = p.sequence; timestamp = p.timestamp }

-- a picture behind so many pictures, and so many datagrams of it
abbrev pub counts_behind : Packing → PackCounts → PackedPicture → ℕ → PackCounts
counts_behind s n p datagrams = record {
  pictures = (n.pictures + 1) % 2 ^ 63;
  sequence = (n.sequence + datagrams) % 2 ^ 32;
  timestamp = packed_timestamp s n.pictures p.number;
}

-- the datagrams of a picture whose parts have room
pub record IsPacked
    (s : Packing) (p : PackedPicture) (old new : PackCounts) (datagrams : Vec Datagram)
    : Type 0 where
  pub fits : first_large_part s p ≡ None
  pub datagrams_are :
      bytes_of_all datagrams.items ≡ packed_picture s old.pictures old.sequence p
  pub counts_are : new ≡ counts_behind s old p (length datagrams.items)

-- the datagrams and what is kept then, or a refusal that leaves what was kept
abbrev pub PacksPicture : Packing → PackedPicture → PackCounts → PackCounts
    → Result (Vec Datagram) SendRefusal → Type 0
PacksPicture s p old new (Ok datagrams) = IsPacked s p old new datagrams
PacksPicture s p old new (Err e) = SaysLarge (first_large_part s p) e × (new ≡ old)

-- the end of the sequence, with the timestamp of the last datagram
pub record EndsPacking (s : Packing) (old new : PackCounts) (end : Datagram) : Type 0 where
  pub datagram_is : end.bytes.items ≡ end_around s old.sequence old.timestamp
  pub counts_are : new ≡ record old { sequence = (old.sequence + 1) % 2 ^ 32 }
