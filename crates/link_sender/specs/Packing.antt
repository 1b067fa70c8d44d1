-- Datagrams that are put one behind another.
use Rattle.std.specs.Prelude.{◌≡◌, ◌<◌, ◌+◌, ◌*◌, ◌%◌, ◌^◌, ℕ, Bool, true, List, ◌++◌, length, map}
use Rattle.link_model.specs.Packets.{RtpPacket, rtp_header, PayloadValue, payload_bytes}
use Rattle.link_model.specs.Sending.{Outgoing, datagrams_from, number_bits, pictures_per_frame, timestamp_of}
use Rattle.link_model.specs.SendingPictures.{sent_header, sent_parameter_bytes, sent_parameters}
use Rattle.link_sender.specs.declared.datagram.Datagram.{Datagram}
use Rattle.link_sender.specs.declared.outbox.Outbox.{Outbox}
use Rattle.link_sender.specs.declared.picture.Picture.{Picture}
use Rattle.link_sender.specs.declared.place.PicturePlace.{PicturePlace}
use Rattle.vc_types.specs.Bits.{digit_of}
use Rattle.vc_types.specs.SenderSettings.{Packing, Sending, packing_view}
use Rattle.vc_types.specs.TransformParameters.{parameters_of}

abbrev pub bytes_of_all : List Datagram → List (List ℕ)
bytes_of_all datagrams = map (λ d. d.bytes.items) datagrams

-- a picture's number among all, counted from the first
abbrev pub picture_at : Sending → PicturePlace → ℕ
picture_at s place = place.frame * pictures_per_frame s + digit_of place.second

-- frames are counted in 63 bits, and there are second fields with field coding alone
abbrev pub IsPlace : Sending → PicturePlace → Type 0
IsPlace s place = (place.frame < 2 ^ 63) × (place.second ≡ true → s.frames.fields ≡ true)

abbrev pub packet_with : Sending → ℕ → ℕ → Bool → RtpPacket
packet_with s number timestamp marker = record {
  marker = marker;
  payload_type = s.pt;
  sequence = number % 2 ^ 16;
  timestamp = timestamp;
  ssrc = s.ssrc;
  from = 12;
  to = 12;
}

-- the datagram of a payload
abbrev pub datagram_with : Sending → ℕ → ℕ → Bool → PayloadValue → List ℕ
datagram_with s number timestamp marker value =
    rtp_header (packet_with s number timestamp marker) ++ payload_bytes value

-- these datagrams were put behind the others
pub record Appends (s : Sending) (more : List Outgoing) (old new : Outbox) : Type 0 where
  pub datagrams_are : bytes_of_all new.datagrams.items
      ≡ bytes_of_all old.datagrams.items ++ datagrams_from s old.sequence more
  pub number_is : new.sequence ≡ (old.sequence + length more) % 2 ^ 32

-- what the packer is told of the settings
abbrev pub packing_of : Sending → Packing
packing_of s = record {
  size = s.size;
  ssrc = s.ssrc;
  pt = s.pt;
  seq = s.seq;
  rate = s.rate;
  fields = s.frames.fields;
}

-- the packer's picture is this one, counted from the first
pub record IsPictureAt (s : Sending) (picture : ℕ) (p : Picture) : Type 0 where
  pub settings_are : packing_view p.settings ≡ packing_of s
  pub timestamp_is : p.timestamp ≡ timestamp_of s picture
  pub number_is : p.number ≡ number_bits s picture
  pub parameters_are : parameters_of p.plan.now ≡ sent_parameters s
  pub header_is : p.header.now ≡ sent_header s
  pub coded_are : p.params.now ≡ sent_parameter_bytes s
