-- What is known of the sources of datagrams (RFC 3550): a source is who sends the packets of one SSRC. Of
-- those that send VC-2 (RFC 8450) that is what their headers and parameters say, which pictures they began,
-- and the indices of their slices. A packet that is a repeat or out of order is counted, and not looked at.
use Rattle.std.specs.Prelude.{ℕ, Bool, true, false, ◌==◌, nat_lt, if◌then◌else◌, List, [], ◌∷◌, ◌++◌}
use Rattle.std.specs.Prelude.{length, fold, position, slice_range, Option, Some, None, Result, Ok, Err}
use Rattle.link_model.specs.Packets.{FragmentHead, PayloadValue, Header, End, Skip, Params, Slices, payload}
use Rattle.link_model.specs.Packets.{RtpPacket, rtp_packet}
use Rattle.link_model.specs.declared.refusal.PayloadRefusal.{PayloadRefusal}
use Rattle.link_model.specs.declared.refusal.RtpRefusal.{RtpRefusal}
use Rattle.vc_types.specs.TransformParameters.{Parameters}
use Rattle.cmd_probe.specs.Arrivals.{arrivals_from, arrived, is_in_order}
use Rattle.cmd_probe.specs.Changing.{changed_at}
use Rattle.cmd_probe.specs.Indices.{indices_with, no_indices}
use Rattle.cmd_probe.specs.Pictures.{is_open, no_pictures, with_fragment, with_picture, with_raster}
use Rattle.cmd_probe.specs.Said.{nothing_said, parameters_under, with_header, with_transform}
use Rattle.cmd_probe.specs.Stamps.{no_stamps, with_stamp}
use Rattle.cmd_probe.specs.declared.source.Source.{Source}

-- before its first packet, which is given
abbrev pub source_from : RtpPacket → Source
source_from p = record {
  ssrc = p.ssrc;
  payload_type = p.payload_type;
  arrivals = arrivals_from p.sequence;
  formats = nothing_said;
  pictures = no_pictures;
  indices = no_indices;
  stamps = no_stamps;
}

-- ---- what a packet carries

-- a picture begins, if it isn't the last one
abbrev pub begun : Source → (number timestamp : ℕ) → Source
begun s number timestamp =
    if is_open s.pictures number then s
    else record s {
      pictures = with_picture s.pictures number;
      stamps = with_stamp s.stamps (s.pictures.count == 0) timestamp;
    }

-- the last picture's parameters
abbrev pub with_plan : Source → Parameters → Source
with_plan s p = record s {
  formats = with_transform s.formats p;
  pictures = with_raster s.pictures p.slices_x p.slices_y;
}

abbrev pub with_parameters : Source → Option Parameters → Source
with_parameters s (Some p) = with_plan s p
with_parameters s None = s

-- slices of the last picture
abbrev pub with_slices : Source → FragmentHead → (count x y : ℕ) → List ℕ → Source
with_slices s head count x y body = record s {
  pictures = with_fragment s.pictures x y count (length body);
  indices = indices_with head.prefix head.scaler count body s.indices;
}

abbrev pub with_payload : Source → (timestamp : ℕ) → PayloadValue → Source
with_payload s timestamp (Header high from body) = record s { formats = with_header s.formats body }
with_payload s timestamp (Params head from body) =
    with_parameters (begun s head.number timestamp) (parameters_under s.formats.heading body)
with_payload s timestamp (Slices head count x y from body) =
    with_slices (begun s head.number timestamp) head count x y body
with_payload s timestamp (End high) = s
with_payload s timestamp (Skip high code) = s

abbrev pub carrying : Source → (timestamp : ℕ) → Result PayloadValue PayloadRefusal → Source
carrying s timestamp (Ok value) = with_payload s timestamp value
carrying s timestamp (Err refusal) = s

-- ---- a packet

abbrev pub counting : Source → RtpPacket → List ℕ → Source
counting s p datagram =
    record s { arrivals = arrived s.arrivals p.sequence (length datagram) }

-- one of its packets more, in a datagram
unfoldable pub with_packet : Source → RtpPacket → (datagram : List ℕ) → Source
with_packet s p datagram =
    if is_in_order s.arrivals p.sequence
    then carrying (counting s p datagram) p.timestamp (payload (slice_range datagram p.from p.to))
    else counting s p datagram

-- ---- all sources

-- those of which something is known, in the order of their first packets, and whether there are others
pub record Probed : Type 0 where
  pub sources : List Source
  pub others : Bool

abbrev pub is_source : ℕ → Source → Bool
is_source ssrc s = s.ssrc == ssrc

-- a new one, while there are fewer than 64
abbrev pub with_new_source : Probed → RtpPacket → List ℕ → Probed
with_new_source x p datagram =
    if nat_lt (length x.sources) 64
    then record x { sources = x.sources ++ with_packet (source_from p) p datagram ∷ [] }
    else record x { others = true }

abbrev pub at_source : Probed → RtpPacket → List ℕ → Option ℕ → Probed
at_source x p datagram (Some place) =
    record x { sources = changed_at (λ s. with_packet s p datagram) place x.sources }
at_source x p datagram None = with_new_source x p datagram

-- one packet more: of those that are known, or of a new source
unfoldable pub with_one : Probed → RtpPacket → List ℕ → Probed
with_one x p datagram = at_source x p datagram (position (is_source p.ssrc) x.sources)

abbrev pub hearing : Probed → List ℕ → Result RtpPacket RtpRefusal → Probed
hearing x datagram (Ok p) = with_one x p datagram
hearing x datagram (Err refusal) = x

-- one datagram more, which is a packet or isn't
abbrev pub with_datagram : Probed → List ℕ → Probed
with_datagram x datagram = hearing x datagram (rtp_packet datagram)

abbrev pub nothing_probed : Probed
nothing_probed = record { sources = []; others = false }

-- behind datagrams one after another
abbrev pub probed : List (List ℕ) → Probed
probed datagrams = fold with_datagram nothing_probed datagrams
