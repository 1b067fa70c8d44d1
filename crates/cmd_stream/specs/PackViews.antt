-- What code keeps of a stream, as plain data.
use Rattle.std.specs.Prelude.{◌≡◌, ◌<◌, ◌≤◌, ◌+◌, ◌%◌, ◌^◌, ℕ, List, length, Option, Some, None, IfSome}
use Rattle.cmd_stream.specs.Counted.{packed_totals}
use Rattle.stream_model.specs.Packed.{PackStream, settings_for, stream_packed}
use Rattle.stream_model.specs.Packing.{PackedPicture, packed_datagrams, timestamp_behind}
use Rattle.cmd_stream.specs.declared.opened.Opened.{Opened}
use Rattle.cmd_stream.specs.declared.stream.StreamPacker.{StreamPacker}
use Rattle.link_sender.specs.PackerState.{PackCounts, counts_of}
use Rattle.vc_types.specs.SenderSettings.{Packing, packing_view}
use Rattle.vc_types.specs.SequenceHeader.{sequence_of}

-- what a packer goes on with behind pictures
abbrev pub counts_after : Packing → List PackedPicture → PackCounts
counts_after s pictures = record {
  pictures = length pictures % 2 ^ 63;
  sequence = (s.seq + length (packed_datagrams s pictures)) % 2 ^ 32;
  timestamp = timestamp_behind s 0 0 pictures;
}

-- a stream was packed up to now
pub record IsBehindPictures (s : Packing) (t : PackStream) (o : Opened) : Type 0 where
  pub sequence_is : sequence_of o.header ≡ t.sequence
  pub header_is : o.coded.items ≡ t.header
  pub settings_are : packing_view o.packer.settings ≡ settings_for s (Some t)
  pub counts_are : counts_of o.packer ≡ counts_after (settings_for s (Some t)) t.pictures
  pub pictures_are : o.pictures ≡ length t.pictures

abbrev pub IsOpened : Packing → Option PackStream → Option Opened → Type 0
IsOpened s None None = Unit {0}
IsOpened s (Some t) (Some o) = IsBehindPictures s t o
IsOpened s stream opened = ⊥

-- what came of a stream was packed, and counted
pub record IsBehindUnits (s : Packing) (stream : Option PackStream) (p : StreamPacker)
    : Type 0 where
  pub settings_are : packing_view p.settings ≡ s
  pub seq_fits : s.seq < 2 ^ 32
  pub opened : IsOpened s stream p.stream
  pub totals_are : p.totals ≡ packed_totals (stream_packed s stream)

-- so many pictures at most were packed
abbrev pub CountsFew : ℕ → StreamPacker → Type 0
CountsFew n p = IfSome p.stream (λ o. o.pictures ≤ n)
