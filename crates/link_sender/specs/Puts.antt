-- Datagrams of a picture that are put one behind another.
use Rattle.std.specs.Prelude.{◌≡◌, ◌+◌, ◌%◌, ◌^◌, List, ◌++◌, length}
use Rattle.link_model.specs.Sending.{DatagramContent}
use Rattle.stream_model.specs.Packing.{contents_from}
use Rattle.link_sender.specs.Packing.{bytes_of_all}
use Rattle.link_sender.specs.declared.outbox.Outbox.{Outbox}
use Rattle.link_sender.specs.declared.picture.Picture.{Picture}
use Rattle.link_sender.specs.Views.{heads_of}
use Rattle.vc_types.specs.SenderSettings.{packing_view}

-- the datagrams that carry this of a picture were put behind the others
pub record PutsDatagrams (p : Picture) (contents : List DatagramContent) (old new : Outbox)
    : Type 0 where
  pub datagrams_are : bytes_of_all new.datagrams.items
      ≡ bytes_of_all old.datagrams.items
      ++ contents_from (packing_view p.settings) p.timestamp (heads_of p) old.sequence
      contents
  pub sequence_is : new.sequence ≡ (old.sequence + length contents) % 2 ^ 32
