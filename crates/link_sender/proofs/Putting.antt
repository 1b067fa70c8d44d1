-- Datagrams of a picture that are put one behind another.
use Rattle.std.proofs.Common.{◌≡◌, ◌+◌, ◌%◌, ◌^◌, ◌<◌, Bool, List, [], ◌∷◌, ◌++◌, arith, append-nil, length-append}
use Rattle.std.proofs.lemmas.Grind.{common_steps}
use Rattle.link_model.specs.Packets.{PayloadValue}
use Rattle.link_model.specs.Sending.{DatagramContent}
use Rattle.stream_model.specs.Packing.{datagram_around, ends_picture, packed_value}
use Rattle.stream_model.proofs.Contents.{appended, no_datagram, one_datagram, wrapped}
use Rattle.link_sender.specs.declared.outbox.Outbox.{Outbox}
use Rattle.link_sender.specs.declared.picture.Picture.{Picture}
use Rattle.link_sender.specs.Packing.{bytes_of_all}
use Rattle.link_sender.specs.Puts.{PutsDatagrams}
use Rattle.link_sender.specs.Views.{heads_of}
use Rattle.vc_types.specs.SenderSettings.{packing_view}

module _ (p : Picture) where
  pub puts_none : (x : Outbox) → x.sequence < 2 ^ 32 → PutsDatagrams p [] x x
  puts_none x small = grind (arith, common_steps, append-nil, no_datagram)

  pub puts_more : (a b : List DatagramContent) (x y z : Outbox) → PutsDatagrams p a x y → PutsDatagrams p b y z → PutsDatagrams p (a ++ b) x z
  puts_more a b x y z first second = grind (arith, common_steps, length-append, wrapped, appended)

  pub puts_one : (c : DatagramContent) (x y : Outbox) (marker : Bool) (value : PayloadValue) → marker ≡ ends_picture (heads_of p).parameters c → value ≡ packed_value (packing_view p.settings) (heads_of p) x.sequence c
      → bytes_of_all y.datagrams.items ≡ bytes_of_all x.datagrams.items ++ datagram_around (packing_view p.settings) x.sequence p.timestamp marker value ∷ []
      → y.sequence ≡ (x.sequence + 1) % 2 ^ 32 → PutsDatagrams p (c ∷ []) x y
  puts_one c x y marker value marked carried put sequence = grind (arith, common_steps, one_datagram)
