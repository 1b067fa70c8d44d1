-- A sender's pictures are sent as the packer's.
use Rattle.std.proofs.Common.{◌≡◌, ℕ, ◌+◌, ◌%◌, ◌^◌, Bool, true, false, cond, List, [], ◌∷◌, ◌++◌, map, refl, sym, ap, ◌∙◌, arith, eqb-true, None}
use Rattle.std.proofs.lemmas.List.{length-map}
use Rattle.link_model.specs.Packets.{End, Params, rtp_header}
use Rattle.link_model.specs.Sending.{DatagramContent, HeaderContent, ParametersContent, SlicesContent, EndContent, content_value, datagrams_from, flags_byte, has_marker, high_half, number_bits, outgoing, run_value, sent_datagram, sent_head, sent_packet, sent_value, timestamp_of}
use Rattle.link_model.specs.SendingPictures.{sent_header, sent_parameter_bytes, sent_parameters}
use Rattle.stream_model.specs.Packing.{PackedPicture, contents_from, datagram_around, end_around, ends_picture, packed_flags, packed_head, packed_value, first_large_part, packed_contents, packed_timestamp}
use Rattle.link_sender.specs.declared.outbox.Outbox.{Outbox}
use Rattle.link_sender.specs.declared.picture.Picture.{Picture}
use Rattle.link_sender.specs.Packing.{Appends, IsPictureAt, bytes_of_all, datagram_with, packing_of}
use Rattle.link_sender.specs.Puts.{PutsDatagrams}
use Rattle.vc_types.specs.SenderSettings.{Sending, Packing, packing_view}
use Rattle.vc_types.specs.Settings.{first_picture_fits}
use Rattle.stream_model.proofs.Contents.{how_many}
use Rattle.link_sender.specs.PackerState.{IsPacked, PackCounts}
use Rattle.link_sender.specs.Views.{heads_of, packed_view}

module _ (s : Sending) (picture : ℕ) (fits : first_picture_fits s.frames.fields s.picture ≡ true) where
  abbrev sent_picture : PackedPicture
  sent_picture = record {
    number = number_bits s picture;
    header = sent_header s;
    coded = sent_parameter_bytes s;
    parameters = sent_parameters s;
    slices = [];
  }

  -- the first picture's number is even, where there are two fields
  same_flags : packed_flags (packing_of s) (number_bits s picture) ≡ flags_byte s picture
  same_flags = by_fields s.frames.fields fits
    where
      by_fields : (fields : Bool) → first_picture_fits fields s.picture ≡ true → cond fields (2 + number_bits s picture % 2) 0 ≡ cond fields (2 + picture % 2) 0
      by_fields true even = omega (arith, eqb-true (s.picture % 2) 0 even)
      by_fields false even = refl

  same_head : (n : ℕ) → packed_head (packing_of s) sent_picture n ≡ sent_head s n picture
  unfolding sent_parameters
  same_head n = λ i. record { high = high_half n; flags = same_flags i; number = number_bits s picture; prefix = s.prefix; scaler = s.scaler }

  same_value : (n : ℕ) (c : DatagramContent) → packed_value (packing_of s) sent_picture n c ≡ content_value s n picture c
  unfolding sent_parameters
  same_value n ParametersContent = ap (λ h. Params h 16 (sent_parameter_bytes s)) (same_head n)
  same_value n (SlicesContent run) = ap (λ h. run_value s h run) (same_head n)
  same_value n c = refl

  same_marker : (c : DatagramContent) → ends_picture (sent_parameters s) c ≡ has_marker s c
  unfolding sent_parameters
  same_marker HeaderContent = refl
  same_marker ParametersContent = refl
  same_marker (SlicesContent run) = refl
  same_marker EndContent = refl

  same_datagram : (n : ℕ) (c : DatagramContent) → datagram_around (packing_of s) n (timestamp_of s picture) (ends_picture (sent_parameters s) c) (packed_value (packing_of s) sent_picture n c) ≡ sent_datagram s n (outgoing picture c)
  unfolding datagram_around sent_datagram sent_packet sent_value rtp_header
  same_datagram n c = λ i. datagram_with s n (timestamp_of s picture) (same_marker c i) (same_value n c i)

  sent_as_packed : (n : ℕ) (cs : List DatagramContent) → contents_from (packing_of s) (timestamp_of s picture) sent_picture n cs ≡ datagrams_from s n (map (outgoing picture) cs)
  unfolding contents_from datagrams_from
  sent_as_packed n [] = refl
  sent_as_packed n (c ∷ cs) = λ i. same_datagram n c i ∷ sent_as_packed (n + 1) cs i

  pub appends_packed : (p : Picture) (cs : List DatagramContent) (x y : Outbox) → IsPictureAt s picture p → PutsDatagrams p cs x y → Appends s (map (outgoing picture) cs) x y
  appends_packed p cs x y is puts = record {
    datagrams_are =
        puts.datagrams_are
        ∙ ap (λ l. bytes_of_all x.datagrams.items ++ l)
        ((λ i. contents_from (is.settings_are i) (is.timestamp_is i) (record {
          number = is.number_is i;
          header = is.header_is i;
          coded = is.coded_are i;
          parameters = is.parameters_are i;
          slices = [];
        }) x.sequence cs)
        ∙ sent_as_packed x.sequence cs);
    number_is = puts.sequence_is ∙ ap (λ k. (x.sequence + k) % 2 ^ 32) (sym (length-map cs (outgoing picture)));
  }

pub end_as_packed : (s : Sending) (n t : ℕ) → end_around (packing_of s) n t ≡ datagram_with s n t false (End (high_half n))
unfolding end_around datagram_around
end_as_packed s n t = refl

-- ---- a packer

module _ (p : Picture) (slices : List ℕ) (x y : Outbox) (pictures time : ℕ) where
  abbrev s : Packing
  s = packing_view p.settings

  abbrev old : PackCounts
  old = record { pictures = pictures; sequence = x.sequence; timestamp = time }

  abbrev new : PackCounts
  new = record { pictures = (pictures + 1) % 2 ^ 63; sequence = y.sequence; timestamp = p.timestamp }

  same_one : (n : ℕ) (c : DatagramContent) → packed_value s (heads_of p) n c ≡ packed_value s (packed_view p slices) n c
  same_one n HeaderContent = refl
  same_one n ParametersContent = refl
  same_one n (SlicesContent run) = refl
  same_one n EndContent = refl

  -- no datagram says more of a picture than its heads and what it carries
  same_heads : (n : ℕ) (cs : List DatagramContent) → contents_from s p.timestamp (heads_of p) n cs ≡ contents_from s p.timestamp (packed_view p slices) n cs
  unfolding contents_from
  same_heads n [] = refl
  same_heads n (c ∷ cs) = λ i. datagram_around s n p.timestamp (ends_picture (heads_of p).parameters c) (same_one n c i) ∷ same_heads (n + 1) cs i

  pub is_packed : first_large_part s (packed_view p slices) ≡ None → PutsDatagrams p (packed_contents s (packed_view p slices)) x y → x.datagrams.items ≡ [] → p.timestamp ≡ packed_timestamp s pictures p.number → IsPacked s (packed_view p slices) old new y.datagrams
  is_packed fits puts none stamped = grind (arith, length-map, how_many, same_heads x.sequence (packed_contents s (packed_view p slices)))
