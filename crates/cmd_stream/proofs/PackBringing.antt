-- What the body of a picture unit is, and what packing it leaves.
use Rattle.std.proofs.Common.{◌≡◌, ◌<◌, ◌≤◌, ℕ, ◌+◌, ◌%◌, ◌^◌, List, [], ◌∷◌, ◌++◌, length, take, drop, Some, None, Result, Ok, Err, refl, ap, sym, subst, ◌∙◌, arith, length-append}
use Rattle.std.specs.Global.{Vec}
use Rattle.std.proofs.lemmas.List.{length-map}
use Rattle.byteorder.specs.Endian.{big_number}
use Rattle.link_model.specs.Kept.{next_slices}
use Rattle.stream_model.specs.Packed.{PackStream, picture_to_pack, settings_for, with_all_slices, with_packed, with_read_parameters}
use Rattle.stream_model.specs.Packing.{PackedPicture, first_large_part, packed_contents, packed_datagrams, packed_picture, packed_timestamp, slices_in, timestamp_behind}
use Rattle.stream_model.proofs.Contents.{wrapped}
use Rattle.stream_model.proofs.PackedMore.{packed_more, timestamp_more}
use Rattle.cmd_stream.specs.declared.opened.Opened.{Opened}
use Rattle.link_sender.specs.declared.refusal.SendRefusal.{SendRefusal}
use Rattle.link_sender.specs.declared.refusal.SendRefusal.TheVariants as sending
use Rattle.std.proofs.lemmas.Bool.{le-ltb, lt-ltb}
use Rattle.link_sender.specs.PackRefusals.{SaysLarge}
use Rattle.cmd_stream.specs.PackSteps.{EndsSlices, IsPackedBehind, PacksBody, of_refusal}
use Rattle.cmd_stream.specs.PackViews.{IsBehindPictures, counts_after}
use Rattle.link_sender.specs.declared.datagram.Datagram.{Datagram}
use Rattle.link_sender.specs.PackerState.{IsPacked, PackCounts, counts_behind, counts_of}
use Rattle.link_sender.specs.Views.{packed_picture_of}
use Rattle.vc_types.specs.SenderSettings.{Packing, packing_view}
use Rattle.vc_types.specs.SequenceHeader.{sequence_of}
use Rattle.vc_types.specs.Subbands.{slice_count}
use Rattle.vc_types.specs.TransformParameters.{Parameters, coded_parameters}
use Rattle.vc_types.specs.declared.refusal.ParamsRefusal.{ParamsRefusal}

-- ---- the body

module _ (t : PackStream) (body : List ℕ) where
  pub short_body : length body < 4 → picture_to_pack t body ≡ None
  unfolding picture_to_pack
  short_body short = rw (lt-ltb (length body) 4 short) refl

  read_so : 4 ≤ length body → (r : Result (Parameters × ℕ) ParamsRefusal) → coded_parameters t.sequence (drop 4 body) ≡ r → picture_to_pack t body ≡ with_read_parameters t.header (big_number 4 body) (drop 4 body) r
  unfolding picture_to_pack
  read_so long r is = rw (le-ltb (length body) 4 long) (ap (with_read_parameters t.header (big_number 4 body) (drop 4 body)) is)

  pub no_parameters : 4 ≤ length body → (refusal : ParamsRefusal) → coded_parameters t.sequence (drop 4 body) ≡ Err refusal → picture_to_pack t body ≡ None
  no_parameters long refusal is = read_so long (Err refusal) is

  module _ (long : 4 ≤ length body) (p : Parameters) (used : ℕ) (is : coded_parameters t.sequence (drop 4 body) ≡ Ok (p, used)) where
    pub missing_slices : next_slices p (slice_count p) (drop used (drop 4 body)) ≡ Err tt → picture_to_pack t body ≡ None
    missing_slices e = read_so long (Ok (p, used)) is ∙ ap (with_all_slices t.header (big_number 4 body) (take used (drop 4 body)) p) e

    pub whole_picture : (slices : List (List ℕ)) (behind : List ℕ) → next_slices p (slice_count p) (drop used (drop 4 body)) ≡ Ok (slices, behind)
        → picture_to_pack t body ≡ Some (record { number = big_number 4 body; header = t.header; coded = take used (drop 4 body); parameters = p; slices = slices })
    whole_picture slices behind e = read_so long (Ok (p, used)) is ∙ ap (with_all_slices t.header (big_number 4 body) (take used (drop 4 body)) p) e

-- ---- what is kept behind it

module _ (s : Packing) (pictures : List PackedPicture) (p : PackedPicture) (small : length pictures < 2 ^ 32) where
  abbrev at : ℕ
  at = s.seq + length (packed_datagrams s pictures)

  -- the packer's numbers give the datagrams that are due
  pub due_is : packed_picture s (counts_after s pictures).pictures (counts_after s pictures).sequence p ≡ packed_picture s (length pictures) at p
  due_is =
      let count : length pictures % 2 ^ 63 ≡ length pictures = omega (arith, small) in
      let number : at % 2 ^ 32 % 2 ^ 32 ≡ at % 2 ^ 32 = omega arith in
      ap (λ n. packed_picture s n (at % 2 ^ 32) p) count
      ∙ wrapped s (packed_timestamp s (length pictures) p.number) p (at % 2 ^ 32) at (packed_contents s p) number

  pub counts_more : (count : ℕ) → count ≡ length (packed_picture s (length pictures) at p) → counts_behind s (counts_after s pictures) p count ≡ counts_after s (pictures ++ p ∷ [])
  counts_more count counted = λ i. record { pictures = number_of i; sequence = sequence i; timestamp = timestamp i }
    where
      long : length (pictures ++ p ∷ []) ≡ length pictures + 1
      long = length-append pictures (p ∷ [])

      number_of : (length pictures % 2 ^ 63 + 1) % 2 ^ 63 ≡ length (pictures ++ p ∷ []) % 2 ^ 63
      number_of = omega (arith, long)

      sent : length (packed_datagrams s (pictures ++ p ∷ [])) ≡ length (packed_datagrams s pictures) + length (packed_picture s (length pictures) at p)
      sent = ap length (packed_more s pictures p) ∙ length-append (packed_datagrams s pictures) (packed_picture s (length pictures) at p)

      sequence : (at % 2 ^ 32 + count) % 2 ^ 32 ≡ (s.seq + length (packed_datagrams s (pictures ++ p ∷ []))) % 2 ^ 32
      sequence = omega (arith, counted, sent)

      timestamp : packed_timestamp s (length pictures % 2 ^ 63) p.number ≡ timestamp_behind s 0 0 (pictures ++ p ∷ [])
      timestamp =
          let own : length pictures % 2 ^ 63 ≡ length pictures = omega (arith, small) in
          ap (λ n. packed_timestamp s n p.number) own ∙ sym (timestamp_more s pictures p)

-- a picture that was packed behind a stream
pub packed_behind_stream : (s : Packing) (t : PackStream) (body : List ℕ) (old new : Opened) (p : PackedPicture) (datagrams : Vec Datagram)
    → IsBehindPictures s t old → length t.pictures < 2 ^ 32 → picture_to_pack t body ≡ Some p
    → IsPacked (settings_for s (Some t)) p (counts_of old.packer) (counts_of new.packer) datagrams
    → IsBehindPictures s (with_packed t p) new
    → IsPackedBehind s t body new datagrams
packed_behind_stream s t body old new p datagrams was small read packed behind =
    let own = settings_for s (Some t) in
    record {
      picture = p;
      read = read;
      fits = packed.fits;
      behind = behind;
      datagrams_are = packed.datagrams_are ∙ ap (λ (n : PackCounts). packed_picture own n.pictures n.sequence p) was.counts_are ∙ due_is own t.pictures p small;
    }

-- what is kept then
pub now_behind : (s : Packing) (t : PackStream) (old new : Opened) (p : PackedPicture) (datagrams : Vec Datagram)
    → IsBehindPictures s t old → length t.pictures < 2 ^ 32
    → IsPacked (settings_for s (Some t)) p (counts_of old.packer) (counts_of new.packer) datagrams
    → new.header ≡ old.header → new.coded.items ≡ old.coded.items → new.packer.settings ≡ old.packer.settings → new.pictures ≡ old.pictures + 1
    → IsBehindPictures s (with_packed t p) new
now_behind s t old new p datagrams was small packed header coded settings counted =
    let own = settings_for s (Some t) in
    let long = length-append t.pictures (p ∷ []) in
    let due = packed.datagrams_are ∙ ap (λ (n : PackCounts). packed_picture own n.pictures n.sequence p) was.counts_are ∙ due_is own t.pictures p small in
    let count : length datagrams.items ≡ length (packed_picture own (length t.pictures) (own.seq + length (packed_datagrams own t.pictures)) p) = sym (length-map datagrams.items (λ (d : Datagram). d.bytes.items)) ∙ ap length due in
    record {
      sequence_is = ap sequence_of header ∙ was.sequence_is;
      header_is = coded ∙ was.header_is;
      settings_are = ap packing_view settings ∙ was.settings_are;
      counts_are = packed.counts_are ∙ ap (λ (n : PackCounts). counts_behind own n p (length datagrams.items)) was.counts_are ∙ counts_more own t.pictures p small (length datagrams.items) count;
      pictures_are = omega (arith, counted, was.pictures_are, long);
    }

-- a picture that isn't packed behind it
pub unpacked_behind_stream : (s : Packing) (t : PackStream) (body : List ℕ) (new : Opened) (p : PackedPicture) → picture_to_pack t body ≡ Some p
    → (e : SendRefusal) → SaysLarge (first_large_part (settings_for s (Some t)) p) e → PacksBody s t body new (Err (of_refusal e))
unpacked_behind_stream s t body new p read (sending.SampleRange plane place value) says = absurd says
unpacked_behind_stream s t body new p read (sending.SliceTooLarge slice bytes) says = record { picture = p; read = read; part = says }
unpacked_behind_stream s t body new p read sending.NoMemory says = tt

-- ---- what a body is read as

module _ (s : Packing) (t : PackStream) (body : List ℕ) (o : Opened) (was : IsBehindPictures s t o) (long : 4 ≤ length body) (bytes : List ℕ) (back : bytes ≡ drop 4 body) where
  told : (r : Result (Parameters × ℕ) ParamsRefusal) → coded_parameters (sequence_of o.header) bytes ≡ r → coded_parameters t.sequence (drop 4 body) ≡ r
  told r is = sym (λ i. coded_parameters (was.sequence_is i) (back i)) ∙ is

  pub lacks_parameters : (refusal : ParamsRefusal) → coded_parameters (sequence_of o.header) bytes ≡ Err refusal → picture_to_pack t body ≡ None
  lacks_parameters refusal is = no_parameters t body long refusal (told (Err refusal) is)

  module _ (p : Parameters) (used : ℕ) (exact : coded_parameters (sequence_of o.header) bytes ≡ Ok (p, used)) (params behind : List ℕ) (front : params ≡ take used bytes) (rest : behind ≡ drop used bytes) where
    behind_is : behind ≡ drop used (drop 4 body)
    behind_is = rest ∙ ap (drop used) back

    params_are : params ≡ take used (drop 4 body)
    params_are = front ∙ ap (take used) back

    pub lacks_slices : EndsSlices p behind None → picture_to_pack t body ≡ None
    lacks_slices e = missing_slices t body long p used (told (Ok (p, used)) exact) (subst (λ (l : List ℕ). next_slices p (slice_count p) l ≡ Err tt) behind_is e)

    module _ (n : ℕ) (ends : EndsSlices p behind (Some n)) (number : ℕ) (number_is : number ≡ big_number 4 body) (header slices : List ℕ) (header_is : header ≡ o.coded.items) (slices_are : slices ≡ take n behind) where
      abbrev picture : PackedPicture
      picture = packed_picture_of number p header params slices

      read_picture : picture_to_pack t body ≡ Some picture
      read_picture =
          let whole = subst (λ (l : List ℕ). next_slices p (slice_count p) l ≡ Ok (slices_in p (take n behind), drop n behind)) behind_is ends.1 in
          let coded = header_is ∙ was.header_is in
          whole_picture t body long p used (told (Ok (p, used)) exact) (slices_in p (take n behind)) (drop n behind) whole
          ∙ sym (λ i. Some (packed_picture_of (number_is i) p (coded i) (params_are i) (slices_are i)))

      pub packs_picture_of : (new : Opened) (datagrams : Vec Datagram) → IsPacked (packing_view o.packer.settings) picture (counts_of o.packer) (counts_of new.packer) datagrams
          → o.pictures < 2 ^ 32 → new.header ≡ o.header → new.coded.items ≡ o.coded.items → new.packer.settings ≡ o.packer.settings → new.pictures ≡ o.pictures + 1
          → IsPackedBehind s t body new datagrams
      packs_picture_of new datagrams packed few same_header same_coded same_settings counted =
          let small : length t.pictures < 2 ^ 32 = omega (arith, few, was.pictures_are) in
          let own = subst (λ (own : Packing). IsPacked own picture (counts_of o.packer) (counts_of new.packer) datagrams) was.settings_are packed in
          packed_behind_stream s t body o new picture datagrams was small read_picture own
          (now_behind s t o new picture datagrams was small own same_header same_coded same_settings counted)

      pub refuses_picture_of : (new : Opened) (e : SendRefusal) → SaysLarge (first_large_part (packing_view o.packer.settings) picture) e → PacksBody s t body new (Err (of_refusal e))
      refuses_picture_of new e says = unpacked_behind_stream s t body new picture read_picture e (subst (λ (own : Packing). SaysLarge (first_large_part own picture) e) was.settings_are says)
