-- What a unit behind a stream comes to, by its code.
use Rattle.std.proofs.Common.{◌≡◌, ◌≢◌, ℕ, List, [], Option, Some, None, Result, Ok, Err, refl, ap, sym, ◌∙◌, subst, append-nil}
use Rattle.std.specs.Global.{Vec}
use Rattle.link_outside.specs.Outlets.{capture_of}
use Rattle.link_sender.specs.declared.datagram.Datagram.{Datagram}
use Rattle.link_sender.specs.Packing.{bytes_of_all}
use Rattle.stream_model.specs.Packed.{PackStream, if_it_fits, if_it_is_whole, packs_unit, picture_to_pack, stream_packed, with_packed}
use Rattle.cmd_stream.specs.declared.pack_fault.UnitRefusal.{UnitRefusal}
use Rattle.cmd_stream.specs.declared.pack_fault.UnitRefusal.TheVariants as refusals
use Rattle.cmd_stream.specs.declared.opened.Opened.{Opened}
use Rattle.cmd_stream.specs.declared.stream.StreamPacker.{StreamPacker}
use Rattle.cmd_stream.specs.Counted.{packed_totals, packed_totals_with}
use Rattle.cmd_stream.specs.PackSteps.{BringsUnit, IsPackedBehind, PacksBody, TakesHeader, TakesUnit, next_packed}
use Rattle.cmd_stream.specs.PackViews.{IsBehindPictures, IsBehindUnits, IsOpened}
use Rattle.cmd_stream.proofs.Counting.{totals_are}
use Rattle.cmd_stream.proofs.SoFarPacked.{header_same, of_header, of_low, of_other, of_picture, picture_more}
use Rattle.vc_ports.specs.Writing.{Grew, GrewBySome}
use Rattle.vc_ports.proofs.Growing.{Grew-none}
use Rattle.vc_types.specs.DataUnits.{DataUnit}
use Rattle.vc_types.specs.SenderSettings.{Packing}
use Rattle.vc_types.specs.SequenceHeader.{coded_header}

-- ---- headers, and units that bring nothing

module _ (s : Packing) (stream : Option PackStream) (u : DataUnit) (new : StreamPacker) (held : Option (List ℕ)) where
  pub takes_header : u.code ≡ 0 → (result : Result (Unit {0}) UnitRefusal) → TakesHeader s stream u.body new result → TakesUnit s stream u new held held result
  takes_header code (Ok done) (next, is, behind) = (
    record {
      next = next;
      due = [];
      taken = of_header s stream u code ∙ is;
      grows = header_same s stream u.body (coded_header u.body) next is ∙ sym (append-nil (stream_packed s stream));
    },
    behind,
    Grew-none held,
  )
  takes_header code (Err refusals.Bad) is = (of_header s stream u code ∙ is, refl)
  takes_header code (Err (refusals.TooLarge slice bytes)) is = absurd is
  takes_header code (Err refusals.WriteFault) is = absurd is
  takes_header code (Err refusals.NoMemory) is = absurd is

  pub takes_low : u.code ≡ 0xC8 → TakesUnit s stream u new held held (Err refusals.Bad)
  takes_low code = (of_low s stream u code, refl)

  pub takes_other : u.code ≢ 0 → u.code ≢ 0xE8 → u.code ≢ 0xC8 → IsBehindUnits s stream new
      → TakesUnit s stream u new held held (Ok tt)
  takes_other header picture low behind = (
    record {
      next = stream;
      due = [];
      taken = of_other s stream u header picture low;
      grows = sym (append-nil (stream_packed s stream));
    },
    behind,
    Grew-none held,
  )

-- ---- pictures

abbrev Behind : Packing → Option PackStream → Opened → Type 0
Behind s stream o = (t : PackStream) × (stream ≡ Some t) × IsBehindPictures s t o

pub opened_some : (s : Packing) (stream : Option PackStream) (o : Opened) → IsOpened s stream (Some o) → Behind s stream o
opened_some s None o h = absurd h
opened_some s (Some t) o h = (t, refl, h)

pub opened_none : (s : Packing) (stream : Option PackStream) → IsOpened s stream None → stream ≡ None
opened_none s None h = refl
opened_none s (Some t) h = absurd h

pub takes_none : (s : Packing) (stream : Option PackStream) (u : DataUnit) (new : StreamPacker) (held : Option (List ℕ)) → u.code ≡ 0xE8 → stream ≡ None → TakesUnit s stream u new held held (Err refusals.Bad)
takes_none s stream u new held code none = rw none (of_picture s None u code, refl)

module _ (s : Packing) (t : PackStream) (u : DataUnit) (code : u.code ≡ 0xE8) where
  picture_is : packs_unit s (Some t) u ≡ if_it_is_whole s t (picture_to_pack t u.body)
  picture_is = of_picture s (Some t) u code

  pub brings_picture : (o : Opened) (datagrams : Vec Datagram) → IsPackedBehind s t u.body o datagrams → BringsUnit s (Some t) u
  brings_picture o datagrams p = record {
    next = Some (with_packed t p.picture);
    due = next_packed s t p.picture;
    taken = picture_is ∙ ap (if_it_is_whole s t) p.read ∙ ap (if_it_fits t p.picture) p.fits;
    grows = picture_more s t p.picture;
  }

  module _ (before after : Option (List ℕ)) where
    pub takes_written : (o : Opened) (datagrams : Vec Datagram) (old new : StreamPacker) → (p : IsPackedBehind s t u.body o datagrams) → IsBehindUnits s (Some t) old
        → new.settings ≡ old.settings → new.stream ≡ Some o → new.totals ≡ packed_totals_with old.totals (bytes_of_all datagrams.items)
        → Grew before after (capture_of (bytes_of_all datagrams.items)) → TakesUnit s (Some t) u new before after (Ok tt)
    unfolding brings_picture
    takes_written o datagrams old new p was settings opened totals grew = (
      brings_picture o datagrams p,
      record {
        settings_are = rw settings was.settings_are;
        seq_fits = was.seq_fits;
        opened = subst (IsOpened s (Some (with_packed t p.picture))) (sym opened) p.behind;
        totals_are =
            totals
            ∙ (λ i. packed_totals_with (was.totals_are i) (p.datagrams_are i))
            ∙ totals_are (stream_packed s (Some t)) (next_packed s t p.picture)
            ∙ ap packed_totals (sym (picture_more s t p.picture));
      },
      subst (λ (l : List (List ℕ)). Grew before after (capture_of l)) p.datagrams_are grew,
    )

    pub takes_unwritten : (o : Opened) (datagrams : Vec Datagram) (new : StreamPacker) → (p : IsPackedBehind s t u.body o datagrams)
        → GrewBySome before after (capture_of (bytes_of_all datagrams.items)) → TakesUnit s (Some t) u new before after (Err refusals.WriteFault)
    unfolding brings_picture
    takes_unwritten o datagrams new p grew = (brings_picture o datagrams p, subst (λ (l : List (List ℕ)). GrewBySome before after (capture_of l)) p.datagrams_are grew)

  pub takes_unpacked : (o : Opened) (new : StreamPacker) (held : Option (List ℕ)) (refusal : UnitRefusal) → PacksBody s t u.body o (Err refusal) → TakesUnit s (Some t) u new held held (Err refusal)
  takes_unpacked o new held refusals.Bad none = (picture_is ∙ ap (if_it_is_whole s t) none, refl)
  takes_unpacked o new held (refusals.TooLarge slice bytes) large = (picture_is ∙ ap (if_it_is_whole s t) large.read ∙ ap (if_it_fits t large.picture) large.part, refl)
  takes_unpacked o new held refusals.WriteFault none = absurd none
  takes_unpacked o new held refusals.NoMemory any = refl

-- ---- by what packing its picture came to

module _ (s : Packing) (stream : Option PackStream) (u : DataUnit) (old new : StreamPacker) (o o′ : Opened) (was : IsBehindUnits s stream old) (is : old.stream ≡ Some o) (code : u.code ≡ 0xE8) where
  behind : Behind s stream o
  behind = opened_some s stream o (subst (IsOpened s stream) is was.opened)

  abbrev Packs : Result (Vec Datagram) UnitRefusal → Type 0
  Packs result = (t : PackStream) → IsBehindPictures s t o → PacksBody s t u.body o′ result

  pub takes_refused : (held : Option (List ℕ)) (refusal : UnitRefusal) → Packs (Err refusal) → TakesUnit s stream u new held held (Err refusal)
  takes_refused held refusal packs =
      subst (λ (t : Option PackStream). TakesUnit s t u new held held (Err refusal)) (sym behind.1) (takes_unpacked s behind.0 u code o′ new held refusal (packs behind.0 behind.2))

  module _ (before after : Option (List ℕ)) (datagrams : Vec Datagram) (packs : Packs (Ok datagrams)) where
    pub takes_unput : GrewBySome before after (capture_of (bytes_of_all datagrams.items)) → TakesUnit s stream u new before after (Err refusals.WriteFault)
    takes_unput grew =
        subst (λ (t : Option PackStream). TakesUnit s t u new before after (Err refusals.WriteFault)) (sym behind.1) (takes_unwritten s behind.0 u code before after o′ datagrams new (packs behind.0 behind.2) grew)

    pub takes_packed : new.settings ≡ old.settings → new.stream ≡ Some o′ → new.totals ≡ packed_totals_with old.totals (bytes_of_all datagrams.items)
        → Grew before after (capture_of (bytes_of_all datagrams.items)) → TakesUnit s stream u new before after (Ok tt)
    takes_packed settings opened totals grew =
        subst (λ (t : Option PackStream). TakesUnit s t u new before after (Ok tt)) (sym behind.1)
        (takes_written s behind.0 u code before after o′ datagrams old new (packs behind.0 behind.2) (subst (λ (t : Option PackStream). IsBehindUnits s t old) behind.1 was) settings opened totals grew)
