-- A sequence header behind a stream: the first, or one of the same value.
use Rattle.std.proofs.Common.{◌≡◌, ℕ, Bool, true, cond, List, take, [], Option, Some, None, Ok, Err, ap, sym, ◌∙◌, subst}
use Rattle.stream_model.specs.Packed.{BadUnit, PackStream, packs_header, settings_for}
use Rattle.cmd_stream.specs.declared.opened.Opened.{Opened}
use Rattle.cmd_stream.specs.declared.stream.StreamPacker.{StreamPacker}
use Rattle.cmd_stream.specs.Counted.{packed_totals}
use Rattle.cmd_stream.specs.PackViews.{IsBehindPictures, IsBehindUnits, IsOpened}
use Rattle.cmd_stream.proofs.SoFarPacked.{header_same}
use Rattle.cmd_stream.proofs.Starting.{counts_none}
use Rattle.link_sender.specs.declared.packer.Packer.{Packer}
use Rattle.link_sender.specs.PackerState.{counts_of}
use Rattle.vc_types.specs.SameValues.{same_sequence}
use Rattle.vc_types.specs.SenderSettings.{Packing, packing_view}
use Rattle.vc_types.specs.SequenceHeader.{Sequence, coded_header, sequence_of}

abbrev Comes : Packing → Option PackStream → List ℕ → StreamPacker → Type 0
Comes s stream body new = (next : Option PackStream) × (packs_header stream body (coded_header body) ≡ Ok next) × IsBehindUnits s next new

pub first_header : (s : Packing) (stream : Option PackStream) (old : StreamPacker) → IsBehindUnits s stream old → old.stream ≡ None
    → (body : List ℕ) (read : Sequence) (used : ℕ) → coded_header body ≡ Ok (read, used)
    → (new : StreamPacker) (o : Opened) → new.settings ≡ old.settings → new.stream ≡ Some o → new.totals ≡ old.totals
    → sequence_of o.header ≡ read → o.coded.items ≡ take used body
    → packing_view o.packer.settings ≡ record (packing_view old.settings) { fields = read.fields }
    → counts_of o.packer ≡ record { pictures = 0; sequence = old.settings.seq; timestamp = 0 } → o.pictures ≡ 0
    → Comes s stream body new
first_header s None old was is body read used found new o settings opened totals header coded packer counts pictures =
    let t : PackStream = record { sequence = read; header = take used body; pictures = [] } in
    let next : packs_header None body (coded_header body) ≡ Ok (Some t) = ap (packs_header None body) found in
    let own : packing_view o.packer.settings ≡ settings_for s (Some t) = packer ∙ ap (λ (p : Packing). record p { fields = read.fields }) was.settings_are in
    let seq : old.settings.seq ≡ s.seq = ap (λ (p : Packing). p.seq) was.settings_are in (
      Some t,
      next,
      record {
        settings_are = ap packing_view settings ∙ was.settings_are;
        seq_fits = was.seq_fits;
        opened = subst (IsOpened s (Some t)) (sym opened) (record {
          sequence_is = header;
          header_is = coded;
          settings_are = own;
          counts_are = counts ∙ ap (λ (n : ℕ). record { pictures = 0; sequence = n; timestamp = 0 }) seq ∙ counts_none (settings_for s (Some t)) was.seq_fits;
          pictures_are = pictures;
        });
        totals_are = totals ∙ was.totals_are ∙ ap packed_totals (sym (header_same s None body (coded_header body) (Some t) next));
      },
    )
first_header s (Some t) old was is body read used found new o settings opened totals header coded packer counts pictures = absurd (subst (IsOpened s (Some t)) is was.opened)

pub next_header : (s : Packing) (stream : Option PackStream) (old : StreamPacker) (kept : Opened) → IsBehindUnits s stream old → old.stream ≡ Some kept
    → (body : List ℕ) (read : Sequence) (used : ℕ) → coded_header body ≡ Ok (read, used) → same_sequence (sequence_of kept.header) read ≡ true
    → (new : StreamPacker) (o : Opened) → new.settings ≡ old.settings → new.stream ≡ Some o → new.totals ≡ old.totals
    → o.header ≡ kept.header → o.coded.items ≡ take used body → o.packer ≡ kept.packer → o.pictures ≡ kept.pictures
    → Comes s stream body new
next_header s None old kept was is body read used found same new o settings opened totals header coded packer pictures = absurd (subst (IsOpened s None) is was.opened)
next_header s (Some t) old kept was is body read used found same new o settings opened totals header coded packer pictures =
    let behind : IsBehindPictures s t kept = subst (IsOpened s (Some t)) is was.opened in
    let u : PackStream = record t { header = take used body } in
    let told : same_sequence t.sequence read ≡ true = sym (ap (λ (q : Sequence). same_sequence q read) behind.sequence_is) ∙ same in
    let next : packs_header (Some t) body (coded_header body) ≡ Ok (Some u) = ap (packs_header (Some t) body) found ∙ ap (λ (b : Bool). cond b (Ok (Some u)) (Err BadUnit)) told in (
      Some u,
      next,
      record {
        settings_are = ap packing_view settings ∙ was.settings_are;
        seq_fits = was.seq_fits;
        opened = subst (IsOpened s (Some u)) (sym opened) (record {
          sequence_is = ap sequence_of header ∙ behind.sequence_is;
          header_is = coded;
          settings_are = ap (λ (p : Packer). packing_view p.settings) packer ∙ behind.settings_are;
          counts_are = ap counts_of packer ∙ behind.counts_are;
          pictures_are = pictures ∙ behind.pictures_are;
        });
        totals_are = totals ∙ was.totals_are ∙ ap packed_totals (sym (header_same s (Some t) body (coded_header body) (Some u) next));
      },
    )
