-- The end of a sequence, written behind a stream.
use Rattle.std.proofs.Common.{◌≡◌, ℕ, ◌+◌, ◌%◌, ◌^◌, List, [], ◌∷◌, ◌++◌, length, Option, Some, None, refl, ap, sym, ◌∙◌, subst, arith}
use Rattle.link_outside.specs.Outlets.{capture_of}
use Rattle.stream_model.specs.Packed.{PackStream, pictures_packed, settings_for, stream_packed, whole_packed}
use Rattle.stream_model.specs.Packing.{end_around, packed_datagrams, packed_end, timestamp_behind}
use Rattle.stream_model.proofs.Contents.{end_wrapped}
use Rattle.link_sender.specs.declared.datagram.Datagram.{Datagram}
use Rattle.stream_model.specs.Packing.{datagram_around}
use Rattle.cmd_stream.specs.declared.opened.Opened.{Opened}
use Rattle.cmd_stream.specs.declared.stream.StreamPacker.{StreamPacker}
use Rattle.cmd_stream.specs.declared.totals.Totals.{Totals}
use Rattle.cmd_stream.specs.Counted.{packed_totals, packed_totals_with}
use Rattle.cmd_stream.specs.PackSteps.{CouldNotFinish, HasFinished}
use Rattle.cmd_stream.specs.PackViews.{IsBehindPictures, IsBehindUnits, IsOpened, counts_after}
use Rattle.cmd_stream.proofs.Starting.{counts_none}
use Rattle.link_sender.specs.declared.packer.Packer.{Packer}
use Rattle.cmd_stream.proofs.Counting.{totals_are}
use Rattle.cmd_stream.proofs.SoFarPacked.{end_packed, whole_is}
use Rattle.link_sender.specs.PackerState.{EndsPacking, PackCounts, counts_of}
use Rattle.vc_ports.specs.Writing.{Grew, GrewBySome}
use Rattle.vc_types.specs.SenderSettings.{Packing, packing_view}

module _ (s : Packing) (stream : Option PackStream) where
  abbrev own : Packing
  own = settings_for s stream

  abbrev at : ℕ
  at = own.seq + length (packed_datagrams own (pictures_packed stream))

  pub end_due : (old : PackCounts) → old ≡ counts_after own (pictures_packed stream) → end_around own old.sequence old.timestamp ≡ end_packed s stream
  unfolding packed_end
  end_due old is =
      let wraps : at % 2 ^ 32 % 2 ^ 32 ≡ at % 2 ^ 32 = omega arith in
      ap (λ (n : PackCounts). end_around own n.sequence n.timestamp) is
      ∙ end_wrapped own (timestamp_behind own 0 0 (pictures_packed stream)) (at % 2 ^ 32) at wraps

  module _ (before after : Option (List ℕ)) (end : List ℕ) (due : end ≡ end_packed s stream) where
    totals_whole : (old new : Totals) → old ≡ packed_totals (stream_packed s stream) → new ≡ packed_totals_with old (end ∷ []) → new ≡ packed_totals (whole_packed s stream)
    totals_whole old new is step =
        step
        ∙ ap (λ (t : Totals). packed_totals_with t (end ∷ [])) is
        ∙ totals_are (stream_packed s stream) (end ∷ [])
        ∙ ap (λ (l : List ℕ). packed_totals (stream_packed s stream ++ l ∷ [])) due
        ∙ ap packed_totals (sym (whole_is s stream))

    pub has_finished : (old new : Totals) (pictures : ℕ) → old ≡ packed_totals (stream_packed s stream) → new ≡ packed_totals_with old (end ∷ []) → pictures ≡ length (pictures_packed stream)
        → Grew before after (capture_of (end ∷ [])) → HasFinished s stream before after pictures new.datagrams new.bytes
    has_finished old new pictures is step counted grew =
        let totals = totals_whole old new is step in
        record {
          end = end_packed s stream;
          grows = whole_is s stream;
          grew = subst (λ (l : List ℕ). Grew before after (capture_of (l ∷ []))) due grew;
          pictures_are = counted;
          datagrams_are = ap (λ (t : Totals). t.datagrams) totals;
          bytes_are = ap (λ (t : Totals). t.bytes) totals;
        }

    pub could_not_finish : GrewBySome before after (capture_of (end ∷ [])) → CouldNotFinish s stream before after
    could_not_finish grew = record {
      end = end_packed s stream;
      grows = whole_is s stream;
      grew = subst (λ (l : List ℕ). GrewBySome before after (capture_of (l ∷ []))) due grew;
    }

-- ---- what is kept tells the end

pub record Ends (s : Packing) (stream : Option PackStream) (pictures : ℕ) (end : List ℕ) (totals : Totals) : Type 0 where
  pub counted : pictures ≡ length (pictures_packed stream)
  pub due : end ≡ end_packed s stream
  pub totals_are : totals ≡ packed_totals (stream_packed s stream)

pub ends_some : (s : Packing) (stream : Option PackStream) (old : StreamPacker) (o : Opened) → IsBehindUnits s stream old → old.stream ≡ Some o
    → (new : PackCounts) (end : Datagram) → EndsPacking (packing_view o.packer.settings) (counts_of o.packer) new end
    → (pictures : ℕ) (totals : Totals) → pictures ≡ o.pictures → totals ≡ old.totals → Ends s stream pictures end.bytes.items totals
ends_some s None old o was is new end ends pictures totals counted same = absurd (subst (IsOpened s None) is was.opened)
ends_some s (Some t) old o was is new end ends pictures totals counted same =
    let behind : IsBehindPictures s t o = subst (IsOpened s (Some t)) is was.opened in
    record {
      counted = counted ∙ behind.pictures_are;
      due =
          ends.datagram_is
          ∙ ap (λ (p : Packing). end_around p o.packer.sequence o.packer.timestamp) behind.settings_are
          ∙ end_due s (Some t) (counts_of o.packer) behind.counts_are;
      totals_are = same ∙ was.totals_are;
    }

-- an end tells nothing of fields
same_end : (s : Packing) (number timestamp : ℕ) → end_around s number timestamp ≡ end_around (settings_for s None) number timestamp
unfolding end_around datagram_around
same_end s number timestamp = refl

pub ends_none : (s : Packing) (stream : Option PackStream) (old : StreamPacker) → IsBehindUnits s stream old → old.stream ≡ None
    → (p : Packer) (new : PackCounts) (end : Datagram) → p.settings ≡ old.settings → counts_of p ≡ record { pictures = 0; sequence = old.settings.seq; timestamp = 0 }
    → EndsPacking (packing_view p.settings) (counts_of p) new end
    → (pictures : ℕ) (totals : Totals) → pictures ≡ 0 → totals ≡ old.totals → Ends s stream pictures end.bytes.items totals
ends_none s (Some t) old was is p new end settings counts ends pictures totals counted same = absurd (subst (IsOpened s (Some t)) is was.opened)
ends_none s None old was is p new end settings counts ends pictures totals counted same =
    let own : packing_view p.settings ≡ s = ap packing_view settings ∙ was.settings_are in
    let seq : old.settings.seq ≡ s.seq = ap (λ (q : Packing). q.seq) was.settings_are in
    let begun : counts_of p ≡ counts_after (settings_for s None) [] = counts ∙ ap (λ (n : ℕ). record { pictures = 0; sequence = n; timestamp = 0 }) seq ∙ counts_none (settings_for s None) was.seq_fits in
    record {
      counted = counted;
      due =
          ends.datagram_is
          ∙ ap (λ (q : Packing). end_around q p.sequence p.timestamp) own
          ∙ same_end s p.sequence p.timestamp
          ∙ end_due s None (counts_of p) begun;
      totals_are = same ∙ was.totals_are;
    }
