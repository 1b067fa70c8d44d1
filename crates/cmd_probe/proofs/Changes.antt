-- A list in which one element is changed.
use Rattle.std.proofs.Common.{◌≡◌, ◌<◌, ◌≤◌, ℕ, zero, suc, List, [], ◌∷◌, ◌++◌, Option, Some, None, length, get_or, set, refl, ap, ◌∙◌}
use Rattle.std.proofs.lemmas.Bool.{lt-ltb, le-ltb}
use Rattle.std.specs.Prelude.{position, slice_index_or, true, false}
use Rattle.link_model.specs.Packets.{RtpPacket}
use Rattle.cmd_probe.specs.Changing.{changed_at}
use Rattle.cmd_probe.specs.Sources.{Probed, is_source, source_from, with_one, with_packet}
use Rattle.cmd_probe.specs.Steps.{has_ticks, once_more, with_step}
use Rattle.cmd_probe.specs.declared.source.Source.{Source}
use Rattle.cmd_probe.specs.declared.steps.Step.{Step}

set_changed : {A : Type 0} (change : A → A) (xs : List A) (i : ℕ) (d : A)
    → set xs i (change (get_or xs i d)) ≡ changed_at change i xs
set_changed change [] i d = refl
set_changed change (x ∷ xs) zero d = refl
set_changed change (x ∷ xs) (suc i) d = ap (λ (ys : List _). x ∷ ys) (set_changed change xs i d)

-- ---- a step that came

module _ (steps : List Step) (ticks place : ℕ) (d after : Step) where
  pub counted : position (has_ticks ticks) steps ≡ Some place → d ≡ slice_index_or steps place d
      → after ≡ once_more d → set steps place after ≡ with_step steps ticks
  unfolding with_step
  counted found read more =
      rw found (ap (set steps place) (more ∙ ap once_more read) ∙ set_changed once_more steps place d)

-- ---- a packet more

module _ (x : Probed) (p : RtpPacket) (datagram : List ℕ) where
  abbrev next : Source → Source
  next s = with_packet s p datagram

  abbrev of_sources : List Source → Probed
  of_sources sources = record { sources = sources; others = x.others }

  -- of a source that is known
  pub known : (place : ℕ) (d after : Source) → position (is_source p.ssrc) x.sources ≡ Some place
      → d ≡ slice_index_or x.sources place d → after ≡ next d
      → of_sources (set x.sources place after) ≡ with_one x p datagram
  unfolding with_one
  known place d after found read taken =
      rw found (ap of_sources
      (ap (set x.sources place) (taken ∙ ap next read) ∙ set_changed next x.sources place d))

  -- of a new one
  pub began : (after : Source) → position (is_source p.ssrc) x.sources ≡ None → length x.sources < 64
      → after ≡ next (source_from p) → of_sources (x.sources ++ after ∷ []) ≡ with_one x p datagram
  unfolding with_one
  began after none few taken =
      rw (none, lt-ltb (length x.sources) 64 few)
      (ap (λ (s : Source). of_sources (x.sources ++ s ∷ [])) taken)

  -- of one too many
  pub past : position (is_source p.ssrc) x.sources ≡ None → 64 ≤ length x.sources
      → record x { others = true } ≡ with_one x p datagram
  unfolding with_one
  past none many = rw (none, le-ltb (length x.sources) 64 many) refl
