-- Filled frames so far begin those with one datagram more, and all of them.
use Rattle.std.proofs.Common.{◌≡◌, ℕ, refl, ap, sym, subst, ◌∙◌, List, [], ◌∷◌, ◌++◌}
use Rattle.std.proofs.Common.{Option, Some, None}
use Rattle.std.specs.Prelude.{filter_map}
use Rattle.std.specs.List.{flat_map}
use Rattle.std.specs.Option.{option_map_or}
use Rattle.std.proofs.lemmas.List.{append-nil}
use Rattle.link_model.specs.Numbers.{Numbered, base_above}
use Rattle.link_model.specs.Output.{IsPrefixOf, entered_behind, greatest_of}
use Rattle.link_model.specs.Session.{Session, HeardSession, just_opened, opens_next, with_datagram}
use Rattle.link_model.specs.Session.{last_with, hears, sessions_of, begins, fragment_in}
use Rattle.link_model.proofs.Hearing.{sessions_of_more}
use Rattle.link_model.proofs.Numbering.{entered_follows}
use Rattle.fill_model.proofs.Frames.{filled-none, filled_more}
use Rattle.fill_model.proofs.Growing.{more_written, rest_written, nothing_written}
use Rattle.fill_model.specs.Filled.{WrittenFrame, filled, filled_behind, last_frame}
use Rattle.fill_model.specs.FilledSessions.{frame_written, written_so_far, all_filled, last_filled}
use Rattle.fill_model.specs.FilledSessions.{filled_output, filled_so_far}

begins_itself : (l : List ℕ) → IsPrefixOf l l
begins_itself l = ([], sym (append-nil l))

module _ (window : ℕ) where
  -- behind these frames of a session
  abbrev behind_these : List WrittenFrame → List WrittenFrame → List ℕ
  behind_these frames more = filled_behind (last_frame None frames) more

  so_far_begins_all : (hs : List HeardSession)
      → IsPrefixOf (last_filled window hs) (all_filled window hs)
  unfolding last_filled all_filled filled_behind
  so_far_begins_all [] = ([], refl)
  so_far_begins_all (h ∷ hs) =
      let s = h.session.sequence in
      let es = entered_behind window hs h in
      let left = rest_written window s es in (
        behind_these (written_so_far window s es) (flat_map (frame_written s es) left.0),
        ap (λ (fs : List WrittenFrame). all_filled window hs ++ filled fs) left.2
            ∙ filled_more (all_filled window hs) (written_so_far window s es)
            (flat_map (frame_written s es) left.0),
      )

  last_grows : (hs : List HeardSession) (d : List ℕ)
      → IsPrefixOf (last_filled window hs) (last_filled window (last_with hs d))
  unfolding last_filled
  last_grows [] d = begins_itself (last_filled window [])
  last_grows (h ∷ hs) d =
      let s = h.session.sequence in
      let old = entered_behind window hs h in
      let new = entered_behind window hs (with_datagram h d) in
      let more = more_written window s old new
      (entered_follows (base_above (greatest_of window hs)) window h.fragments
      (filter_map (fragment_in h.session) (d ∷ []))) in (
        behind_these (written_so_far window s old) (flat_map (frame_written s new) more.0),
        ap (λ (fs : List WrittenFrame). all_filled window hs ++ filled fs) more.2
            ∙ filled_more (all_filled window hs) (written_so_far window s old)
            (flat_map (frame_written s new) more.0),
      )

  opening_is : (hs : List HeardSession) (s : Session)
      → last_filled window (just_opened s ∷ hs) ≡ all_filled window hs
  unfolding last_filled
  opening_is hs s =
      ap (λ (fs : List WrittenFrame). all_filled window hs ++ filled fs)
      (nothing_written window s.sequence)
      ∙ ap (λ (l : List ℕ). all_filled window hs ++ l) (filled-none None)
      ∙ append-nil (all_filled window hs)

  next_grows : (hs : List HeardSession) (s : Session)
      → IsPrefixOf (last_filled window hs) (last_filled window (just_opened s ∷ hs))
  next_grows hs s = let all = so_far_begins_all hs in (all.0, opening_is hs s ∙ all.1)

  hears_grows : (hs : List HeardSession) (d : List ℕ)
      → IsPrefixOf (last_filled window hs) (last_filled window (hears hs d))
  unfolding hears
  hears_grows hs d = by_next (opens_next hs (begins d))
    where
      by_next : (o : Option Session) → IsPrefixOf (last_filled window hs)
          (last_filled window (option_map_or (λ s. just_opened s ∷ hs) o (last_with hs d)))
      by_next None = last_grows hs d
      by_next (Some s) = next_grows hs s

  pub filled_grows : (datagrams : List (List ℕ)) (d : List ℕ)
      → IsPrefixOf (filled_so_far window datagrams) (filled_so_far window (datagrams ++ d ∷ []))
  unfolding filled_so_far
  filled_grows datagrams d = subst (λ (hs : List HeardSession).
      IsPrefixOf (last_filled window (sessions_of datagrams)) (last_filled window hs))
      (sym (sessions_of_more datagrams d)) (hears_grows (sessions_of datagrams) d)

  pub filled_begins_all : (datagrams : List (List ℕ))
      → IsPrefixOf (filled_so_far window datagrams) (filled_output window datagrams)
  unfolding filled_so_far filled_output
  filled_begins_all datagrams = so_far_begins_all (sessions_of datagrams)
