-- What is written of a list of datagrams begins what is written of a longer one, and all that is written in the end.
use Rattle.std.proofs.Common.{◌≡◌, ℕ, List, [], ◌∷◌, ◌++◌, Option, Some, None, refl, ap, sym, subst, ◌∙◌, filter_map, fold, flat_map, append_assoc, append-nil}
use Rattle.std.specs.Option.{option_map_or}
use Rattle.std.proofs.lemmas.List.Sums.{fold-append}
use Rattle.link_model.specs.Numbers.{Numbered, base_above}
use Rattle.link_model.specs.Output.{frame_bytes_at, all_frames, frames_so_far, greatest_of, entered_behind, all_output, last_so_far, full_output, output_so_far, IsPrefixOf}
use Rattle.link_model.specs.Session.{Session, HeardSession, just_opened, opens_next, with_datagram, last_with, hears, sessions_of, begins, fragment_in}
use Rattle.link_model.proofs.Leaving.{releases, last_releases}
use Rattle.link_model.proofs.Numbering.{Follows, entered_follows}
use Rattle.vc_types.specs.SequenceHeader.{Sequence}

-- ---- the output of what was entered

module _ (window : ℕ) (s : Sequence) where
  so_far_grows : (old new : List Numbered) → Follows window old new → IsPrefixOf (frames_so_far window s old) (frames_so_far window s new)
  so_far_grows old new later = let more = releases window s old new later in (flat_map (frame_bytes_at s new) more.0, more.2)

  so_far_begins_all : (es : List Numbered) → IsPrefixOf (frames_so_far window s es) (all_frames s es)
  so_far_begins_all es = let left = last_releases window s es in (flat_map (frame_bytes_at s es) left.0, left.2)

-- ---- the output of datagrams

begins_itself : (l : List ℕ) → IsPrefixOf l l
begins_itself l = ([], sym (append-nil l))

begins_longer : (a b c : List ℕ) → IsPrefixOf a b → IsPrefixOf b c → IsPrefixOf a c
begins_longer a b c first second = (first.0 ++ second.0, second.1 ∙ ap (λ (l : List ℕ). l ++ second.0) first.1 ∙ append_assoc a first.0 second.0)

pub begins_behind : (front a b : List ℕ) → IsPrefixOf a b → IsPrefixOf (front ++ a) (front ++ b)
begins_behind front a b begins = (begins.0, ap (λ (l : List ℕ). front ++ l) begins.1 ∙ sym (append_assoc front a begins.0))

module _ (window : ℕ) where
  -- what the last session has so far begins all that it has
  pub so_far_begins_all_output : (hs : List HeardSession) → IsPrefixOf (last_so_far window hs) (all_output window hs)
  unfolding last_so_far all_output
  so_far_begins_all_output [] = begins_itself []
  so_far_begins_all_output (h ∷ hs) = begins_behind (all_output window hs) (frames_so_far window h.session.sequence (entered_behind window hs h)) (all_frames h.session.sequence (entered_behind window hs h))
      (so_far_begins_all window h.session.sequence (entered_behind window hs h))

  -- a datagram more for the last session, or for none
  last_grows : (hs : List HeardSession) (d : List ℕ) → IsPrefixOf (last_so_far window hs) (last_so_far window (last_with hs d))
  unfolding last_so_far
  last_grows [] d = begins_itself []
  last_grows (h ∷ hs) d = begins_behind (all_output window hs) (frames_so_far window h.session.sequence (entered_behind window hs h)) (frames_so_far window h.session.sequence (entered_behind window hs (with_datagram h d)))
      (so_far_grows window h.session.sequence (entered_behind window hs h) (entered_behind window hs (with_datagram h d)) (entered_follows (base_above (greatest_of window hs)) window h.fragments (filter_map (fragment_in h.session) (d ∷ []))))

  -- or the next session
  next_grows : (hs : List HeardSession) (s : Session) → IsPrefixOf (last_so_far window hs) (last_so_far window (just_opened s ∷ hs))
  unfolding last_so_far
  next_grows hs s = begins_longer (last_so_far window hs) (all_output window hs) (last_so_far window (just_opened s ∷ hs)) (so_far_begins_all_output hs) (frames_so_far window s.sequence (entered_behind window hs (just_opened s)), refl)

  pub hears_grows : (hs : List HeardSession) (d : List ℕ) → IsPrefixOf (last_so_far window hs) (last_so_far window (hears hs d))
  unfolding hears
  hears_grows hs d = by_next (opens_next hs (begins d))
    where
      by_next : (o : Option Session) → IsPrefixOf (last_so_far window hs) (last_so_far window (option_map_or (λ s. just_opened s ∷ hs) o (last_with hs d)))
      by_next None = last_grows hs d
      by_next (Some s) = next_grows hs s

  pub sessions_grow : (hs : List HeardSession) (more : List (List ℕ)) → IsPrefixOf (last_so_far window hs) (last_so_far window (fold hears hs more))
  sessions_grow hs [] = begins_itself (last_so_far window hs)
  sessions_grow hs (d ∷ more) = begins_longer (last_so_far window hs) (last_so_far window (hears hs d)) (last_so_far window (fold hears (hears hs d) more)) (hears_grows hs d) (sessions_grow (hears hs d) more)

pub sessions_of-append : (datagrams more : List (List ℕ)) → sessions_of (datagrams ++ more) ≡ fold hears (sessions_of datagrams) more
sessions_of-append datagrams more = fold-append hears [] datagrams more

module _ (window : ℕ) (datagrams more : List (List ℕ)) where
  pub output_so_far_grows : IsPrefixOf (output_so_far window datagrams) (output_so_far window (datagrams ++ more))
  unfolding output_so_far
  output_so_far_grows = subst (λ (hs : List HeardSession). IsPrefixOf (last_so_far window (sessions_of datagrams)) (last_so_far window hs)) (sym (sessions_of-append datagrams more)) (sessions_grow window (sessions_of datagrams) more)

  pub output_so_far_begins_full : IsPrefixOf (output_so_far window datagrams) (full_output window (datagrams ++ more))
  unfolding output_so_far full_output
  output_so_far_begins_full = begins_longer (output_so_far window datagrams) (output_so_far window (datagrams ++ more)) (full_output window (datagrams ++ more)) output_so_far_grows (so_far_begins_all_output window (sessions_of (datagrams ++ more)))

pub ruleset laws = (output_so_far_grows, output_so_far_begins_full)
