-- What is written as a datagram comes, as the next session opens, and as the input ends.
use Rattle.std.proofs.Common.{◌≡◌, ℕ, List, [], ◌∷◌, ◌++◌, refl, ap, sym, ◌∙◌, filter_map, flat_map, append_assoc, append-nil}
use Rattle.link_model.specs.Numbers.{greatest, least, base_above, parts_of, opened_numbers}
use Rattle.link_model.specs.Output.{let_go_numbers, frame_bytes_at, frames_so_far, greatest_of, entered_behind, all_output, last_so_far}
use Rattle.link_model.specs.Session.{Session, HeardSession, just_opened, with_datagram, fragment_in}
use Rattle.link_model.proofs.Leaving.{releases_of, last_releases}
use Rattle.vc_types.specs.SequenceHeader.{Sequence}

module _ (window : ℕ) where
  nothing_let_go : (s : Sequence) → let_go_numbers window s [] ≡ []
  unfolding let_go_numbers opened_numbers greatest least parts_of
  nothing_let_go s = refl

  nothing_so_far : (s : Sequence) → frames_so_far window s [] ≡ []
  unfolding frames_so_far
  nothing_so_far s = ap (flat_map (frame_bytes_at s [])) (nothing_let_go s)

  -- a session that has just opened writes nothing
  pub opening_writes_nothing : (hs : List HeardSession) (s : Session) → last_so_far window (just_opened s ∷ hs) ≡ all_output window hs
  unfolding last_so_far
  opening_writes_nothing hs s = ap (λ (l : List ℕ). all_output window hs ++ l) (nothing_so_far s.sequence) ∙ append-nil (all_output window hs)

  module _ (hs : List HeardSession) (h : HeardSession) where
    -- a datagram of the last session writes the pictures that it lets go
    pub datagram_writes : (d : List ℕ) → (rest : List ℕ) × (let_go_numbers window h.session.sequence (entered_behind window hs (with_datagram h d)) ≡ let_go_numbers window h.session.sequence (entered_behind window hs h) ++ rest)
        × (last_so_far window (with_datagram h d ∷ hs) ≡ last_so_far window (h ∷ hs) ++ flat_map (frame_bytes_at h.session.sequence (entered_behind window hs (with_datagram h d))) rest)
    unfolding last_so_far
    datagram_writes d =
        let more = releases_of (base_above (greatest_of window hs)) window h.session.sequence h.fragments (filter_map (fragment_in h.session) (d ∷ [])) in (
          more.0,
          more.1,
          ap (λ (l : List ℕ). all_output window hs ++ l) more.2 ∙ sym (append_assoc (all_output window hs) (frames_so_far window h.session.sequence (entered_behind window hs h)) (flat_map (frame_bytes_at h.session.sequence (entered_behind window hs (with_datagram h d))) more.0)),
        )

    -- where the next one opens, or the input ends, it writes those that are left
    pub end_writes : (rest : List ℕ) × (opened_numbers (entered_behind window hs h) ≡ let_go_numbers window h.session.sequence (entered_behind window hs h) ++ rest)
        × (all_output window (h ∷ hs) ≡ last_so_far window (h ∷ hs) ++ flat_map (frame_bytes_at h.session.sequence (entered_behind window hs h)) rest)
    unfolding last_so_far all_output
    end_writes =
        let left = last_releases window h.session.sequence (entered_behind window hs h) in (
          left.0,
          left.1,
          ap (λ (l : List ℕ). all_output window hs ++ l) left.2 ∙ sym (append_assoc (all_output window hs) (frames_so_far window h.session.sequence (entered_behind window hs h)) (flat_map (frame_bytes_at h.session.sequence (entered_behind window hs h)) left.0)),
        )

pub ruleset laws = (opening_writes_nothing, datagram_writes, end_writes)
