-- A datagram: what is written with repeats grows as the filled frames so far do.
use Rattle.std.proofs.Common.{◌≡◌, ℕ, ◌≤◌, false, refl, ap, sym, ◌∙◌, List, [], ◌∷◌, ◌++◌, length}
use Rattle.std.proofs.Common.{Option, Some, None, arith}
use Rattle.std.specs.Prelude.{drop, filter_map}
use Rattle.std.specs.List.{flat_map}
use Rattle.std.proofs.lemmas.List.{append-nil}
use Rattle.std.proofs.Math.Seq.{drop-append_seam}
use Rattle.machine_model.specs.Feeders.{Feeder}
use Rattle.machine_model.specs.Feeding.{hears_datagram}
use Rattle.link_model.specs.Numbers.{Numbered, base_above, opened_numbers}
use Rattle.link_model.specs.Output.{let_go_numbers, entered_behind, greatest_of}
use Rattle.link_model.specs.Session.{Session, HeardSession, just_opened, with_datagram, opens_behind}
use Rattle.link_model.specs.Session.{sessions_of, begins, hears, fragment_in}
use Rattle.link_model.specs.Windows.{releasable_numbers}
use Rattle.link_model.proofs.Hearing.{sessions_of_more, hears_nothing, hears_new}
use Rattle.link_model.proofs.Numbering.{entered_follows}
use Rattle.receiver_model.specs.Entering.{before_releases}
use Rattle.receiver_model.specs.Exchanging.{Exchange, dones_in}
use Rattle.receiver_model.specs.Judging.{session_opened, opens_after, keeps_datagram}
use Rattle.receiver_model.specs.Receptions.{StandingSession, Reception}
use Rattle.receiver_model.specs.Standing.{StandsFor, AreDecodings}
use Rattle.receiver_model.proofs.Idle.{none_stands, idle_exchanged}
use Rattle.receiver_model.proofs.Starting.{past_now, past_over, opened_is, sessions_now}
use Rattle.receiver_model.proofs.Starting.{sessions_next, next_works, datagram_works, tally_behind}
use Rattle.vc_types.specs.SequenceHeader.{Sequence}
use Rattle.fill_model.proofs.Frames.{filled-none, last-none, last-append, filled_more}
use Rattle.fill_model.proofs.Growing.{more_written, rest_written, nothing_written}
use Rattle.fill_model.proofs.Runs.{idle_frames, exchanged_frames}
use Rattle.fill_model.specs.Filled.{WrittenFrame, filled, filled_behind, last_frame}
use Rattle.fill_model.specs.FilledSessions.{frame_written, all_written, written_so_far, all_filled}
use Rattle.fill_model.specs.FilledSessions.{last_written, filled_before_last, last_filled}
use Rattle.fill_model.specs.FilledSessions.{filled_so_far, frame_written_last}
use Rattle.fill_model.specs.ReleasedFrames.{datagram_frames, unless_opened, last_behind}
use Rattle.fill_model.specs.ReleasedFrames.{datagram_filled}

module _ (r : Reception) (size : ℕ) (f : Feeder) (small : size ≤ 8) (stands : StandsFor r size f)
    (runs : f.has_ended ≡ false) (xs : List Exchange) (right : AreDecodings (dones_in xs))
    (d : List ℕ) where
  abbrev now : List (List ℕ)
  now = f.heard ++ d ∷ []

  abbrev before : Reception
  before = before_releases r d xs

  abbrev old_frames : List WrittenFrame
  old_frames = last_written size (sessions_of f.heard)

  pub record Grown : Type 0 where
    pub last : last_behind r d xs (frame_written_last size f.heard) ≡ frame_written_last size now
    pub bytes : filled_so_far size now
        ≡ filled_so_far size f.heard ++ datagram_filled r d xs (frame_written_last size f.heard)

  -- these frames are written, and a session may open
  module _ (more : List WrittenFrame) (o : Option Session) (wrote : datagram_frames r d xs ≡ more)
      (opened : session_opened r d ≡ o)
      (last : unless_opened o (last_frame None (old_frames ++ more)) ≡ frame_written_last size now)
      (bytes : last_filled size (sessions_of now) ≡ last_filled size (sessions_of f.heard)
      ++ filled_behind (frame_written_last size f.heard) more) where
    last_is : last_behind r d xs (frame_written_last size f.heard) ≡ frame_written_last size now
    unfolding last_behind
    last_is =
        ap (λ (o : Option Session). unless_opened o (last_frame (frame_written_last size f.heard)
        (datagram_frames r d xs))) opened
        ∙ ap (λ (l : List WrittenFrame).
        unless_opened o (last_frame (frame_written_last size f.heard) l)) wrote
        ∙ ap (unless_opened o) (sym (last-append None old_frames more))
        ∙ last

    bytes_are : filled_so_far size now
        ≡ filled_so_far size f.heard ++ datagram_filled r d xs (frame_written_last size f.heard)
    unfolding filled_so_far datagram_filled
    bytes_are = bytes ∙ ap (λ (l : List WrittenFrame). last_filled size (sessions_of f.heard)
        ++ filled_behind (frame_written_last size f.heard) l) (sym wrote)

    so_grown : Grown
    so_grown = record { last = last_is; bytes = bytes_are }

  -- frames of the session that goes on
  stays_filled : (l m : List HeardSession) (more : List WrittenFrame)
      → filled_before_last size m ≡ filled_before_last size l
      → last_written size m ≡ last_written size l ++ more
      → last_filled size m
      ≡ last_filled size l ++ filled_behind (last_frame None (last_written size l)) more
  unfolding last_filled
  stays_filled l m more same grown =
      ap (λ (b : List ℕ). b ++ filled (last_written size m)) same
      ∙ ap (λ (fs : List WrittenFrame). filled_before_last size l ++ filled fs) grown
      ∙ filled_more (filled_before_last size l) (last_written size l) more

  goes_on : (more : List WrittenFrame) → datagram_frames r d xs ≡ more → session_opened r d ≡ None
      → filled_before_last size (sessions_of now) ≡ filled_before_last size (sessions_of f.heard)
      → last_written size (sessions_of now) ≡ old_frames ++ more → Grown
  goes_on more wrote opened same grown = so_grown more None wrote opened
      (ap (last_frame None) (sym grown))
      (stays_filled (sessions_of f.heard) (sessions_of now) more same grown)

  -- ---- before a session stands

  module _ (at : sessions_of f.heard ≡ []) where
    none_standing : r.standing ≡ None
    none_standing = none_stands r size f stands runs at

    still_none : before.standing ≡ None
    unfolding keeps_datagram
    still_none = grind (arith, idle_exchanged, none_standing)

    writes_none : datagram_frames r d xs ≡ []
    unfolding datagram_frames
    writes_none = idle_frames before still_none

    opened_first : session_opened r d ≡ begins d
    opened_first = ap (λ (o : Option StandingSession). opens_after o (begins d)) none_standing

    heard_first : sessions_of now ≡ hears [] d
    heard_first = sessions_of_more f.heard d ∙ ap (λ (l : List HeardSession). hears l d) at

    early : begins d ≡ None → Grown
    early none =
        let same : sessions_of now ≡ sessions_of f.heard = heard_first ∙ hears_nothing d none ∙ sym at in
        goes_on [] writes_none (opened_first ∙ none) (ap (filled_before_last size) same)
        (ap (last_written size) same ∙ sym (append-nil old_frames))

    -- or the first one opens
    module _ (s : Session) (opens : begins d ≡ Some s) where
      sessions_first : sessions_of now ≡ just_opened s ∷ []
      sessions_first = heard_first ∙ hears_new [] d s opens

      none_yet : last_written size (sessions_of now) ≡ []
      none_yet = ap (last_written size) sessions_first ∙ nothing_written size s.sequence

      nothing_filled : last_filled size (just_opened s ∷ []) ≡ []
      unfolding last_filled all_filled
      nothing_filled =
          ap filled (nothing_written size s.sequence) ∙ filled-none None

      none_before : last_filled size [] ≡ []
      unfolding last_filled
      none_before = filled-none None

      same_bytes : last_filled size (sessions_of now) ≡ last_filled size (sessions_of f.heard)
          ++ filled_behind (frame_written_last size f.heard) []
      same_bytes =
          ap (last_filled size) sessions_first
          ∙ nothing_filled
          ∙ sym (ap (λ (l : List ℕ). l ++ filled_behind (frame_written_last size f.heard) [])
          (ap (last_filled size) at ∙ none_before) ∙ filled-none (frame_written_last size f.heard))

      first : Grown
      first = so_grown [] (Some s) writes_none (opened_first ∙ opens)
          (sym (ap (last_frame None) none_yet ∙ last-none None)) same_bytes

  -- ---- with a session that stands

  module _ (h : HeardSession) (hs : List HeardSession) (at : sessions_of f.heard ≡ h ∷ hs) where
    abbrev s : Sequence
    s = h.session.sequence

    abbrev old : List Numbered
    old = entered_behind size hs h

    old_is : old_frames ≡ written_so_far size s old
    old_is = ap (last_written size) at

    -- it goes on
    module _ (none : opens_behind h (begins d) ≡ None) where
      abbrev new : List Numbered
      new = entered_behind size hs (with_datagram h d)

      sessions_then : sessions_of now ≡ with_datagram h d ∷ hs
      sessions_then = sessions_now r size small f stands runs h hs at d none

      shown : (rest : List ℕ)
          × (let_go_numbers size s new ≡ let_go_numbers size s old ++ rest)
          × (written_so_far size s new
          ≡ written_so_far size s old ++ flat_map (frame_written s new) rest)
      shown = more_written size s old new
          (entered_follows (base_above (greatest_of size hs)) size h.fragments
          (filter_map (fragment_in h.session) (d ∷ [])))

      released : releasable_numbers (past_now r size small f stands runs h hs at d none) ≡ shown.0
      released = ap (drop (length (let_go_numbers size s old))) shown.1
          ∙ drop-append_seam (let_go_numbers size s old) shown.0

      wrote : datagram_frames r d xs ≡ flat_map (frame_written s new) shown.0
      unfolding datagram_frames
      wrote =
          exchanged_frames size hs (tally_behind size hs now)
          (datagram_works r size small f stands runs h hs at d none) xs right
          ∙ ap (flat_map (frame_written s new)) released

      on : Grown
      on = goes_on (flat_map (frame_written s new) shown.0) wrote
          (opened_is r size small f stands runs h hs at d ∙ none)
          (ap (filled_before_last size) sessions_then ∙ sym (ap (filled_before_last size) at))
          (ap (last_written size) sessions_then ∙ shown.2
          ∙ ap (λ (l : List WrittenFrame). l ++ flat_map (frame_written s new) shown.0) (sym old_is))

    -- or the next one opens
    module _ (t : Session) (opens : opens_behind h (begins d) ≡ Some t) where
      sessions_two : sessions_of now ≡ just_opened t ∷ h ∷ hs
      sessions_two = sessions_next r size small f stands runs h hs at d t opens

      left : (rest : List ℕ)
          × (opened_numbers old ≡ let_go_numbers size s old ++ rest)
          × (all_written s old ≡ written_so_far size s old ++ flat_map (frame_written s old) rest)
      left = rest_written size s old

      abbrev more : List WrittenFrame
      more = flat_map (frame_written s old) left.0

      released_over : releasable_numbers (past_over r size small f stands runs h hs at d t opens)
          ≡ left.0
      released_over = ap (drop (length (let_go_numbers size s old))) left.1
          ∙ drop-append_seam (let_go_numbers size s old) left.0

      wrote_over : datagram_frames r d xs ≡ more
      unfolding datagram_frames
      wrote_over =
          exchanged_frames size hs (tally_behind size hs now)
          (next_works r size small f stands runs h hs at d t opens) xs right
          ∙ ap (flat_map (frame_written s old)) released_over

      none_yet_next : last_written size (sessions_of now) ≡ []
      none_yet_next = ap (last_written size) sessions_two ∙ nothing_written size t.sequence

      over_filled : last_filled size (just_opened t ∷ h ∷ hs)
          ≡ last_filled size (h ∷ hs) ++ filled_behind (last_frame None (last_written size (h ∷ hs))) more
      unfolding last_filled all_filled
      over_filled =
          ap (λ (fs : List WrittenFrame). (all_filled size hs ++ filled (all_written s old)) ++ filled fs)
          (nothing_written size t.sequence)
          ∙ ap (λ (l : List ℕ). (all_filled size hs ++ filled (all_written s old)) ++ l) (filled-none None)
          ∙ append-nil (all_filled size hs ++ filled (all_written s old))
          ∙ ap (λ (fs : List WrittenFrame). all_filled size hs ++ filled fs) left.2
          ∙ filled_more (all_filled size hs) (written_so_far size s old) more

      bytes_over : last_filled size (sessions_of now) ≡ last_filled size (sessions_of f.heard)
          ++ filled_behind (frame_written_last size f.heard) more
      bytes_over =
          ap (last_filled size) sessions_two
          ∙ over_filled
          ∙ sym (ap (λ (l : List HeardSession). last_filled size l
          ++ filled_behind (last_frame None (last_written size l)) more) at)

      next : Grown
      next = so_grown more (Some t) wrote_over
          (opened_is r size small f stands runs h hs at d ∙ opens)
          (sym (ap (last_frame None) none_yet_next ∙ last-none None)) bytes_over

  pub grows : Grown
  grows = by_sessions (sessions_of f.heard) refl
    where
      by_first : sessions_of f.heard ≡ [] → (o : Option Session) → begins d ≡ o → Grown
      by_first at None none = early at none
      by_first at (Some s) opens = first at s opens

      by_next : (h : HeardSession) (hs : List HeardSession) → sessions_of f.heard ≡ h ∷ hs
          → (o : Option Session) → opens_behind h (begins d) ≡ o → Grown
      by_next h hs at None none = on h hs at none
      by_next h hs at (Some s) opens = next h hs at s opens

      by_sessions : (l : List HeardSession) → sessions_of f.heard ≡ l → Grown
      by_sessions [] at = by_first at (begins d) refl
      by_sessions (h ∷ hs) at = by_next h hs at (opens_behind h (begins d)) refl
