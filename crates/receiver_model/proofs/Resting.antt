-- A receiver that released all that it may stands for what was heard again.
use Rattle.std.proofs.Common.{◌≡◌, ℕ, ◌+◌, Bool, true, false, refl, ap, sym, ◌∙◌, arith}
use Rattle.std.proofs.Common.{List, [], ◌∷◌, ◌++◌, Some, subst}
use Rattle.std.specs.Prelude.{is_some}
use Rattle.std.specs.List.{flat_map}
use Rattle.std.proofs.lemmas.List.{append-nil}
use Rattle.machine_model.specs.Feeders.{Feeder, let_go_pictures, is_among}
use Rattle.link_model.specs.Judgement.{outcomes_in, outcome_counts, with_pictures, with_sessions}
use Rattle.link_model.specs.Numbers.{Numbered, greatest, least, parts_of, opened_numbers}
use Rattle.link_model.specs.Output.{frame_bytes_at, planes_at, let_go_numbers, frames_so_far}
use Rattle.link_model.specs.Output.{all_frames, all_output, last_so_far, output_so_far, full_output}
use Rattle.link_model.specs.Output.{greatest_of, entered_behind}
use Rattle.link_model.specs.Session.{Session, HeardSession, just_opened, sessions_of}
use Rattle.link_model.specs.Windows.{Window, WindowPast, past_let_go, releasable_numbers, window_of}
use Rattle.link_model.specs.Windows.{new_past, new_window}
use Rattle.link_model.specs.declared.tally.Tally.{Tally}
use Rattle.link_model.proofs.SessionOutput.{opening_writes_nothing}
use Rattle.link_model.proofs.WindowNumbers.{session_greatest}
use Rattle.link_model.proofs.WindowStands.{new_stands}
use Rattle.vc_types.specs.SequenceHeader.{Sequence}
use Rattle.receiver_model.specs.Entering.{gives_up_field, greatest_in, opens_session}
use Rattle.receiver_model.specs.Receptions.{StandingSession, Reception}
use Rattle.receiver_model.specs.Releasing.{one_if}
use Rattle.receiver_model.specs.Standing.{StandsFor, standing_of, standing_with, all_released}
use Rattle.receiver_model.specs.Standing.{last_past, counts_of_sessions}
use Rattle.receiver_model.proofs.HeardMore.{written_of}
use Rattle.receiver_model.specs.Standing.{with_released}
use Rattle.receiver_model.proofs.LoneFields.{all_fields}
use Rattle.receiver_model.proofs.ReleasedNumbers.{released_rise, AreRising}
use Rattle.receiver_model.proofs.ReleaseLists.{planes_opened}
use Rattle.receiver_model.proofs.SessionPictures.{opened_among}
use Rattle.receiver_model.proofs.Starting.{tally_behind}
use Rattle.receiver_model.proofs.Tallies.{none_released}
use Rattle.receiver_model.proofs.Working.{IsWorking}

-- ---- the receiver that has released all, in the session that stands

module _ (r : Reception) (size : ℕ) (f : Feeder) (h : HeardSession) (hs : List HeardSession)
    (over : Bool) (st : StandingSession) (t : Tally)
    (works : IsWorking r size f hs (all_released (last_past size over hs h)) st t)
    (session : st.session ≡ h.session) (has_ended : st.has_ended ≡ h.has_ended)
    (tally : t ≡ tally_behind size hs f.heard) where
  abbrev p : WindowPast
  p = all_released (last_past size over hs h)

  standing_is : r.standing ≡ Some (standing_with h p)
  standing_is = grind arith

  pub all_released_is : f.released ≡ let_go_pictures size f.has_ended (sessions_of f.heard)
  all_released_is = works.released ∙ sym works.let_go

  -- before the end
  module _ (at : sessions_of f.heard ≡ h ∷ hs) (runs : over ≡ false)
      (is_over : f.has_ended ≡ over) where
    ended_not : f.has_ended ≡ false
    ended_not = is_over ∙ runs

    written_now : f.written ≡ written_of size f.has_ended f.heard
    unfolding output_so_far last_so_far frames_so_far
    written_now = grind (arith, ended_not, written_of)

    pub rest_stands : StandsFor r size f
    rest_stands =
        grind (arith, all_released_is, ended_not, is_over, standing_is, tally_behind, written_now)

  -- ---- the pictures of a session that is over

  module _ (ends : over ≡ true) where
    abbrev s : Sequence
    s = h.session.sequence

    abbrev es : List Numbered
    es = entered_behind size hs h

    all_opened : p.released ≡ opened_numbers es
    all_opened = ap (λ (b : Bool). past_let_go (last_past size b hs h)) ends

    rise : AreRising 0 (opened_numbers es)
    rise = subst (AreRising 0) (append-nil (opened_numbers es))
        (rise_with (releasable_numbers p) (subst (λ (l : List ℕ).
        AreRising 0 (l ++ releasable_numbers p)) all_opened
        (released_rise p works.window.in_order)))
      where
        front : (b : ℕ) (l more : List ℕ) → AreRising b (l ++ more) → AreRising b (l ++ [])
        front b [] more rises = tt
        front b (n ∷ l) more rises = (rises.0, front (n + 1) l more rises.1)

        rise_with : (more : List ℕ) → AreRising 0 (opened_numbers es ++ more)
            → AreRising 0 (opened_numbers es ++ [])
        rise_with more rises = front 0 (opened_numbers es) more rises

    planes_there : (k : ℕ) → is_some (planes_at s es k) ≡ true
        → is_among (opened_numbers es) k ≡ true
    planes_there k is = grind (arith, opened_among, planes_opened)

    -- the field that still waits is alone, and the counts are those of all its pictures
    counts_over : record r.counts { unpaired = r.counts.unpaired + one_if (is_some r.field) }
        ≡ with_sessions size (h ∷ hs) (outcome_counts (outcomes_in size f.heard))
    unfolding with_sessions with_pictures with_released
    counts_over = grind (arith, all_fields, rise, planes_there)

    written_over : f.written ≡ all_output size (h ∷ hs)
    unfolding all_output all_frames
    written_over = works.written ∙ ap (λ (l : List ℕ). all_output size hs
        ++ flat_map (frame_bytes_at s es) l) all_opened

    -- the next session begins
    module _ (next : Session) (at : sessions_of f.heard ≡ just_opened next ∷ h ∷ hs)
        (runs : f.has_ended ≡ false) where
      abbrev fresh : WindowPast
      fresh = all_released (last_past size false (h ∷ hs) (just_opened next))

      fresh_is : new_past next.sequence size (greatest_of size (h ∷ hs)) ≡ fresh
      unfolding let_go_numbers opened_numbers greatest least parts_of
      fresh_is = refl

      top_is : greatest_in r.standing ≡ greatest_of size (h ∷ hs)
      unfolding window_of
      top_is =
          ap greatest_in works.stands
          ∙ ap (λ (w : Window). w.top) works.window.value
          ∙ session_greatest size hs h p.released

      window_is : new_window next.sequence r.size (greatest_in r.standing) ≡ window_of fresh
      window_is = grind (arith, fresh_is, new_stands, top_is)

      written_next : f.written ≡ written_of size f.has_ended f.heard
      unfolding output_so_far
      written_next = grind (arith, opening_writes_nothing, written_of, written_over)

      counts_next : (opens_session (Some next) r).counts
          ≡ counts_of_sessions size f.has_ended (sessions_of f.heard)
          (outcome_counts (outcomes_in size f.heard))
      counts_next = grind (arith, counts_over, fresh_is, none_released)

      standing_next : (opens_session (Some next) r).standing
          ≡ standing_of size f.has_ended (sessions_of f.heard)
      standing_next = grind (arith, window_is)

      pub next_stands : StandsFor (opens_session (Some next) r) size f
      next_stands =
          grind (arith, all_released_is, counts_next, fresh_is, standing_next, written_next)

    -- or the input has ended
    module _ (at : sessions_of f.heard ≡ h ∷ hs) (is_done : f.has_ended ≡ true) where
      is_over : f.has_ended ≡ over
      is_over = is_done ∙ sym ends

      written_end : f.written ≡ written_of size f.has_ended f.heard
      unfolding full_output
      written_end = grind (arith, written_of, written_over)

      pub end_stands : StandsFor (gives_up_field r) size f
      end_stands = grind (arith, all_released_is, counts_over, is_over, standing_is, written_end)
