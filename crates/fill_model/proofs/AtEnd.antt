-- The end of the input: what is written then is the rest of the filled frames.
use Rattle.std.proofs.Common.{◌≡◌, ℕ, ◌≤◌, false, refl, ap, sym, ◌∙◌, List, [], ◌∷◌, ◌++◌, length}
use Rattle.std.proofs.Common.{Option, None}
use Rattle.std.specs.Prelude.{drop}
use Rattle.std.specs.List.{flat_map}
use Rattle.std.specs.Option.{option_map}
use Rattle.std.proofs.Math.Seq.{drop-append_seam}
use Rattle.machine_model.specs.Feeders.{Feeder}
use Rattle.link_model.specs.Numbers.{Numbered, opened_numbers}
use Rattle.link_model.specs.Output.{let_go_numbers, entered_behind}
use Rattle.link_model.specs.Session.{HeardSession, sessions_of}
use Rattle.link_model.specs.Windows.{releasable_numbers, past_finishes}
use Rattle.receiver_model.specs.Exchanging.{Exchange, all_exchanged, dones_in}
use Rattle.receiver_model.specs.Judging.{is_over, ends_input}
use Rattle.receiver_model.specs.Receptions.{Reception}
use Rattle.receiver_model.specs.Standing.{StandsFor, AreDecodings}
use Rattle.receiver_model.proofs.Idle.{none_stands, idle_exchanged}
use Rattle.receiver_model.proofs.Starting.{past_at_rest, end_works, tally_behind}
use Rattle.vc_types.specs.SequenceHeader.{Sequence}
use Rattle.fill_model.proofs.Frames.{filled-none, filled_more}
use Rattle.fill_model.proofs.Growing.{rest_written}
use Rattle.fill_model.proofs.Runs.{idle_frames, exchanged_frames}
use Rattle.fill_model.specs.Filled.{WrittenFrame, filled, filled_behind, last_frame}
use Rattle.fill_model.specs.FilledSessions.{frame_written, all_written, written_so_far, all_filled}
use Rattle.fill_model.specs.FilledSessions.{last_written, last_filled, filled_output, filled_so_far}
use Rattle.fill_model.specs.FilledSessions.{frame_written_last}
use Rattle.fill_model.specs.ReleasedFrames.{all_released_frames, end_filled}

module _ (r : Reception) (size : ℕ) (f : Feeder) (small : size ≤ 8) (stands : StandsFor r size f)
    (runs : f.has_ended ≡ false) (xs : List Exchange) (right : AreDecodings (dones_in xs)) where
  abbrev last : Reception
  last = all_exchanged (ends_input r) xs

  abbrev Goal : Type 0
  Goal = filled_output size f.heard
      ≡ filled_so_far size f.heard ++ end_filled r xs (frame_written_last size f.heard)

  -- these frames are left
  left_over : (more : List WrittenFrame) → all_released_frames last ≡ more
      → (l : List HeardSession) → sessions_of f.heard ≡ l
      → all_filled size l
      ≡ last_filled size l ++ filled_behind (last_frame None (last_written size l)) more → Goal
  unfolding filled_output filled_so_far end_filled
  left_over more wrote l at is =
      ap (all_filled size) at
      ∙ is
      ∙ sym (ap (λ (l : List HeardSession). last_filled size l
      ++ filled_behind (last_frame None (last_written size l)) more) at)
      ∙ ap (λ (fs : List WrittenFrame). last_filled size (sessions_of f.heard)
      ++ filled_behind (frame_written_last size f.heard) fs) (sym wrote)

  -- no session came
  nothing_left : all_filled size [] ≡ last_filled size []
      ++ filled_behind (last_frame None (last_written size [])) []
  unfolding all_filled last_filled filled_behind
  nothing_left = refl

  none : sessions_of f.heard ≡ [] → Goal
  none at =
      let idle : (ends_input r).standing ≡ None =
      ap (option_map is_over) (none_stands r size f stands runs at) in
      let still : last.standing ≡ None = (idle_exchanged xs (ends_input r) idle).standing ∙ idle in
      left_over [] (idle_frames last still) [] at nothing_left

  module _ (h : HeardSession) (hs : List HeardSession) (at : sessions_of f.heard ≡ h ∷ hs) where
    abbrev s : Sequence
    s = h.session.sequence

    abbrev es : List Numbered
    es = entered_behind size hs h

    left : (rest : List ℕ)
        × (opened_numbers es ≡ let_go_numbers size s es ++ rest)
        × (all_written s es ≡ written_so_far size s es ++ flat_map (frame_written s es) rest)
    left = rest_written size s es

    abbrev more : List WrittenFrame
    more = flat_map (frame_written s es) left.0

    released : releasable_numbers (past_finishes (past_at_rest r size small f stands runs h hs at))
        ≡ left.0
    released = ap (drop (length (let_go_numbers size s es))) left.1
        ∙ drop-append_seam (let_go_numbers size s es) left.0

    wrote : all_released_frames last ≡ more
    wrote =
        exchanged_frames size hs (tally_behind size hs f.heard)
        (end_works r size small f stands runs h hs at) xs right
        ∙ ap (flat_map (frame_written s es)) released

    rest_filled : all_filled size (h ∷ hs) ≡ last_filled size (h ∷ hs)
        ++ filled_behind (last_frame None (last_written size (h ∷ hs))) more
    unfolding all_filled last_filled
    rest_filled =
        ap (λ (fs : List WrittenFrame). all_filled size hs ++ filled fs) left.2
        ∙ filled_more (all_filled size hs) (written_so_far size s es) more

    some : Goal
    some = left_over more wrote (h ∷ hs) at rest_filled

  pub ends : Goal
  ends = by_sessions (sessions_of f.heard) refl
    where
      by_sessions : (l : List HeardSession) → sessions_of f.heard ≡ l → Goal
      by_sessions [] at = none at
      by_sessions (h ∷ hs) at = some h hs at
