-- The counts of outcomes are the tally's, whatever becomes of the pictures, and the frames are
-- those that are in the output so far.
use Rattle.std.proofs.Common.{◌≡◌, ℕ, ◌+◌, false, refl, ap, ◌∙◌, arith, List, [], ◌∷◌}
use Rattle.std.specs.Prelude.{fold}
use Rattle.link_model.specs.Judgement.{with_pictures, with_sessions, tally_of, with_outcome}
use Rattle.link_model.specs.Numbers.{Numbered}
use Rattle.link_model.specs.Output.{entered_behind}
use Rattle.link_model.specs.Session.{HeardSession, sessions_of}
use Rattle.link_model.specs.declared.outcome.Outcome.{Outcome}
use Rattle.link_model.specs.declared.outcome.Outcome.TheVariants as outcomes
use Rattle.link_model.specs.declared.tally.Tally.{Tally}
use Rattle.vc_types.specs.SequenceHeader.{Sequence}
use Rattle.receiver_model.specs.Receptions.{Reception}
use Rattle.receiver_model.specs.Standing.{StandsForHeard, with_released, counts_of_sessions}
use Rattle.receiver_model.specs.Standing.{with_picture_counts, frames_of_sessions, frames_written}

-- counts that differ in those of pictures alone
abbrev IsSameBut : Tally → Tally → Type 0
IsSameBut t u = u ≡ with_picture_counts t u

but_sessions : (size : ℕ) (hs : List HeardSession) (t : Tally)
    → IsSameBut t (with_sessions size hs t)
unfolding with_sessions with_pictures
but_sessions size [] t = refl
but_sessions size (h ∷ hs) t = ap
    (with_pictures h.session.sequence (entered_behind size hs h)) (but_sessions size hs t)

but_released : (s : Sequence) (es : List Numbered) (ns : List ℕ) (t u : Tally) → IsSameBut t u
    → IsSameBut t (with_released s es ns u)
unfolding with_released
but_released s es ns t u same = ap (with_released s es ns) same

but_so_far : (size : ℕ) (hs : List HeardSession) (t : Tally)
    → IsSameBut t (counts_of_sessions size false hs t)
but_so_far size [] t = refl
but_so_far size (h ∷ hs) t = but_released _ _ _ t (with_sessions size hs t)
    (but_sessions size hs t)

pub outcomes_counted : (r : Reception) (size : ℕ) (datagrams : List (List ℕ))
    → StandsForHeard r size datagrams false
    → r.counts ≡ with_picture_counts (tally_of size datagrams) r.counts
unfolding tally_of
outcomes_counted r size datagrams stands = grind (arith, but_sessions, but_so_far)

-- ---- frames

outcome_frames : (t : Tally) (o : Outcome) → (with_outcome t o).frames ≡ t.frames
outcome_frames t outcomes.RtpShort = refl
outcome_frames t other = refl

all_outcomes_frames : (os : List Outcome) (t : Tally) → (fold with_outcome t os).frames ≡ t.frames
all_outcomes_frames [] t = refl
all_outcomes_frames (o ∷ os) t =
    all_outcomes_frames os (with_outcome t o) ∙ outcome_frames t o

sessions_frames : (size : ℕ) (hs : List HeardSession) (t : Tally)
    → (with_sessions size hs t).frames ≡ t.frames + frames_of_sessions size hs
unfolding with_sessions with_pictures frames_of_sessions
sessions_frames size [] t = omega arith
sessions_frames size (h ∷ hs) t = omega (arith, sessions_frames size hs t)

so_far_frames : (size : ℕ) (hs : List HeardSession) (t : Tally)
    → (counts_of_sessions size false hs t).frames ≡ t.frames + frames_written size hs
unfolding with_released
so_far_frames size [] t = omega arith
so_far_frames size (h ∷ hs) t = omega (arith, sessions_frames size hs t)

pub frames_counted : (r : Reception) (size : ℕ) (datagrams : List (List ℕ))
    → StandsForHeard r size datagrams false
    → r.counts.frames ≡ frames_written size (sessions_of datagrams)
frames_counted r size datagrams stands = grind (arith, all_outcomes_frames, so_far_frames)
