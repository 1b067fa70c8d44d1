-- Before a session stands a receiver has nothing to do but to judge.
use Rattle.std.proofs.Common.{◌≡◌, ℕ, false, refl, ap, sym, subst, ◌∙◌}
use Rattle.std.proofs.Common.{List, [], ◌∷◌, ◌++◌, length, Option, Some, None, arith}
use Rattle.std.specs.List.{flat_map}
use Rattle.std.specs.Option.{option_map_or}
use Rattle.machine_model.specs.Feeders.{Feeder, session_opening, kept_job, let_go_pictures}
use Rattle.machine_model.specs.Feeders.{slice_job, not_released, releasable}
use Rattle.machine_model.specs.Feeding.{takes_answer}
use Rattle.link_model.specs.Judgement.{outcomes_in, outcome_counts}
use Rattle.machine_model.specs.Next.{feeder_run, all_releasing, releasing, taken_back}
use Rattle.link_model.specs.Output.{last_so_far, output_so_far}
use Rattle.machine_model.specs.Places.{Answered}
use Rattle.link_model.specs.Session.{Session, just_opened, sessions_of}
use Rattle.receiver_model.specs.Exchanging.{Exchange, Proposed, Fetched, Withdrawn, Made, all_exchanged}
use Rattle.receiver_model.specs.Exchanging.{back_from, out_at, takes_done, takes_dones}
use Rattle.receiver_model.specs.Receptions.{RunOut, StandingSession, Reception}
use Rattle.receiver_model.specs.Releasing.{releases_up_to, bytes_up_to, releases_all}
use Rattle.receiver_model.specs.Releasing.{all_released_bytes}
use Rattle.receiver_model.specs.Standing.{StandsFor}
use Rattle.receiver_model.proofs.HeardMore.{written_of}
use Rattle.receiver_model.proofs.SessionPictures.{session_opens}

-- ---- the receiver

-- all but the slices that are out
pub record IsSame (r v : Reception) : Type 0 where
  pub size : v.size ≡ r.size
  pub standing : v.standing ≡ r.standing
  pub counts : v.counts ≡ r.counts
  pub answers : v.answers ≡ r.answers
  pub field : v.field ≡ r.field
  pub ended : v.has_ended ≡ r.has_ended

unwanted : (r : Reception) (done : Answered) → r.standing ≡ None → takes_done r done ≡ r
unfolding takes_done
unwanted r done none = grind arith

all_unwanted : (r : Reception) (dones : List Answered) → r.standing ≡ None → takes_dones r dones ≡ r
all_unwanted r [] none = refl
all_unwanted r (done ∷ dones) none =
    ap (λ (v : Reception). takes_dones v dones) (unwanted r done none) ∙ all_unwanted r dones none

-- what is out makes no difference
but_out : (r v : Reception) (out : List RunOut) → IsSame (record r { out = out }) v → IsSame r v
but_out r v out same = record {
  size = same.size;
  standing = same.standing;
  counts = same.counts;
  answers = same.answers;
  field = same.field;
  ended = same.ended;
}

pub idle_exchanged : (xs : List Exchange) (r : Reception) → r.standing ≡ None
    → IsSame r (all_exchanged r xs)
idle_exchanged [] r none = grind arith
idle_exchanged (Proposed jobs None ∷ xs) r none = idle_exchanged xs r none
idle_exchanged (Proposed jobs (Some place) ∷ xs) r none =
    let out : List RunOut = r.out ++ out_at jobs place ∷ [] in
    but_out r _ out (idle_exchanged xs (record r { out = out }) none)
idle_exchanged (Fetched place None ∷ xs) r none = idle_exchanged xs r none
idle_exchanged (Fetched place (Some dones) ∷ xs) r none =
    subst (λ (v : Reception). IsSame r (all_exchanged v xs)) (sym (all_unwanted (back_from r place) dones none))
    (but_out r _ (back_from r place).out (idle_exchanged xs (back_from r place) none))
idle_exchanged (Withdrawn place ∷ xs) r none =
    but_out r _ (back_from r place).out (idle_exchanged xs (back_from r place) none)
idle_exchanged (Made dones ∷ xs) r none =
    subst (λ (v : Reception). IsSame r (all_exchanged v xs)) (sym (all_unwanted r dones none))
    (idle_exchanged xs r none)

pub nothing_released : (r : Reception) → r.standing ≡ None → releases_all r ≡ r
unfolding releases_up_to
nothing_released r none = ap (λ (o : Option StandingSession). releases_up_to
    (option_map_or (λ st. length st.window.books) o 0) r) none

pub nothing_written : (r : Reception) → r.standing ≡ None → all_released_bytes r ≡ []
unfolding bytes_up_to
nothing_written r none = ap (λ (o : Option StandingSession). bytes_up_to
    (option_map_or (λ st. length st.window.books) o 0) r) none

-- ---- the feeder

-- no picture keeps anything, and none is let go
pub record IsIdle (size : ℕ) (f : Feeder) : Type 0 where
  pub none_kept : (n i : ℕ) → slice_job size f n i ≡ None
  pub none_gone : let_go_pictures size f.has_ended (sessions_of f.heard) ≡ []

module _ (size : ℕ) (f : Feeder) (idle : IsIdle size f) where
  unused : (done : Answered) → takes_answer size f done ≡ f
  unused done = grind arith

  all_unused : (dones : List Answered) → taken_back size f dones ≡ f
  all_unused [] = refl
  all_unused (done ∷ dones) =
      ap (λ (g : Feeder). taken_back size g dones) (unused done) ∙ all_unused dones

  none_releasable : releasable size f ≡ []
  none_releasable = ap (not_released f.released) idle.none_gone

  pub idle_releasable : (dones : List Answered) → releasable size (taken_back size f dones) ≡ []
  idle_releasable dones = ap (λ (g : Feeder). releasable size g) (all_unused dones)
      ∙ none_releasable

  stays_idle : feeder_run size f (all_releasing size f) ≡ f
  stays_idle = ap (λ (l : List ℕ). feeder_run size f
      (flat_map (releasing size f) (not_released f.released l))) idle.none_gone

  pub idle_feeder : (dones : List Answered) → feeder_run size (taken_back size f dones)
      (all_releasing size (taken_back size f dones)) ≡ f
  idle_feeder dones = ap (λ (g : Feeder). feeder_run size g (all_releasing size g))
      (all_unused dones) ∙ stays_idle

pub nothing_kept : (size n i : ℕ) → kept_job size [] n i ≡ None
unfolding kept_job session_opening
nothing_kept size n i = refl

no_session : (size n : ℕ) → session_opening size [] n ≡ None
unfolding session_opening
no_session size n = refl

pub nothing_kept_yet : (size : ℕ) (s : Session) (n i : ℕ)
    → kept_job size (just_opened s ∷ []) n i ≡ None
unfolding kept_job
nothing_kept_yet size s n i = grind (arith, no_session, session_opens)

-- ---- while no session stands

module _ (r : Reception) (size : ℕ) (f : Feeder) (stands : StandsFor r size f)
    (runs : f.has_ended ≡ false) (at : sessions_of f.heard ≡ []) where
  pub none_stands : r.standing ≡ None
  none_stands = grind arith

  pub no_field : r.field ≡ None
  no_field = grind arith

  pub counts_are : r.counts ≡ outcome_counts (outcomes_in size f.heard)
  counts_are = grind arith

  pub none_gone : f.released ≡ []
  unfolding let_go_pictures
  none_gone = grind arith

  pub none_written : f.written ≡ []
  unfolding output_so_far last_so_far
  none_written = grind (arith, written_of)
