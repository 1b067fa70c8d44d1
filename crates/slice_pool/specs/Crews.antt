-- What a caller sees of a crew.
use Rattle.std.specs.Prelude.{◌≡◌, ℕ, false, replicate}
use Rattle.claim_board.specs.Calls.{AreEmpty}
use Rattle.claim_board.specs.Feeders.{feeder_bound, form_sees, left_in}
use Rattle.claim_board.specs.declared.feeder.BoardFeeder.{BoardFeeder}
use Rattle.slice_pool.specs.declared.crew.Crew.{Crew}
use Rattle.slice_pool.specs.declared.team.Stage.{Stage}
use Rattle.slice_pool.specs.declared.team.Stage.TheVariants.{Free, Alone, Working}

-- no workers were started, or none were asked for, or some work at the board of this form
pub data CrewState : Type 0 where
  NotStarted : CrewState
  WithoutWorkers : CrewState
  AtWork : BoardFeeder → CrewState

abbrev pub state_at : Stage → CrewState
state_at Free = NotStarted
state_at Alone = WithoutWorkers
state_at (Working team) = AtWork team.form

abbrev pub crew_at : {H F : Type 0} → Crew H F → CrewState
crew_at c = state_at c.stage

-- the number of places
abbrev pub bound_at : CrewState → ℕ
bound_at (AtWork form) = feeder_bound form
bound_at state = 0

-- the form of a new board of so many places
pub record IsNewForm (places : ℕ) (form : BoardFeeder) : Type 0 where
  pub bound : feeder_bound form ≡ places
  pub empty : AreEmpty places (form_sees form)
  pub left : left_in form ≡ replicate places false

-- workers were started at a new board of so many places
abbrev pub IsAtWork : ℕ → CrewState → Type 0
IsAtWork places (AtWork form) = IsNewForm places form
IsAtWork places state = ⊥

-- a call of places: with workers it is the form's, else this is the answer, and the crew is as it
-- was
abbrev pub HandsOn : (BoardFeeder → BoardFeeder → Type 0) → Type 0 → CrewState → CrewState → Type 0
HandsOn with_form without (AtWork old) (AtWork new) = with_form old new
HandsOn with_form without (AtWork old) new = ⊥
HandsOn with_form without old new = without × (new ≡ old)
