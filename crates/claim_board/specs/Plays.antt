-- What each step tells its caller: of the step, the seat before it, the word that was found, and
-- the seat behind it.
use Rattle.std.specs.Prelude.{◌≡◌, ◌≢◌, ℕ, ◌+◌, ◌*◌, ◌%◌, ◌<◌, ◌≤◌, ◌^◌, List, [], ◌∷◌, true}
use Rattle.std.specs.Prelude.{Some, None}
use Rattle.atomic_table.specs.Table.{Me, Step}
use Rattle.vc_slice.specs.declared.run.RunLoad.{RunLoad}
use Rattle.claim_board.specs.History.{waiting_word}
use Rattle.claim_board.specs.Views.{SeatView, DidOnce, lane_at, lanes_back}
use Rattle.claim_board.specs.declared.cargo.Cargo.{Cargo}
use Rattle.claim_board.specs.declared.cargo.Cargo.TheVariants.{Waiting, Finished}
use Rattle.claim_board.specs.declared.view.Deed.{Deed}
use Rattle.claim_board.specs.declared.view.Deed.TheVariants.{WasRead, WasFetched, WasPut, WasClaimed}
use Rattle.claim_board.specs.declared.view.Deed.TheVariants.{WasCompleted, WasTaken, WasWithdrawn}
use Rattle.claim_board.specs.Rule.{Slot}

-- a seat: its view, and the slots that are out with it, each with its place; the one taken last
-- comes first
abbrev pub SeatState : Type 0
SeatState = Me Slot SeatView

-- slots that are out, and empty
abbrev pub empty_slots : List ℕ → List (ℕ × Slot)
empty_slots [] = []
empty_slots (place ∷ places) = (place, None) ∷ empty_slots places

-- a step, and the slots behind it
abbrev pub StepsLeaving : SeatState → SeatState → Deed → List (ℕ × Slot) → Type 0
StepsLeaving old new deed slots = DidOnce old.0 new.0 deed × (new.1 ≡ slots)

abbrev pub tells_load : Step Slot → SeatState → ℕ → SeatState → Type 0
tells_load step old found new = StepsLeaving old new (WasRead step.word found) old.1

abbrev pub tells_fetch : Step Slot → SeatState → ℕ → SeatState → Type 0
tells_fetch step old found new = StepsLeaving old new (WasFetched step.word) ((step.word, None) ∷ old.1)

-- the job of the slot taken last was put, and the answer there given
abbrev pub HasPutOf : ℕ → SeatView → SeatState → List (ℕ × Slot) → Type 0
HasPutOf place v new ((slot, Some (Waiting serial load)) ∷ rest) =
    DidOnce v new.0 (WasPut place load.job) × (new.1 ≡ rest)
HasPutOf place v new slots = Unit {0}

abbrev pub HasGivenOf : ℕ → SeatView → SeatState → List (ℕ × Slot) → Type 0
HasGivenOf place v new ((slot, Some (Finished serial done)) ∷ rest) =
    DidOnce v new.0 (WasCompleted place serial done) × (new.1 ≡ rest)
HasGivenOf place v new slots = Unit {0}

abbrev pub tells_put : Step Slot → SeatState → ℕ → SeatState → Type 0
tells_put step old found new = HasPutOf step.word old.0 new old.1

abbrev pub tells_complete : Step Slot → SeatState → ℕ → SeatState → Type 0
tells_complete step old found new = HasGivenOf step.word old.0 new old.1

-- a claim that was made: the slot has the run
pub record HasClaimed (place serial : ℕ) (old new : SeatState) : Type 0 where
  pub load : RunLoad
  pub did : StepsLeaving old new (WasClaimed place serial load.job)
      ((place, Some (Waiting serial load)) ∷ old.1)
  pub small : serial ≤ 2 ^ 61

abbrev pub tells_claim : Step Slot → SeatState → ℕ → SeatState → Type 0
tells_claim step old found new =
    (found ≡ step.first → (serial : ℕ) → step.first ≡ waiting_word serial
    → HasClaimed step.word serial old new)
    × (found ≢ step.first → StepsLeaving old new (WasRead step.word found) old.1)

-- what the feeder did, where it has this back
abbrev pub deed_back : ℕ → ℕ → Cargo → Deed
deed_back place serial (Waiting stamp load) = WasWithdrawn place serial load.job
deed_back place serial (Finished stamp done) = WasTaken place serial done

-- the state of a place where this lies
abbrev pub lying_state : Cargo → ℕ
lying_state (Waiting stamp job) = 1
lying_state (Finished stamp done) = 3

-- the serial that it is stamped with
abbrev pub stamp_of : Cargo → ℕ
stamp_of (Waiting stamp job) = stamp
stamp_of (Finished stamp done) = stamp

-- a place that was out was taken back: its slot has what lay there, stamped with its serial
pub record HasTakenBack (place serial state : ℕ) (old new : SeatState) : Type 0 where
  pub cargo : Cargo
  pub lay : lying_state cargo ≡ state
  pub stamped : stamp_of cargo ≡ serial
  pub did : StepsLeaving old new (deed_back place serial cargo) ((place, Some cargo) ∷ old.1)
  pub empty : new.0.lanes ≡ lanes_back old.0.lanes place
  pub out : (lane_at old.0 place).is_out ≡ true

-- where the feeder's compare of a word of its own serial fails, the word isn't in this state at all
abbrev pub tells_back : Step Slot → SeatState → ℕ → SeatState → Type 0
tells_back step old found new = (serial state : ℕ) → state < 4 → step.first ≡ 4 * serial + state
    → (found ≡ step.first → HasTakenBack step.word serial state old new)
    × (found ≢ step.first
    → StepsLeaving old new (WasRead step.word found) old.1 × (found % 4 ≢ state))
