-- What the laws of histories speak of.
use Rattle.std.specs.Prelude.{◌≡◌, ℕ, All, Bool, true, false, ◌&&◌}
use Rattle.std.specs.Prelude.{◌==◌, List, [], ◌∷◌, Some, slice_set}
use Rattle.std.specs.List.{count_by}
use mathlib.Core.Option.{some}
use lib.ListN.{get_elem?}
use Rattle.machine_model.specs.Feeders.{slice_job}
use Rattle.machine_model.specs.Machine as machine
use Rattle.machine_model.specs.Machine.{Event, Put, Machine, happens, is_legal_on_places}
use Rattle.machine_model.specs.Places.{JobPlace, may_put}
use Rattle.link_slices.specs.Jobs.{jobs_of_run}
use Rattle.claim_board.specs.RunPlaces.{RunPlace, ShowRuns}
use Rattle.claim_board.specs.declared.view.Entry.{Entry}
use Rattle.claim_board.specs.declared.view.Deed.{Deed}
use Rattle.claim_board.specs.declared.view.Deed.TheVariants.{WasPut, WasClaimed}
use Rattle.claim_board.specs.History.{after_deed, events_of}
use Rattle.claim_board.specs.Rule.{BoardState}
use Rattle.claim_board.specs.Views.{SeatView, DidOnce}

-- one seat has made a step; each other view is as it was
pub record IsStepOf (s t : BoardState) (seat : ℕ) (v : SeatView) (deed : Deed) : Type 0 where
  pub new : SeatView
  pub before : get_elem? s.views seat ≡ some v
  pub behind : t.views ≡ slice_set s.views seat new
  pub did : DidOnce v new deed

-- the claims of a place in the round with this serial
abbrev pub is_claim : ℕ → ℕ → Deed → Bool
is_claim place serial (WasClaimed p t job) = p == place && t == serial
is_claim place serial deed = false

abbrev pub claims_in : ℕ → ℕ → List Entry → ℕ
claims_in place serial history = count_by (λ e. is_claim place serial e.deed) history

-- what is asked of the places, but for one thing that a board can't see: that a slice that is put
-- is in no place
abbrev pub is_legal_on_board : List JobPlace → Event → Bool
is_legal_on_board places (Put place number index) = may_put places place
is_legal_on_board places other = is_legal_on_places places other

-- each slice of what is put is the job of a slice that the feeder has
abbrev pub IsOfFeeder : ℕ → Machine → Deed → Type 0
IsOfFeeder window m (WasPut place run) = All
    (λ job. slice_job window m.feeder job.number job.index ≡ Some job) (jobs_of_run run)
IsOfFeeder window m deed = Unit {0}

-- these events, one after another: each is legal on the machine's places where it comes
abbrev pub AreLegal : ℕ → Machine → List Event → Type 0
AreLegal window m [] = Unit {0}
AreLegal window m (e ∷ es) =
    (is_legal_on_board m.places e ≡ true) × AreLegal window (happens window m e) es

-- the events of its name are legal one after another, and lead the machine's places where the deed
-- leads the board's
pub record AreItsEvents (window : ℕ) (m : Machine) (runs : List RunPlace) (seat : ℕ) (deed : Deed)
    : Type 0 where
  pub legal : AreLegal window m (events_of m.places seat deed)
  pub leads : ShowRuns (machine.run window m (events_of m.places seat deed)).places
      (after_deed runs seat deed)
