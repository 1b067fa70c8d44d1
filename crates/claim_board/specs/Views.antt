-- What a seat at this board knows.
use Rattle.std.specs.Prelude.{◌≡◌, ℕ, ◌+◌, ◌^◌, ◌&&◌, Bool, true, false, nat_lt, not, List, [], ◌∷◌}
use Rattle.std.specs.Prelude.{slice_index_or, slice_set, replicate}
use Rattle.claim_board.specs.declared.view.Lane.{Lane}
use Rattle.claim_board.specs.RunPlaces.{Content, place_at}
use Rattle.claim_board.specs.RunPlaces as places
use Rattle.link_slices.specs.Jobs.{jobs_of_run}
use Rattle.vc_slice.specs.declared.run.RunJob.{RunJob}
use Rattle.claim_board.specs.declared.view.Entry.{Entry}
use Rattle.claim_board.specs.declared.view.View.{View}
use Rattle.claim_board.specs.declared.view.Deed.{Deed}
use Rattle.claim_board.specs.declared.view.Deed.TheVariants.{WasRead, WasFetched, WasPut, WasClaimed}
use Rattle.claim_board.specs.declared.view.Deed.TheVariants.{WasCompleted, WasTaken, WasWithdrawn}
use Rattle.claim_board.specs.History.{entry_of, places_after, IsHistory, Continues, IsOther, IsOtherOrRead}
use Rattle.claim_board.specs.History.{standing}

abbrev pub SeatView : Type 0
SeatView = View

-- ---- lanes: what the feeder knows of the places

abbrev pub lane : ℕ → Bool → Bool → Lane
lane serial fetched out = record { serial = serial; is_fetched = fetched; is_out = out }

abbrev pub lane_in : List Lane → ℕ → Lane
lane_in lanes place = slice_index_or lanes place (lane 0 false false)

abbrev pub lane_at : SeatView → ℕ → Lane
lane_at v place = lane_in v.lanes place

-- a put: the place is out, with the next serial
abbrev pub lanes_put : List Lane → ℕ → List Lane
lanes_put lanes place = slice_set lanes place (lane ((lane_in lanes place).serial + 1) true true)

-- the slot came back: the place is empty
abbrev pub lanes_back : List Lane → ℕ → List Lane
lanes_back lanes place = slice_set lanes place (lane (lane_in lanes place).serial true false)

abbrev pub lanes_after : Deed → List Lane → List Lane
lanes_after (WasRead place word) lanes = lanes
lanes_after (WasFetched place) lanes = lanes_back lanes place
lanes_after (WasPut place job) lanes = lanes_put lanes place
lanes_after (WasClaimed place serial job) lanes = lanes
lanes_after (WasCompleted place serial done) lanes = lanes
lanes_after (WasTaken place serial done) lanes = lanes_back lanes place
lanes_after (WasWithdrawn place serial job) lanes = lanes_back lanes place

-- the place is empty, and its serial may rise
abbrev pub may_take_a_job : SeatView → ℕ → Bool
may_take_a_job v place = not (lane_at v place).is_out && nat_lt (lane_at v place).serial (2 ^ 61)

-- ---- views

-- the feeder's view of a new board
abbrev pub first_view : ℕ → SeatView
first_view places = record {
  places = places;
  number = 0;
  seats = 1;
  lanes = replicate places (lane 0 false false);
  history = [];
}

-- one seat more, and its view
abbrev pub with_seat : SeatView → SeatView
with_seat v = record v { seats = v.seats + 1 }

abbrev pub worker_view : SeatView → SeatView
worker_view feeder = record {
  places = feeder.places;
  number = feeder.seats;
  seats = 0;
  lanes = [];
  history = [];
}

-- ---- steps

-- the view after the seat's step upon a history
abbrev pub did : SeatView → List Entry → Deed → SeatView
did v log deed =
    record v { lanes = lanes_after deed v.lanes; history = entry_of v.number deed ∷ log }

-- The seat made this step. The history up to it is a run of the machine, which goes on from the one
-- that the seat knew by such steps.
pub record HasDone (between : Entry → Type 0) (old new : SeatView) (deed : Deed) : Type 0 where
  pub log : List Entry
  pub since : Continues between log old.history
  pub run : IsHistory old.places (entry_of old.number deed ∷ log)
  pub view : new ≡ did old log deed

-- one step, upon steps of others
abbrev pub DidOnce : SeatView → SeatView → Deed → Type 0
DidOnce old new deed = HasDone (IsOther old.number) old new deed

-- the last step, upon steps of others and words of the place that the seat read
abbrev pub DidAtLast : ℕ → SeatView → SeatView → Deed → Type 0
DidAtLast place old new deed = HasDone (IsOtherOrRead old.number place) old new deed

-- ---- what a seat holds

-- the seat holds the place with this serial, and the job is the one that was put
abbrev pub Holds : SeatView → ℕ → ℕ → RunJob → Type 0
Holds v place serial job = place_at (places_after v.places v.history) place
    ≡ standing serial (places.Claimed v.number (jobs_of_run job))

-- what stands there, by what the seat knows
abbrev pub content_at : SeatView → ℕ → Content
content_at v place = (place_at (places_after v.places v.history) place).content
