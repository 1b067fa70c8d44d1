-- The feeder's form of a board.
use Rattle.std.specs.Prelude.{◌≡◌, ◌≢◌, ℕ, zero, suc, ◌%◌, ◌<◌, Bool, true, false}
use Rattle.std.specs.Prelude.{if◌then◌else◌, List, slice_index_or, slice_set, Option}
use Rattle.std.specs.Prelude.{Result, IfOk, IfErr, OnSome, IfSome, IfNone}
use Rattle.std.specs.Arc.{arc_value}
use Rattle.claim_board.specs.Views.{SeatView, DidOnce, lane_at, may_take_a_job}
use Rattle.claim_board.specs.Seats.{feeder_sees, place_count}
use Rattle.claim_board.specs.declared.feeder.BoardFeeder.{BoardFeeder}
use Rattle.claim_board.specs.declared.view.Deed.TheVariants.{WasRead, WasPut, WasTaken}
use Rattle.claim_board.specs.declared.view.Deed.TheVariants.{WasWithdrawn}
use Rattle.vc_slice.specs.declared.run.RunDone.{RunDone}
use Rattle.vc_slice.specs.declared.run.RunJob.{RunJob}
use Rattle.vc_slice.specs.declared.run.RunLoad.{RunLoad}

-- the number of places of its board
abbrev pub feeder_bound : BoardFeeder → ℕ
feeder_bound f = place_count (arc_value f.board)

-- what its seat knows
abbrev pub form_sees : BoardFeeder → SeatView
form_sees f = feeder_sees f.seat

-- which places were left, and not asked for with success since
abbrev pub left_in : BoardFeeder → List Bool
left_in f = f.left.marks.items

abbrev pub is_left : BoardFeeder → ℕ → Bool
is_left f place = slice_index_or (left_in f) place false

-- the lowest place that may take a job
pub record IsLowestFree (places : ℕ) (v : SeatView) (place : ℕ) : Type 0 where
  pub within : place < places
  pub free : may_take_a_job v place ≡ true
  pub lowest : (other : ℕ) → other < place → may_take_a_job v other ≡ false

abbrev pub HasNoFree : ℕ → SeatView → Type 0
HasNoFree places v = (place : ℕ) → place < places → may_take_a_job v place ≡ false

-- the call's own step read a word that isn't in this state
pub record FoundNot (state place : ℕ) (old new : SeatView) : Type 0 where
  pub word : ℕ
  pub other : word % 4 ≢ state
  pub read : DidOnce old new (WasRead place word)

-- ---- what the calls of places do

-- a take: the place is empty again and marked no more, or its own step read a word that isn't done
pub record HasAsked (old new : BoardFeeder) (place : ℕ) (answer : Option RunDone) : Type 0 where
  pub took : IfSome answer (λ done. DidOnce (form_sees old) (form_sees new)
      (WasTaken place (lane_at (form_sees old) place).serial done))
  pub mark : OnSome answer (left_in new ≡ slice_set (left_in old) place false)
  pub not_yet : IfNone answer (FoundNot 3 place (form_sees old) (form_sees new))
  pub stays : IfNone answer (left_in new ≡ left_in old)

-- the same for a withdrawal
pub record HasAskedBack (old new : BoardFeeder) (place : ℕ) (answer : Option RunLoad)
    : Type 0 where
  pub took : IfSome answer (λ load. DidOnce (form_sees old) (form_sees new)
      (WasWithdrawn place (lane_at (form_sees old) place).serial load.job))
  pub mark : OnSome answer (left_in new ≡ slice_set (left_in old) place false)
  pub not_waiting : IfNone answer (FoundNot 1 place (form_sees old) (form_sees new))
  pub stays : IfNone answer (left_in new ≡ left_in old)

-- a take where the place was left, and nothing where it wasn't
pub record HasAskedIfLeft (old new : BoardFeeder) (place : ℕ) : Type 0 where
  pub asked : is_left old place ≡ true
      → (answer : Option RunDone) × HasAsked old new place answer
  pub same : is_left old place ≡ false → new ≡ old

-- the same for each place below this one, in turn
abbrev pub HasAskedBelow : ℕ → BoardFeeder → BoardFeeder → Type 0
HasAskedBelow zero old new = new ≡ old
HasAskedBelow (suc place) old new =
    (between : BoardFeeder) × HasAskedBelow place old between × HasAskedIfLeft between new place

-- a put: the place was the lowest free one, and has the job
pub record HasPut (asked new : BoardFeeder) (place : ℕ) (job : RunJob) : Type 0 where
  pub lowest : IsLowestFree (feeder_bound asked) (form_sees asked) place
  pub put : DidOnce (form_sees asked) (form_sees new) (WasPut place job)
  pub left : left_in new ≡ left_in asked

-- an offer: each place that was left was asked; then the lowest free place has the job, if there is
-- one
pub record HasOffered (old new : BoardFeeder) (job : RunJob) (answer : Result ℕ RunLoad)
    : Type 0 where
  pub asked : BoardFeeder
  pub sweep : HasAskedBelow (feeder_bound old) old asked
  pub put : IfOk answer (λ place. HasPut asked new place job)
  pub full : IfErr answer (λ back. (new ≡ asked)
      × HasNoFree (feeder_bound new) (form_sees new))

-- a place that is out is marked as left
pub record HasLeft (old new : BoardFeeder) (place : ℕ) : Type 0 where
  pub view : form_sees new ≡ form_sees old
  pub mark : left_in new ≡ (if (lane_at (form_sees old) place).is_out
      then slice_set (left_in old) place true else left_in old)
