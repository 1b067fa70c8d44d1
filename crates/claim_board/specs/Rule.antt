-- The rule of the board, which holds between any two steps.
use Rattle.std.specs.Prelude.{◌≡◌, ℕ, ◌^◌, ◌<◌, ◌≤◌, Bool, true, false, List}
use Rattle.std.specs.Prelude.{length, slice_index, Option, None, Some}
use mathlib.Core.Option.{some, none}
use mathlib.Core.Option as maybe
use lib.ListN.{get_elem?}
use Rattle.atomic_table.specs.Table.{State}
use Rattle.vc_slice.specs.declared.run.RunDone.{RunDone}
use Rattle.vc_slice.specs.declared.run.RunLoad.{RunLoad}
use Rattle.claim_board.specs.Views.{lane}
use Rattle.claim_board.specs.declared.view.Lane.{Lane}
use Rattle.claim_board.specs.RunPlaces.{Content, Nothing, Offered, Claimed, Decoded, RunPlace, place_at}
use Rattle.link_slices.specs.Jobs.{answered_run, jobs_of_run}
use Rattle.claim_board.specs.Views.{SeatView, lane_at}
use Rattle.claim_board.specs.History.{word_of, places_after, IsHistory, Each, Continues, IsOther, IsBelow}
use Rattle.claim_board.specs.declared.cargo.Cargo.{Cargo}
use Rattle.claim_board.specs.declared.cargo.Cargo.TheVariants.{Waiting, Finished}
use Rattle.claim_board.specs.declared.view.Entry.{Entry}

-- what lies in the slot of a place
abbrev pub Slot : Type 0
Slot = Option Cargo

-- the words, the slots that are at home, and the views, of which the first is the feeder's
abbrev pub BoardState : Type 0
BoardState = State Slot SeatView

abbrev pub is_out : Content → Bool
is_out Nothing = false
is_out content = true

-- what lies at home, where the slot was fetched once: nothing while the feeder or the holder has
-- it; a job or an answer is the one that stands there, stamped with the serial
abbrev pub Lies : maybe.Option (maybe.Option Slot) → Bool → ℕ → Content → Type 0
Lies home true serial Nothing = home ≡ some none
Lies home true serial (Offered jobs) =
    (own : RunLoad) × (home ≡ some (some (Some (Waiting serial own)))) × (jobs ≡ jobs_of_run own.job)
Lies home true serial (Claimed seat jobs) = home ≡ some none
Lies home true serial (Decoded dones) =
    (own : RunDone) × (home ≡ some (some (Some (Finished serial own)))) × (dones ≡ answered_run own)
Lies home false serial Nothing = home ≡ some (some None)
Lies home false serial content = ⊥

-- a word, a slot and the feeder's lane show a place of the board
pub record ShowsPlace (word : ℕ) (home : maybe.Option (maybe.Option Slot)) (known : Lane) (p : RunPlace)
    : Type 0 where
  pub shows : word ≡ word_of p
  pub small : p.serial ≤ 2 ^ 61
  pub is_fetched : Bool
  pub is_known : known ≡ lane p.serial is_fetched (is_out p.content)
  pub lies : Lies home is_fetched p.serial p.content

-- a seat's view has the history up to its own last step
pub record Knows (many seat : ℕ) (history : List Entry) (v : SeatView) : Type 0 where
  pub places : v.places ≡ many
  pub number : v.number ≡ seat
  pub since : Continues (IsOther seat) history v.history

-- There is one history of all steps, and the table is what it leads to.
pub record BoardRule (s : BoardState) : Type 0 where
  pub places : ℕ
  pub history : List Entry
  pub run : IsHistory places history
  pub seated : Each (IsBelow (length s.views)) history
  pub known : (seat : ℕ) (v : SeatView) → get_elem? s.views seat ≡ some v
      → Knows places seat history v
  pub feeder : SeatView
  pub first : get_elem? s.views 0 ≡ some feeder
  pub seats : feeder.seats ≡ length s.views
  pub lanes : length feeder.lanes ≡ length s.words
  pub wide : length s.homes ≡ length s.words
  pub many : length s.words ≡ places
  pub each : (place : ℕ) → place < length s.words
      → ShowsPlace (slice_index s.words place) (get_elem? s.homes place) (lane_at feeder place)
      (place_at (places_after places history) place)
