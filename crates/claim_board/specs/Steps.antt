-- What each step asks of its seat, and what it leaves.
use Rattle.std.specs.Prelude.{◌≡◌, ℕ, ◌<◌}
use Rattle.atomic_table.specs.declared.shared.Seat.{Seat}
use Rattle.claim_board.specs.Views.{SeatView}
use Rattle.claim_board.specs.Rule.{Slot}
use Rattle.claim_board.specs.declared.board.Board.{Board}

-- the seat is the board's, and so is the place
pub record MayStep (board : Board) (seat : Seat Slot SeatView) (place : ℕ) : Type 0 where
  pub table : seat.table_id ≡ board.table.shared.table_id
  pub within : place < board.table.shared.table_id.words

-- the seat is the one that it was
pub record IsSameSeat (old new : Seat Slot SeatView) : Type 0 where
  pub table : new.table_id ≡ old.table_id
  pub number : new.id ≡ old.id
