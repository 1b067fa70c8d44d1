-- Which board a seat belongs to, and what it knows.
use Rattle.std.specs.Prelude.{◌≡◌, ℕ}
use Rattle.claim_board.specs.Views.{SeatView}
use Rattle.claim_board.specs.declared.board.Board.{Board}
use Rattle.claim_board.specs.declared.seats.BellSeat.{BellSeat}
use Rattle.claim_board.specs.declared.seats.FeederSeat.{FeederSeat}
use Rattle.claim_board.specs.declared.seats.WorkerSeat.{WorkerSeat}

-- how many places there are
abbrev pub place_count : Board → ℕ
place_count board = board.table.shared.table_id.words

-- the board's `new` made the seat
abbrev pub IsFeederOf : Board → FeederSeat → Type 0
IsFeederOf board f = (f.seat.table_id ≡ board.table.shared.table_id)
    × (f.bell.table_id ≡ board.bell.table.shared.table_id)

abbrev pub IsWorkerOf : Board → WorkerSeat → Type 0
IsWorkerOf board s = (s.seat.table_id ≡ board.table.shared.table_id)
    × (s.bell.table_id ≡ board.bell.table.shared.table_id)

abbrev pub IsBellSeatOf : Board → BellSeat → Type 0
IsBellSeatOf board b = b.bell.table_id ≡ board.bell.table.shared.table_id

abbrev pub feeder_sees : FeederSeat → SeatView
feeder_sees f = f.seat.me.0

abbrev pub worker_sees : WorkerSeat → SeatView
worker_sees s = s.seat.me.0
