-- What new seats know.
use Rattle.std.specs.Prelude.{◌≡◌, ℕ, ◌<◌, [], false, true}
use Rattle.claim_board.specs.Views.{lane, SeatView, lane_at}
use Rattle.claim_board.specs.Seats.{IsWorkerOf, worker_sees}
use Rattle.claim_board.specs.declared.board.Board.{Board}
use Rattle.claim_board.specs.declared.seats.WorkerSeat.{WorkerSeat}

-- a new board: every place is fetched and empty, with the serial 0
abbrev pub AreEmpty : ℕ → SeatView → Type 0
AreEmpty places v = (place : ℕ) → place < places → lane_at v place ≡ lane 0 true false

-- a worker of this board that has done nothing yet
pub record IsNewWorker (board : Board) (worker : WorkerSeat) : Type 0 where
  pub seat : IsWorkerOf board worker
  pub view : (worker_sees worker).history ≡ []
