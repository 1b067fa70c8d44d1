-- What a worker holds.
use Rattle.std.specs.Prelude.{◌<◌}
use Rattle.claim_board.specs.Seats.{place_count, worker_sees}
use Rattle.claim_board.specs.Views.{Holds}
use Rattle.claim_board.specs.declared.board.Board.{Board}
use Rattle.claim_board.specs.declared.seats.WorkerSeat.{WorkerSeat}
use Rattle.claim_board.specs.declared.working.ClaimedRun.{ClaimedRun}

-- the seat claimed the place, which is the board's, with the run that was put there
pub record IsHeldBy (board : Board) (seat : WorkerSeat) (c : ClaimedRun) : Type 0 where
  pub within : c.held.place < place_count board
  pub held : Holds (worker_sees seat) c.held.place c.held.serial c.load.job
