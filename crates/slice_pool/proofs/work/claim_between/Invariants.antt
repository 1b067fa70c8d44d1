use Rattle.claim_board.specs.Seats.{IsWorkerOf}
use Rattle.slice_pool.proofs.work.claim_between.Given as goal

abbrev pub invariant-loop-place : goal.invariant-loop-place
invariant-loop-place l = IsWorkerOf l.board l.seat
