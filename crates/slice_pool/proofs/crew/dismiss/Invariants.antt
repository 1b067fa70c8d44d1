use Rattle.std.proofs.Common.{vec_len}
use Rattle.std.specs.Arc.{arc_value}
use Rattle.claim_board.specs.Seats.{IsBellSeatOf}
use Rattle.slice_pool.proofs.crew.dismiss.Given as goal

abbrev pub invariant-loop-worker : goal.invariant-loop-worker
invariant-loop-worker g l = IsBellSeatOf (arc_value l.board) l.bells

abbrev pub decreases-loop-handle : goal.decreases-loop-handle
decreases-loop-handle g l = vec_len l.handles
