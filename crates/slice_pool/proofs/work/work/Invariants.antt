use Rattle.std.specs.Arc.{arc_value}
use Rattle.claim_board.specs.Seats.{IsWorkerOf}
use Rattle.slice_pool.proofs.work.work.Given as goal

abbrev pub invariant-loop : goal.invariant-loop
invariant-loop g l = record {
  next : (goal.iterator-loop g).can_next l.iterator';
  finite : (goal.iterator-loop g).is_finite l.iterator';
  seat : IsWorkerOf (arc_value l.board) l.seat;
}
