use Rattle.std.proofs.Common.{◌+◌, ◌≤◌, vec_len, vec_capacity}
use Rattle.std.specs.Prelude.{All}
use Rattle.std.specs.Arc.{arc_value}
use Rattle.claim_board.specs.Calls.{IsNewWorker}
use Rattle.slice_pool.proofs.hands.start_all.Given as goal

abbrev pub invariant-loop-number : goal.invariant-loop-number
invariant-loop-number g l = record {
  seats : All (IsNewWorker (arc_value l.post.board)) l.seats.items;
  room : vec_len l.handles + vec_len l.seats ≤ vec_capacity l.handles;
}
