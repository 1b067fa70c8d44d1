use Rattle.std.proofs.Common.{◌≡◌, ◌≤◌, vec_len, vec_capacity, All}
use Rattle.claim_board.specs.Calls.{AreEmpty, IsNewWorker}
use Rattle.claim_board.specs.Seats.{IsFeederOf, feeder_sees, place_count}
use Rattle.claim_board.proofs.board.Board.hire_all.Given as goal

abbrev pub invariant-loop-worker : goal.invariant-loop-worker
invariant-loop-worker l = record {
  seat : IsFeederOf l.self l.feeder;
  empty : AreEmpty (place_count l.self) (feeder_sees l.feeder);
  count : vec_len l.team ≡ l._worker;
  room : l.workers ≤ vec_capacity l.team;
  team : All (IsNewWorker l.self) l.team.items;
}
