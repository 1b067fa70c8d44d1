use Rattle.std.proofs.Common.{◌≡◌, ◌<◌, ◌≤◌, ℕ, true, false, vec_len}
use Rattle.std.specs.VecDeque.{deque_len, deque_capacity}
use Rattle.claim_board.specs.Views.{lane, lane_at}
use Rattle.claim_board.specs.Counts.{idle_count, occurrences}
use Rattle.claim_board.specs.Plays.{empty_slots}
use Rattle.claim_board.proofs.board.Board.fetch_all.Given as goal

abbrev pub invariant-loop-place : goal.invariant-loop-place
invariant-loop-place l = record {
  table : l.seat.table_id ≡ l.self.table.shared.table_id;
  feeds : l.seat.me.0.number ≡ 0;
  mirrors : l.seat.me.0.lanes ≡ l.lanes.items;
  wide : vec_len l.lanes ≡ l.self.table.shared.table_id.words;
  slots : l.seat.me.1 ≡ empty_slots l.order.items;
  fetched : (p : ℕ) → p < l.place → lane_at l.seat.me.0 p ≡ lane 0 true false;
  rest : (p : ℕ) → l.place ≤ p → lane_at l.seat.me.0 p ≡ lane 0 false false;
  idle : (p : ℕ) → occurrences p l.order.items ≡ idle_count (lane_at l.seat.me.0 p);
  room : l.self.table.shared.table_id.words ≤ deque_capacity l.order;
  count : deque_len l.order ≡ l.place;
}
