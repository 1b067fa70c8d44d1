use Rattle.std.proofs.Common.{◌≡◌, ◌++◌, drop, take}
use Rattle.claim_board.specs.Plays.{empty_slots}
use Rattle.claim_board.proofs.slots.bring.Given as goal

abbrev pub invariant-loop-turn : goal.invariant-loop-turn
invariant-loop-turn l = record {
  table : l.seat.table_id ≡ l.fn.seat.table_id;
  id : l.seat.id ≡ l.fn.seat.id;
  view : l.seat.me.0 ≡ l.fn.seat.me.0;
  slots : l.seat.me.1 ≡ empty_slots (drop l._turn l.order.items ++ take l._turn l.order.items);
}
