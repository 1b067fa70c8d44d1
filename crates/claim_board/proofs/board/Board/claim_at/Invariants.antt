use Rattle.std.proofs.Common.{◌≡◌, ◌-◌, ◌^◌}
use Rattle.claim_board.specs.Views.{DidAtLast}
use Rattle.claim_board.specs.declared.view.Deed.TheVariants.{WasRead}
use Rattle.claim_board.proofs.board.Board.claim_at.Given as goal

abbrev pub invariant-loop-word : goal.invariant-loop-word
invariant-loop-word l = record {
  table : l.seat.table_id ≡ l.fn.seat.table_id;
  id : l.seat.id ≡ l.fn.seat.id;
  slots : l.seat.me.1 ≡ l.fn.seat.me.1;
  reads : DidAtLast l.place l.fn.seat.me.0 l.seat.me.0 (WasRead l.place l.word);
}

abbrev pub decreases-loop-word : goal.decreases-loop-word
decreases-loop-word l = 2 ^ 64 - l.word
