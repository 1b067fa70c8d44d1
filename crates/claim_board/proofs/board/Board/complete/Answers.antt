use Rattle.std.proofs.Common.{arith, ap, ◌≡◌}
use Rattle.atomic_table.specs.Seated.{TableId}
use Rattle.claim_board.proofs.Holds.{below_less, held_completed, held_slot}
use Rattle.claim_board.proofs.board.Board.complete.Goals as goal

pub complete_at-requires-clause-holds : goal.complete_at-requires-clause-holds
complete_at-requires-clause-holds c = (c.requires.held, c.args.held.small)

pub complete_at-requires-clause-slots : goal.complete_at-requires-clause-slots
complete_at-requires-clause-slots c =
    let s = c.args.s.now in
    (s.slots, held_slot c.args.held.place c.args.held.serial c.args.done.job s.seat.me.0 s.order.items c.requires.held (s.holds c.args.held.place))

pub invariant_of-s-clause-holds : goal.invariant_of-s-clause-holds
invariant_of-s-clause-holds c = λ q.
    let s = c.args.s.now in
    held_completed c.args.held.place c.args.held.serial c.args.done s.seat.me.0 c.complete_at.new.seat.me.0 q s.order.items c.complete_at.new.order.items c.complete_at.ensures.did (c.complete_at.ensures.order q) s.holds

pub invariant_of-s-clause-below : goal.invariant_of-s-clause-below
invariant_of-s-clause-below c = λ q past.
    let same : c.complete_at.new.seat.table_id.words ≡ c.args.s.now.seat.table_id.words = ap (λ (t : TableId). t.words) c.complete_at.ensures.id.table in
    below_less c.args.held.place q c.args.s.now.order.items c.complete_at.new.order.items (c.complete_at.ensures.order q) (c.args.s.now.below q (omega arith))
