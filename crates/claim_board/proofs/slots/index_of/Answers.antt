use Rattle.std.proofs.Common.{◌<◌, arith}
use Rattle.claim_board.proofs.Decks.{occurs_none}
use Rattle.claim_board.proofs.slots.index_of.Goals as goal

pub unreachable-requires : goal.unreachable-requires
unreachable-requires c = let e = occurs_none c.args.place c.args.order.now.items (λ k h. c.loop-i.invariant k (let a = c.loop-i-test.false in let b = c.len-i-end.ensures in omega arith)) in
    let r : 0 < _ = c.requires in omega arith
