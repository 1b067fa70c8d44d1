use Rattle.std.proofs.Common.{refl, arith, ◌∙◌, ◌≡◌, sym, ap, append-nil, ◌++◌, drop, take}
use Rattle.claim_board.specs.Plays.{empty_slots}
use Rattle.claim_board.specs.Counts.{occurrences}
use Rattle.claim_board.proofs.Decks.{turned_once, front_of, occurs_turned}
use Rattle.claim_board.proofs.slots.bring.Goals as goal

pub loop-turn-init : goal.loop-turn-init
loop-turn-init c = record { table = refl; id = refl; view = refl; slots = c.requires.slots ∙ ap empty_slots (sym (append-nil _)) }

pub loop-turn-preserved : goal.loop-turn-preserved
loop-turn-preserved c = record {
  table = c.turn.ensures.0 ∙ c.loop-turn.invariant.table;
  id = c.turn.ensures.1 ∙ c.loop-turn.invariant.id;
  view = ap (λ m. m.0) c.turn.ensures.2 ∙ c.loop-turn.invariant.view;
  slots = ap (λ m. m.1) c.turn.ensures.2 ∙ turned_once c.args.order.now.items c.loop-turn._turn c.loop-turn.seat.me.1 (let a = c.loop-turn-test.true in let b = c.index_of-at.ensures.0 in omega arith) c.loop-turn.invariant.slots;
}

pub returns-clause-id : goal.returns-clause-id
returns-clause-id c = record { table = c.loop-turn.invariant.table; number = c.loop-turn.invariant.id }

pub returns-clause-view : goal.returns-clause-view
returns-clause-view c = c.loop-turn.invariant.view

pub returns-clause-slots : goal.returns-clause-slots
returns-clause-slots c = let e : c.loop-turn._turn ≡ c.index_of-at.result = (let a = c.loop-turn-test.false in let b = c.loop-turn.auto._turn-end in omega arith) in
    c.loop-turn.invariant.slots ∙ (ap (λ k. empty_slots (drop k c.args.order.now.items ++ take k c.args.order.now.items)) e ∙ ap empty_slots (sym c.rotate_left.ensures.items))

pub returns-clause-front : goal.returns-clause-front
returns-clause-front c = let f = front_of c.args.order.now.items c.index_of-at.result c.args.place (let b = c.index_of-at.ensures.0 in omega arith) c.index_of-at.ensures.1 in (f.0, c.rotate_left.ensures.items ∙ f.1)

pub returns-clause-same : goal.returns-clause-same
returns-clause-same c = λ q. ap (occurrences q) c.rotate_left.ensures.items ∙ occurs_turned q c.index_of-at.result c.args.order.now.items
