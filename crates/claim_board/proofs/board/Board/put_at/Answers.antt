use Rattle.claim_board.proofs.Idle.{popped}
use Rattle.claim_board.proofs.board.Board.put_at.Goals as goal

pub returns-clause-order : goal.returns-clause-order
returns-clause-order c = λ q. popped q c.args.place c.args.order.now.items c.bring.new.order.items c.pop_front-place.new.self.items c.bring.ensures.front c.pop_front-place.ensures.rest (c.bring.ensures.same q)
