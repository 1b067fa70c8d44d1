use Rattle.std.proofs.Common.{rules, arith, ◌/◌}
use mathlib.Core.Option.{none}
use Rattle.claim_board.proofs.Workers.{claims_at}
use Rattle.claim_board.proofs.board.Board.try_claim.Goals as goal

pub compare_exchange-requires : goal.compare_exchange-requires
compare_exchange-requires c = (search rules, search rules, claims_at _ c.args.seat.now.id c.args.seat.now.me c.args.place c.args.word _ (c.args.word / 4) none (let e = c.args.self.now.sized in omega arith) (omega arith) (omega arith))
