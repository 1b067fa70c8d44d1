use Rattle.std.proofs.Common.{rules, arith}
use Rattle.claim_board.proofs.Workers.{loads}
use Rattle.claim_board.proofs.board.Board.look.Goals as goal

pub load-requires : goal.load-requires
load-requires c = (search rules, search rules, loads _ c.args.seat.now.id c.args.seat.now.me c.args.place (let e = c.args.self.now.sized in omega arith))
