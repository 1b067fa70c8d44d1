use Rattle.std.proofs.Common.{rules, arith}
use Rattle.claim_board.proofs.Feeds.{fetches}
use Rattle.claim_board.proofs.board.Board.fetch.Goals as goal

pub load-requires : goal.load-requires
load-requires c = (search rules, search rules, fetches _ c.args.seat.now.id c.args.seat.now.me c.args.place 0 (let e = c.args.self.now.sized in omega arith) c.requires.feeder.0 c.requires.feeder.1)
