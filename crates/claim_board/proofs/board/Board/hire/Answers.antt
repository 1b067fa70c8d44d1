use Rattle.std.proofs.Common.{rules}
use Rattle.claim_board.proofs.Workers.{splits}
use Rattle.claim_board.proofs.board.Board.hire.Goals as goal

pub split_seat-requires : goal.split_seat-requires
split_seat-requires c = (search rules, search rules, splits c.args.seat.now.id c.args.seat.now.me.0 c.requires.feeder)
