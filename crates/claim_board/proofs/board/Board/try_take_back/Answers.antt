use Rattle.std.proofs.Common.{rules, arith, refl, ⊎_elim}
use mathlib.Core.Option.{none}
use Rattle.claim_board.proofs.Feeds.{takes_back}
use Rattle.claim_board.proofs.board.Board.try_take_back.Goals as goal

pub compare_exchange-requires : goal.compare_exchange-requires
compare_exchange-requires c = (search rules, search rules, takes_back _ c.args.seat.now.id c.args.seat.now.me c.args.place c.args.serial c.args.state none (let e = c.args.self.now.sized in omega arith) c.requires.feeder.0 c.requires.feeder.1 c.requires.lies)

pub returns-clause-won : goal.returns-clause-won
returns-clause-won c = λ hit. (c.compare_exchange.ensures.2 c.args.serial c.args.state (⊎_elim (λ e. omega arith) (λ e. omega arith) c.requires.lies) refl).0 hit

pub returns-clause-lost : goal.returns-clause-lost
returns-clause-lost c = λ miss. (c.compare_exchange.ensures.2 c.args.serial c.args.state (⊎_elim (λ e. omega arith) (λ e. omega arith) c.requires.lies) refl).1 miss
