use Rattle.std.proofs.Common.{rules, arith, ap, sym, subst}
use Rattle.atomic_table.specs.Table.{rest}
use Rattle.claim_board.specs.Views.{SeatView, Holds}
use Rattle.claim_board.specs.Plays.{SeatState, HasGivenOf}
use Rattle.claim_board.proofs.Workers.{completes_at}
use Rattle.claim_board.proofs.board.Board.give_done.Goals as goal

pub store-requires : goal.store-requires
store-requires c =
    let x = c.exchange-none.ensures in
    let view = ap (λ (m : SeatState). m.0) x.3 in (
      search rules,
      search rules,
      completes_at _ c.exchange-none.new.seat.id c.exchange-none.new.seat.me c.args.place c.args.serial c.args.done (rest c.args.seat.now.me.1)
          (let e = c.args.self.now.sized in omega arith)
          (subst (λ (v : SeatView). Holds v c.args.place c.args.serial c.args.done.job) (sym view) c.requires.holds.0)
          (ap (λ (m : SeatState). m.1) x.3),
    )

pub returns-clause-view : goal.returns-clause-view
returns-clause-view c = subst (λ (m : SeatState). HasGivenOf c.args.place m.0 c.store.new.seat.me m.1) c.exchange-none.ensures.3 c.store.ensures.2
