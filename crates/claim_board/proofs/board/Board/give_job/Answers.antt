use Rattle.std.proofs.Common.{rules, arith, ap, subst, ◌∙◌}
use Rattle.atomic_table.specs.Table.{rest}
use Rattle.claim_board.specs.Views.{SeatView, lane_at}
use Rattle.claim_board.specs.Plays.{SeatState, HasPutOf}
use Rattle.claim_board.proofs.Feeds.{puts_at}
use Rattle.claim_board.proofs.board.Board.give_job.Goals as goal

pub store-requires : goal.store-requires
store-requires c =
    let x = c.exchange-none.ensures in
    let view = ap (λ (m : SeatState). m.0) x.3 in (
      search rules,
      search rules,
      puts_at _ c.exchange-none.new.seat.id c.exchange-none.new.seat.me c.args.place c.args.serial c.args.load (rest c.args.seat.now.me.1)
          (let e = c.args.self.now.sized in omega arith)
          (ap (λ (v : SeatView). v.number) view ∙ c.requires.feeder)
          (ap (λ (v : SeatView). lane_at v c.args.place) view ∙ c.requires.idle.0) c.requires.idle.1 c.requires.idle.2
          (ap (λ (m : SeatState). m.1) x.3),
    )

pub returns-clause-view : goal.returns-clause-view
returns-clause-view c = subst (λ (m : SeatState). HasPutOf c.args.place m.0 c.store.new.seat.me m.1) c.exchange-none.ensures.3 c.store.ensures.2
