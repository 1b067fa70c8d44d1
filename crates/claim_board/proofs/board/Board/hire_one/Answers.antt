use Rattle.std.proofs.Common.{ap, sym, subst, ◌∙◌, ◌≡◌, ◌≤◌, ◌^◌}
use Rattle.atomic_table.specs.Seated.{TableId}
use Rattle.claim_board.specs.Counts.{idle_count}
use Rattle.claim_board.specs.Plays.{SeatState}
use Rattle.claim_board.specs.Views.{SeatView, lane_at, with_seat}
use Rattle.claim_board.proofs.board.Board.hire_one.Goals as goal

pub another-bell-requires : goal.another-bell-requires
another-bell-requires c = c.requires.seat.1

pub hire-seat-requires-clause-table : goal.hire-seat-requires-clause-table
hire-seat-requires-clause-table c = c.requires.seat.0

pub hire-seat-requires-clause-some_place : goal.hire-seat-requires-clause-some_place
hire-seat-requires-clause-some_place c = c.requires.some_place

pub hire-seat-requires-clause-feeder : goal.hire-seat-requires-clause-feeder
hire-seat-requires-clause-feeder c = c.args.feeder.now.feeds

pub invariant_of-feeder : goal.invariant_of-feeder
invariant_of-feeder c =
    let f = c.args.feeder.now in
    let view : c.hire-seat.new.seat.me.0 ≡ with_seat f.seat.me.0 = ap (λ (m : SeatState). m.0) c.hire-seat.ensures.view in record {
      feeds = ap (λ (v : SeatView). v.number) view ∙ f.feeds;
      mirrors = ap (λ (v : SeatView). v.lanes) view ∙ f.mirrors;
      wide = f.wide ∙ sym (ap (λ (t : TableId). t.words) c.hire-seat.ensures.feeder.table);
      slots = ap (λ (m : SeatState). m.1) c.hire-seat.ensures.view ∙ f.slots;
      idle = λ place. f.idle place ∙ ap (λ (v : SeatView). idle_count (lane_at v place)) (sym view);
      room = f.room;
      fetched = λ place below. ap (λ (v : SeatView). (lane_at v place).is_fetched) view ∙ f.fetched place below;
      small = λ place. subst (λ (v : SeatView). (lane_at v place).serial ≤ 2 ^ 61) (sym view) (f.small place);
    }

pub returns-clause-seat : goal.returns-clause-seat
returns-clause-seat c = (c.hire-seat.ensures.feeder.table ∙ c.requires.seat.0, c.another-bell.ensures.old ∙ c.requires.seat.1)

pub returns-clause-lanes : goal.returns-clause-lanes
returns-clause-lanes c = ap (λ (m : SeatState). m.0.lanes) c.hire-seat.ensures.view
