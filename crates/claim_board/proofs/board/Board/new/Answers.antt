use Rattle.std.proofs.Common.{arith, ◌∙◌}
use Rattle.claim_board.proofs.board.Board.new.Goals as goal

pub board_of-requires : goal.board_of-requires
board_of-requires c = record { few = omega arith }

pub fetch_all-requires-clause-table : goal.fetch_all-requires-clause-table
fetch_all-requires-clause-table c = c.in_ok-board.ensures.seat.0

pub fetch_all-requires-clause-bell : goal.fetch_all-requires-clause-bell
fetch_all-requires-clause-bell c = c.in_ok-board.ensures.bell

pub fetch_all-requires-clause-fresh : goal.fetch_all-requires-clause-fresh
fetch_all-requires-clause-fresh c = rw c.in_ok-board.ensures.places c.in_ok-board.ensures.seat.1

pub hire_all-requires-clause-some_place : goal.hire_all-requires-clause-some_place
hire_all-requires-clause-some_place c = rw c.in_ok-board.ensures.places c.requires.some_place

pub hire_all-requires-clause-seat : goal.hire_all-requires-clause-seat
hire_all-requires-clause-seat c = c.in_ok-feeder.ensures.seat

pub hire_all-requires-clause-empty : goal.hire_all-requires-clause-empty
hire_all-requires-clause-empty c = c.in_ok-feeder.ensures.empty

pub another-bell-requires : goal.another-bell-requires
another-bell-requires c = c.hire_all.ensures.seat.1

pub invariant_of-feeder : goal.invariant_of-feeder
invariant_of-feeder c =
    let f = c.hire_all.new.feeder in record {
      feeds = f.feeds;
      mirrors = f.mirrors;
      wide = f.wide;
      slots = f.slots;
      idle = f.idle;
      room = f.room;
      fetched = f.fetched;
      small = f.small;
    }

pub returns-clause-places : goal.returns-clause-places
returns-clause-places c = c.in_ok-board.ensures.places

pub returns-clause-feeder : goal.returns-clause-feeder
returns-clause-feeder c = (c.hire_all.ensures.seat.0, c.another-bell.ensures.old ∙ c.hire_all.ensures.seat.1)

pub returns-clause-empty : goal.returns-clause-empty
returns-clause-empty c = λ place below. c.hire_all.ensures.empty place (rw c.in_ok-board.ensures.places below)

pub returns-clause-workers : goal.returns-clause-workers
returns-clause-workers c = c.in_ok-team.ensures.workers

pub returns-clause-bell : goal.returns-clause-bell
returns-clause-bell c = c.another-bell.ensures.new ∙ c.hire_all.ensures.seat.1
