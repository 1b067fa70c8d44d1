use Rattle.std.proofs.Common.{arith, ap, sym, subst, ◌∙◌, List, All}
use Rattle.std.proofs.lemmas.List.Elements.{All-push}
use Rattle.claim_board.specs.Calls.{IsNewWorker}
use Rattle.claim_board.specs.Views.{lane_in}
use Rattle.claim_board.specs.declared.seats.WorkerSeat.{WorkerSeat}
use Rattle.claim_board.specs.declared.view.Lane.{Lane}
use Rattle.claim_board.proofs.board.Board.hire_all.Goals as goal

pub returns-in_err-team-clause-seat : goal.returns-in_err-team-clause-seat
returns-in_err-team-clause-seat c = c.requires.seat

pub returns-in_err-team-clause-empty : goal.returns-in_err-team-clause-empty
returns-in_err-team-clause-empty c = c.requires.empty

pub hire_one-worker-requires-clause-some_place : goal.hire_one-worker-requires-clause-some_place
hire_one-worker-requires-clause-some_place c = c.requires.some_place

pub hire_one-worker-requires-clause-seat : goal.hire_one-worker-requires-clause-seat
hire_one-worker-requires-clause-seat c = c.loop-worker.invariant.seat

pub returns-in_err-order-clause-seat : goal.returns-in_err-order-clause-seat
returns-in_err-order-clause-seat c = c.loop-worker.invariant.seat

pub returns-in_err-order-clause-empty : goal.returns-in_err-order-clause-empty
returns-in_err-order-clause-empty c = c.loop-worker.invariant.empty

pub loop-worker-preserved : goal.loop-worker-preserved
loop-worker-preserved c =
    let old = c.loop-worker.invariant in
    let hired = c.hire_one-worker.ensures in record {
      seat = hired.seat;
      empty = λ place below. ap (λ (ls : List Lane). lane_in ls place) hired.lanes ∙ old.empty place below;
      count = omega arith;
      room = omega arith;
      team = subst (λ (team : List WorkerSeat). All (IsNewWorker c.args.self.now) team) (sym c.push_reserved.ensures.items) (All-push (IsNewWorker c.args.self.now) c.loop-worker.team.items c.hire_one-worker.result old.team hired.worker);
    }

pub returns-clause-seat : goal.returns-clause-seat
returns-clause-seat c = c.loop-worker.invariant.seat

pub returns-clause-empty : goal.returns-clause-empty
returns-clause-empty c = c.loop-worker.invariant.empty

pub returns-clause-workers : goal.returns-clause-workers
returns-clause-workers c = (let n = c.loop-worker.invariant.count in omega arith, c.loop-worker.invariant.team)
