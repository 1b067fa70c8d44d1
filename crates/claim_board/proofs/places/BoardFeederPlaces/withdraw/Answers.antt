use Rattle.std.proofs.Common.{arith, ap, refl, subst, ◌∙◌}
use Rattle.claim_board.specs.Seats.{IsFeederOf}
use Rattle.claim_board.specs.Views.{SeatView, may_take_a_job}
use Rattle.claim_board.specs.declared.board.Board.{Board}
use Rattle.claim_board.proofs.Idle.{still_taken}
use Rattle.claim_board.proofs.places.BoardFeederPlaces.withdraw.Goals as goal

pub withdraw-requires-clause-seat : goal.withdraw-requires-clause-seat
withdraw-requires-clause-seat c = rw c.deref.ensures c.args.self.now.same

pub withdraw-requires-clause-place : goal.withdraw-requires-clause-place
withdraw-requires-clause-place c = rw c.deref.ensures c.requires.place

pub invariant_of-self : goal.invariant_of-self
invariant_of-self c = record {
  same = subst (λ (b : Board). IsFeederOf b c.withdraw.new.f) c.deref.ensures c.withdraw.ensures.seat;
  marks = c.args.self.now.marks;
  taken = λ place below. ap (λ (v : SeatView). may_take_a_job v place) c.in_default.ensures.not_waiting.0.view ∙ c.args.self.now.taken place below;
}

pub returns-in_default-clause-board : goal.returns-in_default-clause-board
returns-in_default-clause-board c = record {
  took = tt;
  mark = tt;
  not_waiting = record { word = c.in_default.field-0.word; other = c.in_default.ensures.not_waiting.1; read = c.in_default.ensures.not_waiting.0 };
  stays = refl;
}

pub invariant_of-self-2-clause-same : goal.invariant_of-self-2-clause-same
invariant_of-self-2-clause-same c = subst (λ (b : Board). IsFeederOf b c.withdraw.new.f) c.deref.ensures c.withdraw.ensures.seat

pub invariant_of-self-2-clause-marks : goal.invariant_of-self-2-clause-marks
invariant_of-self-2-clause-marks c = c.set.ensures.length ∙ c.args.self.now.marks

pub invariant_of-self-2-clause-taken : goal.invariant_of-self-2-clause-taken
invariant_of-self-2-clause-taken c = λ place below.
    let v = c.args.self.now.seat.seat.me.0 in
    still_taken v c.withdraw.new.f.seat.me.0 c.args.place place _ (ap (λ (x : SeatView). x.lanes) c.in-Ok.ensures.took.view) (λ e. omega arith)
    ∙ c.args.self.now.taken place (omega arith)

pub returns-clause-board : goal.returns-clause-board
returns-clause-board c = record { took = c.in-Ok.ensures.took; mark = c.set.ensures.marks; not_waiting = tt; stays = tt }
