use Rattle.std.proofs.Common.{ap, refl, subst}
use Rattle.claim_board.specs.Seats.{IsFeederOf}
use Rattle.claim_board.specs.Views.{SeatView}
use Rattle.claim_board.specs.declared.board.Board.{Board}
use Rattle.claim_board.proofs.Idle.{taken_by_put}
use Rattle.claim_board.proofs.places.BoardFeederPlaces.put.Goals as goal

pub put-requires-clause-seat : goal.put-requires-clause-seat
put-requires-clause-seat c = rw c.deref.ensures c.sweep.new.self.same

pub put-requires-clause-place : goal.put-requires-clause-place
put-requires-clause-place c = rw c.deref.ensures c.in-Some.ensures.lowest.within

pub invariant_of-self : goal.invariant_of-self
invariant_of-self c = record {
  same = subst (λ (b : Board). IsFeederOf b c.put.new.f) c.deref.ensures c.put.ensures.seat;
  marks = c.sweep.new.self.marks;
  taken = λ place below.
      let v = c.sweep.new.self.seat.seat.me.0 in
      taken_by_put v c.put.new.f.seat.me.0 c.in-Some.place _ place (ap (λ (x : SeatView). x.lanes) c.put.ensures.did.view) c.put.ensures.out c.in-Some.ensures.lowest.lowest below;
}

pub returns-in-Some-clause-board : goal.returns-in-Some-clause-board
returns-in-Some-clause-board c = record {
  asked = c.sweep.new.self;
  sweep = c.sweep.ensures.asked;
  put = record { lowest = c.in-Some.ensures.lowest; put = c.put.ensures.did; left = refl };
  full = tt;
}

pub returns-in-None-clause-board : goal.returns-in-None-clause-board
returns-in-None-clause-board c = record {
  asked = c.sweep.new.self;
  sweep = c.sweep.ensures.asked;
  put = tt;
  full = (refl, c.in-None.ensures.none);
}
