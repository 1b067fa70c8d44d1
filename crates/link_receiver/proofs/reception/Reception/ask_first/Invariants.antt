use Rattle.link_receiver.proofs.CallSteps.{OffersNothing}
use Rattle.link_receiver.specs.Exchanged.{KeepsPlaces}
use Rattle.link_receiver.proofs.reception.Reception.ask_first.Given as goal

abbrev pub invariant-loop-i : goal.invariant-loop-i
invariant-loop-i g l = record {
  exchanged : OffersNothing (g.P.Places.told l.fn.places) (g.P.Places.told l.places) l.fn.self l.self;
  places : KeepsPlaces g.P.Places.told g.P.Places.bound l.fn.places l.places l.self.out;
}
