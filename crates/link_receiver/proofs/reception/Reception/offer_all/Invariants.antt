use Rattle.link_receiver.proofs.CallSteps.{Offers}
use Rattle.link_receiver.specs.Exchanged.{KeepsPlaces}
use Rattle.link_receiver.proofs.reception.Reception.offer_all.Given as goal

abbrev pub invariant-loop-job : goal.invariant-loop-job
invariant-loop-job g l = record {
  exchanged : Offers (g.P.Places.told l.fn.places) (g.P.Places.told l.places) l.fn.self l.self
      l.yielded;
  places : KeepsPlaces g.P.Places.told g.P.Places.bound l.fn.places l.places l.self.out;
}
