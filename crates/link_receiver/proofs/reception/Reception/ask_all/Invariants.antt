use Rattle.std.proofs.Common.{◌≡◌, [], List, take}
use Rattle.link_receiver.proofs.Stays.{AreAskedOrIn}
use Rattle.link_receiver.specs.Exchanged.{IsExchanged, KeepsPlaces}
use Rattle.link_receiver.specs.Offers.{asked_in, proposed_in}
use Rattle.link_slices.specs.Calls.{PlaceCall, exchanges_of}
use Rattle.link_receiver.proofs.reception.Reception.ask_all.Given as goal

abbrev pub invariant-loop-i : goal.invariant-loop-i
invariant-loop-i g l = record {
  exchanged : (calls : List PlaceCall)
      × IsExchanged (g.P.Places.told l.fn.places) (g.P.Places.told l.places) l.fn.self l.self calls
      × (proposed_in (exchanges_of calls) ≡ [])
      × AreAskedOrIn l.fn.self.out (asked_in (exchanges_of calls)) (take l.i l.self.out);
  places : KeepsPlaces g.P.Places.told g.P.Places.bound l.fn.places l.places l.self.out;
}
