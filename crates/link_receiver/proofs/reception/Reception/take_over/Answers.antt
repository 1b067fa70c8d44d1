use Rattle.std.proofs.Common.{◌≡◌, true, subst, sym}
use Rattle.std.specs.Prelude.{is_some}
use Rattle.receiver_model.specs.Releasing.{next_picture}
use Rattle.receiver_model.specs.Receptions.{Reception}
use Rattle.std.proofs.lemmas.Result.{on_ok_weaker}
use Rattle.link_receiver.proofs.Stays.{below_got}
use Rattle.link_receiver.proofs.Steps.{takes_over}
use Rattle.link_receiver.specs.contracts.reception.Reception.{the_view}
use Rattle.link_slices.specs.Calls.{PlacesAreBelow}
use Rattle.link_receiver.proofs.reception.Reception.take_over.Goals as goal

pub take_back-requires-clause-place : goal.take_back-requires-clause-place
take_back-requires-clause-place g c =
    let below : PlacesAreBelow (g.P.Places.bound c.args.places.now) c.self.inside.out =
    subst (λ (r : Reception). PlacesAreBelow (g.P.Places.bound c.args.places.now) r.out)
    (sym c.self.view_is) c.requires.below in
    below_got _ c.self.inside.out c.args.i c.place-place.result below c.place-place.ensures

pub returns-clause-exchanged : goal.returns-clause-exchanged
returns-clause-exchanged g c =
    let released = subst (λ (r : Reception). is_some (next_picture r) ≡ true) (sym c.self.view_is) c.requires.released in
    rw (← c.self.view_is) (on_ok_weaker c.make_run.result
    (takes_over (g.P.Places.told c.args.places.now) (g.P.Places.told c.take_back.new.places)
    (the_view g.row.H c.self.inside) c.take_back.new.self c.make_run.new.self
    c.place-place.result c.in-Some.load.job released c.in-Some.ensures.told c.in-Some.ensures.out)
    c.make_run.ensures.made)
