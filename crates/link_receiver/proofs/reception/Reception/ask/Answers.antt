use Rattle.std.proofs.Common.{◌≡◌, ◌≤◌, subst, sym, ap, [], ◌∷◌, refl, length, Some, None, arith}
use Rattle.receiver_model.specs.Receptions.{Reception}
use Rattle.link_receiver.proofs.Asked.{asked_take}
use Rattle.link_receiver.proofs.Exchanges.{no_call}
use Rattle.link_receiver.proofs.Stays.{asked_past, asked_got, below_got}
use Rattle.link_receiver.proofs.Steps.{take_some, take_none}
use Rattle.link_slices.specs.Calls.{Takes, PlacesAreBelow}
use Rattle.link_receiver.specs.contracts.reception.Reception.{the_view}
use Rattle.link_receiver.proofs.reception.Reception.ask.Goals as goal

pub returns-then-i-count-clause-exchanged : goal.returns-then-i-count-clause-exchanged
returns-then-i-count-clause-exchanged g c =
    let same : length c.self.inside.out ≡ length c.args.self.now.out =
    ap (λ (r : Reception). length r.out) c.self.view_is in
    let past : length c.args.self.now.out ≤ c.args.i =
    omega (arith, same, c.count.ensures, c.if-i-count.true) in
    ([], no_call _ _, refl, asked_past c.args.self.now.out c.args.i past)

pub ask-requires-clause-place : goal.ask-requires-clause-place
ask-requires-clause-place g c =
    let below : PlacesAreBelow (g.P.Places.bound c.args.places.now) c.self.inside.out =
    subst (λ (r : Reception). PlacesAreBelow (g.P.Places.bound c.args.places.now) r.out)
    (sym c.self.view_is) c.requires.below in
    below_got _ c.self.inside.out c.args.i c.place-place.result below c.place-place.ensures

pub returns-in_ok-accept-in-Some-clause-exchanged :
    goal.returns-in_ok-accept-in-Some-clause-exchanged
returns-in_ok-accept-in-Some-clause-exchanged g c =
    rw (← c.self.view_is) (
      Takes c.place-place.result (Some c.in-Some.done) ∷ [],
      take_some (g.P.Places.told c.args.places.now) (g.P.Places.told c.ask.new.places) (the_view g.row.H c.self.inside)
          c.ask.new.self c.accept.new.self c.place-place.result c.in-Some.done
          c.in-Some.ensures.told c.in-Some.ensures.out c.in_ok-accept-in-Some.ensures.value,
      refl,
      asked_got c.self.inside.out c.args.i c.place-place.result c.place-place.ensures,
    )

pub returns-in-None-clause-exchanged : goal.returns-in-None-clause-exchanged
returns-in-None-clause-exchanged g c =
    rw (← c.self.view_is) (
      Takes c.place-place.result None ∷ [],
      take_none (g.P.Places.told c.args.places.now) (g.P.Places.told c.ask.new.places) (the_view g.row.H c.self.inside)
          c.ask.new.self c.place-place.result c.in-None.ensures.told c.in-None.ensures.out,
      refl,
      asked_got c.self.inside.out c.args.i c.place-place.result c.place-place.ensures,
    )

pub returns-in_err-accept-in-Some-clause-places : goal.returns-in_err-accept-in-Some-clause-places
returns-in_err-accept-in-Some-clause-places g c = record {
  asked = asked_take _ _ c.place-place.result (Some c.in-Some.done) c.in-Some.ensures.told;
  same_bound = c.ask.ensures.bound;
  below = rw c.accept.ensures.out c.ask.ensures.below;
}

pub returns-in_ok-accept-in-Some-clause-places : goal.returns-in_ok-accept-in-Some-clause-places
returns-in_ok-accept-in-Some-clause-places g c = record {
  asked = asked_take _ _ c.place-place.result (Some c.in-Some.done) c.in-Some.ensures.told;
  same_bound = c.ask.ensures.bound;
  below = rw c.accept.ensures.out c.ask.ensures.below;
}

pub returns-in-None-clause-places : goal.returns-in-None-clause-places
returns-in-None-clause-places g c = record {
  asked = asked_take _ _ c.place-place.result None c.in-None.ensures.told;
  same_bound = c.ask.ensures.bound;
  below = c.ask.ensures.below;
}
