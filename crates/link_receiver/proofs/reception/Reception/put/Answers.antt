use Rattle.link_receiver.proofs.Asked.{asked_put}
use Rattle.link_receiver.proofs.Steps.{put_calls}
use Rattle.link_receiver.specs.contracts.reception.Reception.{the_view}
use Rattle.link_receiver.proofs.reception.Reception.put.Goals as goal

pub returns-clause-exchanged : goal.returns-clause-exchanged
returns-clause-exchanged g c =
    rw (← c.self.view_is) (put_calls c.offer.result (g.P.Places.told c.args.places.now)
    (g.P.Places.told c.offer.new.places) (the_view g.row.H c.self.inside) c.offer.new.self c.args.load.job c.offer.ensures.offered)

pub returns-clause-places : goal.returns-clause-places
returns-clause-places g c = record {
  asked = asked_put g.P.Places.told c.args.places.now c.offer.new.places _ _ c.offer.result _ _
      c.args.load.job (returns-clause-exchanged g c) c.offer.ensures.unchanged;
  same_bound = c.offer.ensures.bound;
  below = c.offer.ensures.below;
}
