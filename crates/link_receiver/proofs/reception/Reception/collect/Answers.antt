use Rattle.std.proofs.Common.{[], refl}
use Rattle.link_receiver.proofs.Asked.{keeps_none, keeps_twice}
use Rattle.link_receiver.proofs.CallSteps.{nothing_twice}
use Rattle.link_receiver.proofs.Exchanges.{no_call}
use Rattle.link_receiver.proofs.reception.Reception.collect.Goals as goal

pub loop-init : goal.loop-init
loop-init g c = record {
  exchanged = ([], no_call _ _, refl);
  places = keeps_none c.requires.below;
}

pub loop-preserved : goal.loop-preserved
loop-preserved g c =
    let asked = c.in_ok-ask.ensures.exchanged in
    record {
      exchanged = nothing_twice _ _ _ _ _ _ c.loop.invariant.exchanged (asked.0, asked.1, asked.2);
      places = keeps_twice c.loop.invariant.places c.ask.ensures.places;
    }

pub returns-then-not-branch-clause-exchanged : goal.returns-then-not-branch-clause-exchanged
returns-then-not-branch-clause-exchanged g c =
    let asked = c.in_ok-ask.ensures.exchanged in
    nothing_twice _ _ _ _ _ _ c.loop.invariant.exchanged (asked.0, asked.1, asked.2)
