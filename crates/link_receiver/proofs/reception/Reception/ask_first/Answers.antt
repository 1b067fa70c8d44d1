use Rattle.std.proofs.Common.{[], refl}
use Rattle.link_receiver.proofs.Asked.{keeps_none, keeps_twice}
use Rattle.link_receiver.proofs.CallSteps.{nothing_twice}
use Rattle.link_receiver.proofs.Exchanges.{no_call}
use Rattle.link_receiver.proofs.reception.Reception.ask_first.Goals as goal

pub loop-i-init : goal.loop-i-init
loop-i-init g c = record {
  exchanged = ([], no_call _ _, refl);
  places = keeps_none c.requires.below;
}

pub loop-i-preserved-then-branch : goal.loop-i-preserved-then-branch
loop-i-preserved-then-branch g c =
    let asked = c.in_ok-came.ensures.exchanged in
    record {
      exchanged = nothing_twice _ _ _ _ _ _ c.loop-i.invariant.exchanged (asked.0, asked.1, asked.2);
      places = keeps_twice c.loop-i.invariant.places c.ask.ensures.places;
    }

pub loop-i-preserved : goal.loop-i-preserved
loop-i-preserved g c =
    let asked = c.in_ok-came.ensures.exchanged in
    record {
      exchanged = nothing_twice _ _ _ _ _ _ c.loop-i.invariant.exchanged (asked.0, asked.1, asked.2);
      places = keeps_twice c.loop-i.invariant.places c.ask.ensures.places;
    }
