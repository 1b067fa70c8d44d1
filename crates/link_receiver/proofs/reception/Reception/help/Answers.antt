use Rattle.std.proofs.Common.{[], refl, ap, ◌∙◌}
use Rattle.std.specs.Prelude.{is_some}
use Rattle.link_receiver.proofs.Asked.{keeps_none, keeps_twice}
use Rattle.link_receiver.proofs.CallSteps.{nothing_twice, same_next_picture}
use Rattle.link_receiver.proofs.Exchanges.{no_call}
use Rattle.link_receiver.proofs.reception.Reception.help.Goals as goal

pub loop-i-init : goal.loop-i-init
loop-i-init g c = record {
  exchanged = ([], no_call _ _, refl);
  places = keeps_none c.requires.below;
}

-- a picture may be released still
pub take_over-requires-clause-released : goal.take_over-requires-clause-released
take_over-requires-clause-released g c =
    let all = c.loop-i.invariant.exchanged in
    ap is_some (same_next_picture _ _ _ _ all.0 all.1) ∙ c.requires.released

pub loop-i-preserved : goal.loop-i-preserved
loop-i-preserved g c = record {
  exchanged = nothing_twice _ _ _ _ _ _ c.loop-i.invariant.exchanged c.in_ok-take_over.ensures.exchanged;
  places = keeps_twice c.loop-i.invariant.places c.take_over.ensures.places;
}

pub returns-clause-exchanged : goal.returns-clause-exchanged
returns-clause-exchanged g c =
    let all = c.in_ok-_came.ensures.exchanged in
    nothing_twice _ _ _ _ _ _ c.loop-i.invariant.exchanged (all.0, all.1, all.2)
