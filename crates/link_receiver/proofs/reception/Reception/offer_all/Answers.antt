use Rattle.std.proofs.Common.{[], refl, rules, map-id}
use Rattle.std.proofs.lemmas.Iterator.Adapters.{YieldsList-from_vec}
use Rattle.std.proofs.lemmas.Iterator.Consumers.{YieldsList-end}
use Rattle.std.specs.Prelude.{map}
use Rattle.link_receiver.proofs.Asked.{keeps_none, keeps_twice}
use Rattle.link_receiver.proofs.CallSteps.{offers_all, offers_step}
use Rattle.link_receiver.proofs.Exchanges.{no_call}
use Rattle.link_slices.specs.Jobs.{job_of}
use Rattle.link_receiver.proofs.reception.Reception.offer_all.Goals as goal

pub loop-job-init : goal.loop-job-init
loop-job-init g c = record {
  exchanged = ([], no_call _ _, refl);
  places = keeps_none c.requires.below;
}

pub loop-job-preserved : goal.loop-job-preserved
loop-job-preserved g c = record {
  exchanged = offers_step _ _ _ _ _ _ c.loop-job.yielded c.in-Some.job
      c.loop-job.invariant.exchanged
      (rw c.spare_room-room.ensures.unchanged at c.in_ok-may_come.ensures.exchanged);
  places = keeps_twice c.loop-job.invariant.places c.offer.ensures.places;
}

pub returns-clause-exchanged : goal.returns-clause-exchanged
returns-clause-exchanged g c =
    let end = YieldsList-end (YieldsList-from_vec {s = c.into_iter-job-iterator.result} c.in_ok-runs.runs.items
    (search rules) (search rules)) c.loop-job.yielded c.loop-job.job-iterator c.loop-job.yielded_by
    c.next.result c.next.new.self c.in-None.is c.next.ensures.steps in
    offers_all _ _ _ _ c.in_ok-runs.runs.items (map job_of c.args.jobs.items) c.in_ok-runs.ensures.jobs (rw (← end.0, map-id) c.loop-job.invariant.exchanged)
