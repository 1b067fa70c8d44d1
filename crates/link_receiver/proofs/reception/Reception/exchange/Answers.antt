use Rattle.std.specs.Prelude.{map}
use Rattle.link_receiver.proofs.CallSteps.{exchanges_then}
use Rattle.link_slices.specs.Jobs.{job_of}
use Rattle.link_receiver.proofs.reception.Reception.exchange.Goals as goal

pub returns-clause-exchanged : goal.returns-clause-exchanged
returns-clause-exchanged g c = exchanges_then c.take_back.result _ _ _ _ _ _ (map job_of c.args.jobs.items)
    c.in_ok-offer_all.ensures.exchanged c.take_back.ensures.exchanged
