use Rattle.std.proofs.Common.{◌∙◌, ap, sym, subst}
use Rattle.machine_model.specs.Machine.{Finish}
use Rattle.machine_model.specs.Next.{next_feeder}
use Rattle.receiver_model.specs.Exchanging.{dones_in}
use Rattle.receiver_model.specs.Receptions.{Reception}
use Rattle.receiver_model.specs.Standing.{StandsFor}
use Rattle.link_slices.specs.Calls.{exchanges_of}
use Rattle.link_receiver.proofs.laws.draining_follows_the_list.Goals as goal

pub returns-clause-stands : goal.returns-clause-stands
returns-clause-stands c outside old new calls e size f l h going =
    subst (λ (r : Reception). StandsFor r size
    (next_feeder size f Finish (dones_in (exchanges_of calls)))) (sym e.value)
    (c.receivers_follow_the_end.ensures.stands old size f l h going (exchanges_of calls)
    e.decodings)

pub returns-clause-written : goal.returns-clause-written
returns-clause-written c outside old new calls e size f l h going =
    c.receivers_follow_the_end.ensures.written old size f l h going (exchanges_of calls)
    e.decodings

pub returns-clause-counts : goal.returns-clause-counts
returns-clause-counts c outside old new calls e size f l h going =
    ap (λ (r : Reception). r.counts) e.value
    ∙ c.receivers_follow_the_end.ensures.counts old size f l h going (exchanges_of calls)
    e.decodings
