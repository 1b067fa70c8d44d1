use Rattle.std.proofs.Common.{◌∙◌, sym, subst}
use Rattle.machine_model.specs.Machine.{Enter}
use Rattle.machine_model.specs.Next.{next_feeder}
use Rattle.receiver_model.specs.Exchanging.{dones_in}
use Rattle.receiver_model.specs.Receptions.{Reception}
use Rattle.receiver_model.specs.Standing.{StandsFor}
use Rattle.link_slices.specs.Calls.{exchanges_of}
use Rattle.link_receiver.proofs.laws.entering_follows_the_list.Goals as goal

pub returns-clause-outcome : goal.returns-clause-outcome
returns-clause-outcome c outside old new d outcome calls e size datagrams h =
    e.judgement ∙ c.receivers_follow_datagrams.ensures.outcome old size datagrams d h

pub returns-clause-stands : goal.returns-clause-stands
returns-clause-stands c outside old new d outcome calls e size f l h going =
    subst (λ (r : Reception). StandsFor r size
    (next_feeder size f (Enter d) (dones_in (exchanges_of calls)))) (sym e.value)
    (c.receivers_follow_datagrams.ensures.stands old size f l h going (exchanges_of calls)
    e.decodings d)

pub returns-clause-written : goal.returns-clause-written
returns-clause-written c outside old new d outcome calls e size f l h going =
    c.receivers_follow_datagrams.ensures.written old size f l h going (exchanges_of calls)
    e.decodings d
