use Rattle.receiver_model.proofs.CountedOutcomes.{outcomes_counted, frames_counted}
use Rattle.receiver_model.proofs.Following.{outcome_is, datagram_stands, datagram_writes}
use Rattle.receiver_model.proofs.laws.receivers_follow_datagrams.Goals as goal

pub returns-clause-outcome : goal.returns-clause-outcome
returns-clause-outcome c = outcome_is

pub returns-clause-counts : goal.returns-clause-counts
returns-clause-counts c = outcomes_counted

pub returns-clause-frames : goal.returns-clause-frames
returns-clause-frames c = frames_counted

pub returns-clause-stands : goal.returns-clause-stands
returns-clause-stands c = λ r size f small stands runs exchanges right d.
    datagram_stands r size f small stands runs exchanges right d

pub returns-clause-written : goal.returns-clause-written
returns-clause-written c = λ r size f small stands runs exchanges right d.
    datagram_writes r size f small stands runs exchanges right d
