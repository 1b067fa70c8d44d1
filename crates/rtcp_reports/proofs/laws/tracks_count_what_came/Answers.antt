use Rattle.rtcp_reports.proofs.Arrivals.{ends_probation, highest_is, lost_is}
use Rattle.rtcp_reports.proofs.laws.tracks_count_what_came.Goals as goal

pub returns-clause-probation : goal.returns-clause-probation
returns-clause-probation c = ends_probation

pub returns-clause-highest : goal.returns-clause-highest
returns-clause-highest c = highest_is

pub returns-clause-lost : goal.returns-clause-lost
returns-clause-lost c = lost_is
