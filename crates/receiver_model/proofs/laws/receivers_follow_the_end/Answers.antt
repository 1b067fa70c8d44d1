use Rattle.receiver_model.proofs.Following.{finished_stands, finished_writes, finished_counts}
use Rattle.receiver_model.proofs.laws.receivers_follow_the_end.Goals as goal

pub returns-clause-stands : goal.returns-clause-stands
returns-clause-stands c = finished_stands

pub returns-clause-written : goal.returns-clause-written
returns-clause-written c = finished_writes

pub returns-clause-counts : goal.returns-clause-counts
returns-clause-counts c = finished_counts
