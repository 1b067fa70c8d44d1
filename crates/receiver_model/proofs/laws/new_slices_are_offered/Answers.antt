use Rattle.receiver_model.proofs.OfferedJobs.{all_offered, only_offered}
use Rattle.receiver_model.proofs.laws.new_slices_are_offered.Goals as goal

pub returns-clause-every : goal.returns-clause-every
returns-clause-every c = all_offered

pub returns-clause-only : goal.returns-clause-only
returns-clause-only c = only_offered
