use Rattle.receiver_model.proofs.DatagramJobs.{only_jobs, open_jobs}
use Rattle.receiver_model.proofs.UnansweredJobs.{offered_unreleased, offered_unanswered}
use Rattle.receiver_model.proofs.laws.only_new_slices_are_offered.Goals as goal

pub returns-clause-kept : goal.returns-clause-kept
returns-clause-kept c = λ r size datagrams d stands small job there.
    only_jobs r size datagrams d stands small job there

pub returns-clause-unclosed : goal.returns-clause-unclosed
returns-clause-unclosed c = λ r size datagrams d stands some small job there.
    open_jobs r size datagrams d stands some small job there

pub returns-clause-unreleased : goal.returns-clause-unreleased
returns-clause-unreleased c = λ r size f small stands runs d job there.
    offered_unreleased r size f small stands runs d job there

pub returns-clause-unanswered : goal.returns-clause-unanswered
returns-clause-unanswered c = λ r size f small stands runs d job there.
    offered_unanswered r size f small stands runs d job there
