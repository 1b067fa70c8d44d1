use Rattle.receiver_model.proofs.DatagramJobs.{all_jobs}
use Rattle.receiver_model.proofs.laws.each_new_slice_is_offered.Goals as goal

pub returns : goal.returns
returns c = λ r size datagrams d stands n i job none is.
    all_jobs r size datagrams d stands n i job none is
