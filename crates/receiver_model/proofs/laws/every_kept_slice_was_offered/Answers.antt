use Rattle.receiver_model.proofs.AllOffered.{none_offered, more_offered}
use Rattle.receiver_model.proofs.laws.every_kept_slice_was_offered.Goals as goal

pub returns-clause-none : goal.returns-clause-none
returns-clause-none c = none_offered

pub returns-clause-datagram : goal.returns-clause-datagram
returns-clause-datagram c = λ r size datagrams d small stands offered more was has.
    more_offered r size datagrams d small stands offered more was has
