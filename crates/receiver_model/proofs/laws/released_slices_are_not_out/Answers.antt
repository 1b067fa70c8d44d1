use Rattle.receiver_model.proofs.Following.{datagram_out, finished_out}
use Rattle.receiver_model.proofs.laws.released_slices_are_not_out.Goals as goal

pub returns-clause-datagram : goal.returns-clause-datagram
returns-clause-datagram c = λ r size f small stands runs exchanges right d.
    datagram_out r size f small stands runs exchanges right d

pub returns-clause-at_end : goal.returns-clause-at_end
returns-clause-at_end c = finished_out
