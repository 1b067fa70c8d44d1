use Rattle.link_model.specs.Session.{sessions_of}
use Rattle.receiver_model.proofs.OutKept.{offered_not_out, datagram_out_kept, end_out_kept}
use Rattle.receiver_model.proofs.laws.offered_slices_are_not_out.Goals as goal

pub returns-clause-not_out : goal.returns-clause-not_out
returns-clause-not_out c = λ r size datagrams d small stands kept job there.
    offered_not_out r size datagrams d small stands kept job there

pub returns-clause-none : goal.returns-clause-none
returns-clause-none c = λ size. tt

pub returns-clause-datagram : goal.returns-clause-datagram
returns-clause-datagram c = λ r size datagrams d small stands kept exchanges offers.
    datagram_out_kept r size datagrams d small stands kept exchanges offers

pub returns-clause-at_end : goal.returns-clause-at_end
returns-clause-at_end c = λ r size datagrams kept exchanges offers.
    end_out_kept size (sessions_of datagrams) r kept exchanges offers
