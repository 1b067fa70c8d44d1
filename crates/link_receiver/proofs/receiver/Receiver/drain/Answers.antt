use Rattle.std.proofs.Common.{refl}
use Rattle.link_receiver.proofs.ListClauses.{drain_wrote, drain_part, drain_counts}
use Rattle.link_receiver.proofs.receiver.Receiver.drain.Goals as goal

pub returns-in-Ok-clause-wrote : goal.returns-in-Ok-clause-wrote
returns-in-Ok-clause-wrote g c form size datagrams h =
    drain_wrote c.self.view_is c.in-Ok.ensures.drained.1 h refl

pub returns-in-Ok-clause-counts : goal.returns-in-Ok-clause-counts
returns-in-Ok-clause-counts g c form size datagrams h =
    drain_counts c.self.view_is c.in-Ok.ensures.drained.1 h

pub returns-in-Err-clause-part : goal.returns-in-Err-clause-part
returns-in-Err-clause-part g c form size datagrams h =
    drain_part c.self.view_is _ _ h c.in-Err.ensures.failed
