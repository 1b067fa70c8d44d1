use Rattle.std.proofs.Common.{refl}
use Rattle.link_receiver.proofs.ListClauses.{enter_offered, enter_judged, enter_heard, enter_chosen, enter_wrote, enter_part}
use Rattle.link_receiver.proofs.receiver.Receiver.enter.Goals as goal

pub returns-in-Ok-clause-judged : goal.returns-in-Ok-clause-judged
returns-in-Ok-clause-judged g c form size datagrams h =
    enter_judged c.self.view_is c.in-Ok.ensures.entered.1 h

pub returns-in-Ok-clause-heard : goal.returns-in-Ok-clause-heard
returns-in-Ok-clause-heard g c form size datagrams h =
    enter_heard c.self.view_is c.in-Ok.ensures.entered.1 h refl

pub returns-in-Ok-clause-wrote : goal.returns-in-Ok-clause-wrote
returns-in-Ok-clause-wrote g c form size datagrams h =
    enter_wrote c.self.view_is c.in-Ok.ensures.entered.1 h refl

pub returns-in-Ok-clause-offered : goal.returns-in-Ok-clause-offered
returns-in-Ok-clause-offered g c = enter_offered c.self.view_is c.in-Ok.ensures.entered.1

pub returns-in-Ok-clause-chosen : goal.returns-in-Ok-clause-chosen
returns-in-Ok-clause-chosen g c form size datagrams h =
    enter_chosen c.self.view_is c.in-Ok.ensures.entered.1 h

pub returns-clause-part : goal.returns-clause-part
returns-clause-part g c form size datagrams h =
    enter_part c.self.view_is _ _ h c.args.datagram c.in-Err.ensures.failed
