use Rattle.std.proofs.Common.{Ok, refl, ap}
use Rattle.cmd_receive.proofs.Arriving.{given_lost, one_given, wire_ended, wire_failed}
use Rattle.cmd_receive.proofs.wire_inlet.WireInletInlet.next.Goals as goal

pub returns-in-Ok-Datagram-clause-brings : goal.returns-in-Ok-Datagram-clause-brings
returns-in-Ok-Datagram-clause-brings g c =
    let now = c.in-Ok-Datagram.ensures in
    (refl, one_given _ _ _ _ now.cause.later _ (rw c.in-Ok-Datagram.field-0-is at now.told))

pub returns-in-Ok-End-clause-brings : goal.returns-in-Ok-End-clause-brings
returns-in-Ok-End-clause-brings g c =
    let now = c.in-Ok-End.ensures in
    let told = rw c.in-Ok-End.field-0-is at now.told in
    (refl, wire_ended _ _ _ _ now.cause.later told.1 told.0)

pub returns-in-Ok-Failed-clause-brings : goal.returns-in-Ok-Failed-clause-brings
returns-in-Ok-Failed-clause-brings g c =
    let now = c.in-Ok-Failed.ensures in (
      refl,
      wire_failed _ _ _ _ now.cause.later (rw c.in-Ok-Failed.field-0-is at now.told)
          (now.cause.rose (ap Ok c.in-Ok-Failed.field-0-is)),
    )

pub returns-in-Err-clause-brings : goal.returns-in-Err-clause-brings
returns-in-Err-clause-brings g c =
    let now = c.in-Err.ensures in
    (refl, given_lost _ _ _ _ now.cause.later now.told)
