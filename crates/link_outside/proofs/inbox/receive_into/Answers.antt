use Rattle.std.proofs.Common.{subst, sym}
use Rattle.vc_ports.specs.Wires.{Receives}
use Rattle.link_outside.specs.Calls.{lost, passes_given}
use Rattle.link_outside.proofs.inbox.receive_into.Goals as goal

pub returns-in_err-datagram-in-Datagram-clause-told : goal.returns-in_err-datagram-in-Datagram-clause-told
returns-in_err-datagram-in-Datagram-clause-told g c =
    lost (g.N.Wire.told c.args.wire.now) (g.N.Wire.told c.recv.new.self) _ c.from_residual.result c.from_residual.ensures.0 c.in-Datagram.ensures.told.1

pub returns-in_ok-datagram-in-Datagram-clause-told : goal.returns-in_ok-datagram-in-Datagram-clause-told
returns-in_ok-datagram-in-Datagram-clause-told g c =
    passes_given (g.N.Wire.told c.args.wire.now) (g.N.Wire.told c.recv.new.self) c.in_ok-datagram-in-Datagram.datagram
    (subst (Receives (g.N.Wire.told c.args.wire.now) (g.N.Wire.told c.recv.new.self)) (sym c.in_ok-datagram-in-Datagram.ensures) c.in-Datagram.ensures.told.1)
