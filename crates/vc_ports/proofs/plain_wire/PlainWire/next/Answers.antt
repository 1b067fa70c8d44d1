use Rattle.vc_ports.proofs.Coming.{next_of}
use Rattle.vc_ports.specs.MemoryWires.{datagrams_in}
use Rattle.vc_ports.proofs.plain_wire.PlainWire.next.Goals as goal

pub returns : goal.returns
returns c = rw (← c.self.view_is) (next_of (λ one. one.now) c.datagram_at.result (datagrams_in c.self.inside.datagrams.items) c.self.inside.given c.self.invariant.1 (rw c.deref.ensures.value at c.datagram_at.ensures.one))
