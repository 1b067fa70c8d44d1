use Rattle.std.proofs.Common.{drop, refl, arith}
use Rattle.std.proofs.lemmas.List.{length-take-le}
use Rattle.vc_ports.proofs.Coming.{no_end, one_gone, one_given}
use Rattle.vc_ports.specs.MemoryWires.{datagrams_in, queue}
use Rattle.vc_ports.proofs.memory_wire.MemWireWire.recv.Goals as goal

pub overflow_add-self : goal.overflow_add-self
overflow_add-self c =
    let all = queue (datagrams_in c.self.inside.datagrams.items) c.self.inside.looped c.self.inside.sent.pieces in
    omega (arith, c.in-Some.ensures.few, length-take-le c.self.inside.given all c.self.invariant.0)

pub returns-in-Some-clause-told : goal.returns-in-Some-clause-told
returns-in-Some-clause-told c = (
  omega (arith, c.give-count.ensures.count, c.give-count.ensures.room, c.requires.room, c.in-Some.ensures.next.1),
  record { first = rw (c.give-count.ensures.front, ← c.self.view_is) c.in-Some.ensures.next.0; told = rw (c.give-count.ensures.front, ← c.in-Some.ensures.next.0, ← c.self.view_is, one_gone, one_given) refl },
)

pub returns-in-Some-clause-state : goal.returns-in-Some-clause-state
returns-in-Some-clause-state c =
    let all = queue (datagrams_in c.self.inside.datagrams.items) c.self.inside.looped c.self.inside.sent.pieces in
    rw (← c.self.view_is, c.refuses.ensures.state, ← c.refuses.ensures.value, c.if-refuses.false)
    (rw (no_end (drop c.self.inside.given all) c.in-Some.datagram.now c.self.inside.counts c.in-Some.ensures.next.0, one_gone, one_given) refl)
