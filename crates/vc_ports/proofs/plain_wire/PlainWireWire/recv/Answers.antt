use Rattle.std.proofs.Common.{refl, arith}
use Rattle.vc_ports.proofs.Coming.{no_end, one_gone, one_given}
use Rattle.vc_ports.proofs.plain_wire.PlainWireWire.recv.Goals as goal

pub returns-in-Some-clause-told : goal.returns-in-Some-clause-told
returns-in-Some-clause-told c = (
  omega (arith, c.give-count.ensures.count, c.give-count.ensures.room, c.requires.room, c.in-Some.ensures.1),
  record { first = rw c.give-count.ensures.front c.in-Some.ensures.0; told = rw (c.give-count.ensures.front, ← c.in-Some.ensures.0, ← c.self.view_is, one_gone, one_given) refl },
)

pub returns-in-Some-clause-state : goal.returns-in-Some-clause-state
returns-in-Some-clause-state c = rw (no_end _ _ _ c.in-Some.ensures.0, ← c.self.view_is, one_gone, one_given) refl
