use Rattle.std.proofs.Common.{if◌then◌else◌, [], ◌++◌, ◌≡◌, length, sym, ◌∙◌, append-nil}
use Rattle.std.proofs.lemmas.List.{length-map}
use Rattle.std.specs.Vec.{vec_items}
use Rattle.vc_ports.proofs.Coming.{front_at, next_behind, in_front, is_datagram, none_at}
use Rattle.vc_ports.specs.MemoryWires.{datagrams_in}
use Rattle.vc_ports.proofs.memory_wire.MemWire.next.Goals as goal

pub returns-in-Some-clause-next : goal.returns-in-Some-clause-next
returns-in-Some-clause-next c =
    let own = datagrams_in c.self.inside.datagrams.items in
    let got = rw c.deref.ensures.value at c.in-Some.ensures.one in
    let back = if c.self.inside.looped then c.self.inside.sent.pieces else [] in
    rw (← c.self.view_is) (
      front_at (own ++ back) c.self.inside.given c.in-Some.datagram.now (in_front own back c.self.inside.given c.in-Some.datagram.now got),
      is_datagram own c.self.inside.given c.in-Some.datagram.now c.self.invariant.1 got,
    )

pub returns-in-None-clause-next : goal.returns-in-None-clause-next
returns-in-None-clause-next c =
    let own = datagrams_in c.self.inside.datagrams.items in
    let none = rw c.deref.ensures.value at c.in-None.ensures.one in
    let count : length own ≡ c.len.result = length-map c.self.inside.datagrams.items vec_items ∙ (rw c.deref.ensures.value at c.deref.ensures.len) ∙ sym c.len.ensures in
    let got = rw (sym count) at c.get.ensures.piece in
    rw (← c.self.view_is, c.if-self.true) (next_behind (λ one. one.now) c.get.result own c.self.inside.sent.pieces c.self.inside.given c.self.invariant.2 none got)

pub returns-in-None-2-clause-next : goal.returns-in-None-2-clause-next
returns-in-None-2-clause-next c =
    let none = rw c.deref.ensures.value at c.in-None.ensures.one in
    rw (← c.self.view_is, c.if-self.false, append-nil) (none_at (datagrams_in c.self.inside.datagrams.items) c.self.inside.given none)
