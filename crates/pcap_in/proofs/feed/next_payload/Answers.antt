use Rattle.std.proofs.Common.{refl, arith, ◌∙◌}
use Rattle.pcap_in.proofs.Passing.{Brought-none, then_none, then_payload, then_last}
use Rattle.pcap_in.proofs.feed.next_payload.Goals as goal

pub records-init : goal.records-init
records-init g c = record {
  sound = c.requires.sound;
  counts = c.requires.counts;
  few = c.requires.few;
  packets = refl;
  room = omega arith;
  borrows = refl;
  brought = Brought-none _;
}

-- a record that carries nothing
pub records-preserved : goal.records-preserved
records-preserved g c =
    let was = c.records.invariant in
    let did = rw c.in-Other.is at c.in_ok-payload.ensures.did in
    let one = c.in_ok-payload.ensures in
    record {
      sound = one.sound;
      counts = one.counts;
      few = omega (arith, one.records, one.packets, c.records-test.true);
      packets = one.packets ∙ was.packets;
      room = omega (arith, did.0, one.packets, one.grows, was.room, c.records-test.true);
      borrows = one.borrows ∙ was.borrows;
      brought = then_none _ _ _ was.brought did.1;
    }

pub returns-in-Payload-clause-feeds : goal.returns-in-Payload-clause-feeds
returns-in-Payload-clause-feeds g c =
    then_payload _ _ _ c.in-Payload.payload c.records.invariant.brought (rw c.in-Payload.is at c.in_ok-payload.ensures.did)

pub returns-in-End-clause-feeds : goal.returns-in-End-clause-feeds
returns-in-End-clause-feeds g c = then_last _ _ _ c.records.invariant.brought (rw c.in-End.is at c.in_ok-payload.ensures.did)
