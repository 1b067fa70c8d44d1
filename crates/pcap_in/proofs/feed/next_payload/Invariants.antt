use Rattle.std.proofs.Common.{◌≡◌, ◌+◌, ◌-◌, ◌*◌, ◌≤◌, [], None}
use Rattle.pcap_in.specs.Feeding.{Brought, feed_value}
use Rattle.pcap_in.proofs.feed.next_payload.Given as goal

abbrev pub invariant-records : goal.invariant-records
invariant-records g l = record {
  sound : l.r.fault ≡ None;
  counts : l.f.other ≤ l.f.records;
  few : l.f.records ≤ l.f.packets;
  packets : l.f.packets ≡ l.fn.f.packets;
  room : l.r.place + 262184 * (l.f.packets - l.f.records) ≤ l.fn.r.place + 262184 * (l.fn.f.packets - l.fn.f.records);
  borrows : l.r.source.ghost_name ≡ l.fn.r.source.ghost_name;
  brought : Brought (feed_value g.S.Source.left g.S.Source.faults l.fn.r l.fn.f) (feed_value g.S.Source.left g.S.Source.faults l.r l.f) [];
}

abbrev pub decreases-records : goal.decreases-records
decreases-records g l = l.f.packets - l.f.records
