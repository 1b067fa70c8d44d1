-- A record that a feed reads, by what came of it.
use Rattle.std.proofs.Common.{◌≡◌, ℕ, ◌+◌, ◌≤◌, ◌<◌, [], ◌∷◌, length, slice_range, Some, None, Ok, ap, arith}
use Rattle.std.specs.Global.{Vec}
use Rattle.pcap_in.specs.Reading.{ReadsNext, head_place, place_after_record}
use Rattle.pcap_in.specs.Feeding.{FeedValue, HasRead, Brought, BroughtPayload, BroughtLast, StandsIn, part_of, payloads_of}
use Rattle.pcap_in.proofs.Streams.{one_record, no_record, headed}
use Rattle.pcap_in.proofs.Passing.{one_payload, one_other, payloads_of-none}

-- the settings stay, and no fault is taken back
pub record IsSame (x y : FeedValue) : Type 0 where
  pub port : y.port ≡ x.port
  pub packets : y.packets ≡ x.packets
  pub later : x.faults ≤ y.faults

-- a record more was wanted, was read, and is counted
pub record IsNext (x y : FeedValue) (kept : Vec ℕ) : Type 0 where
  pub same : IsSame x y
  pub wanted : x.records < x.packets
  pub counted : y.records ≡ x.records + 1
  pub reads : ReadsNext x.point.head y.point.head x.left y.left x.point.place (Ok (Some kept))
  pub moved : y.point.place ≡ place_after_record (head_place x.point.head y.point.head x.point.place) (Ok (Some kept))

has_read : (x y : FeedValue) (kept : Vec ℕ) → IsNext x y kept → y.other + length (payloads_of y.point.head x.port (kept.items ∷ [])) ≡ x.other + 1 → HasRead x y (kept.items ∷ [])
has_read x y kept next others = record {
  gave = one_record x.left y.left x.point y.point kept next.reads next.moved;
  counted = next.counted;
  few = λ within. omega (arith, next.wanted, next.counted);
  others = others;
  port = next.same.port;
  packets = next.same.packets;
  later = next.same.later;
}

-- it carries a payload
pub payload_step : (x y : FeedValue) (kept : Vec ℕ) (from to : ℕ) → IsNext x y kept → y.other ≡ x.other → part_of y.point.head x.port kept.items ≡ Some (from, to) → StandsIn kept.items from to
    → BroughtPayload x y (record { kept = kept; from = from; to = to })
payload_step x y kept from to next others part stands =
    let one : payloads_of y.point.head x.port (kept.items ∷ []) ≡ slice_range kept.items from to ∷ [] = one_payload y.point.head x.port kept.items from to part in
    record {
      brought = record {
        records = kept.items ∷ [];
        read = has_read x y kept next (omega (arith, ap length one, others));
        payloads_are = one;
      };
      stands = stands;
    }

-- it carries none
pub other_step : (x y : FeedValue) (kept : Vec ℕ) → IsNext x y kept → y.other ≡ x.other + 1 → part_of y.point.head x.port kept.items ≡ None → Brought x y []
other_step x y kept next others part =
    let none : payloads_of y.point.head x.port (kept.items ∷ []) ≡ [] = one_other y.point.head x.port kept.items part in
    record {
      records = kept.items ∷ [];
      read = has_read x y kept next (omega (arith, ap length none, others));
      payloads_are = none;
    }

-- the source ended
pub last_step : (x y : FeedValue) → ReadsNext x.point.head y.point.head x.left y.left x.point.place (Ok None)
    → y.point.place ≡ place_after_record (head_place x.point.head y.point.head x.point.place) (Ok None) → IsSame x y → y.records ≡ x.records → y.other ≡ x.other → BroughtLast x y
last_step x y read moved same counted others =
    let ended = no_record x.left y.left x.point y.point read moved in
    let none : payloads_of y.point.head x.port [] ≡ [] = payloads_of-none y.point.head x.port in
    record {
      brought = record {
        records = [];
        read = record {
          gave = ended.0;
          counted = omega (arith, counted);
          few = λ within. omega (arith, counted);
          others = omega (arith, ap length none, others);
          port = same.port;
          packets = same.packets;
          later = same.later;
        };
        payloads_are = none;
      };
      headed = headed x.left y.left x.point.head y.point.head x.point.place read;
      ended = ended.1;
    }
