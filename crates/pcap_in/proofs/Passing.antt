-- Records that were read, and the payloads that they carry.
use Rattle.std.proofs.Common.{◌≡◌, ℕ, ◌≤◌, List, [], ◌∷◌, ◌++◌, length, slice_range, Option, Some, None, refl, sym, ap, ◌∙◌, arith}
use Rattle.std.proofs.lemmas.List.{length-append}
use Rattle.std.proofs.lemmas.List.Elements.{filter_map-append}
use Rattle.pcap_in.specs.Frames.{payload_in}
use Rattle.pcap_in.specs.Feeding.{ReadsOn, part_of, payloads_of, FeedValue, HasRead, Brought, BroughtPayload, BroughtLast}
use Rattle.pcap_in.specs.declared.feed.Payload.{Payload}
use Rattle.pcap_in.specs.declared.head.FileHead.{FileHead}
use Rattle.pcap_in.proofs.Streams.{GaveRecords-none, GaveRecords-then}

-- ---- payloads

pub payloads_of-none : (head : Option FileHead) (port : ℕ) → payloads_of head port [] ≡ []
payloads_of-none None port = refl
payloads_of-none (Some head) port = refl

pub payloads_of-then : (head : Option FileHead) (port : ℕ) (a b : List (List ℕ)) → payloads_of head port (a ++ b) ≡ payloads_of head port a ++ payloads_of head port b
payloads_of-then None port a b = refl
payloads_of-then (Some head) port a b = filter_map-append (payload_in head.network port) a b

-- one record that carries a payload, and one that doesn't
pub one_payload : (head : Option FileHead) (port : ℕ) (kept : List ℕ) (from to : ℕ) → part_of head port kept ≡ Some (from, to) → payloads_of head port (kept ∷ []) ≡ slice_range kept from to ∷ []
one_payload None port kept from to is = absurd cc
one_payload (Some head) port kept from to is = rw is refl

pub one_other : (head : Option FileHead) (port : ℕ) (kept : List ℕ) → part_of head port kept ≡ None → payloads_of head port (kept ∷ []) ≡ []
one_other None port kept is = refl
one_other (Some head) port kept is = rw is refl

-- a head that is known stays, and before it is known there are no records
pub payloads_of-stays : (port : ℕ) (x m y : Option FileHead) (first second : List ℕ) (a b : List (List ℕ)) → ReadsOn x m first a → ReadsOn m y second b → payloads_of m port a ≡ payloads_of y port a
payloads_of-stays port None None y first second a b p q = rw p.1 (sym (payloads_of-none y port))
payloads_of-stays port (Some head) None y first second a b p q = let none : None ≡ Some head = p.0 in absurd cc
payloads_of-stays port x (Some head) y first second a b p q = ap (λ (k : Option FileHead). payloads_of k port a) (sym q.0)

-- ---- what a feed read

pub HasRead-none : (x : FeedValue) → HasRead x x []
HasRead-none x = record {
  gave = GaveRecords-none x.left x.point;
  counted = omega arith;
  few = λ within. within;
  others = omega (arith, ap length (payloads_of-none x.point.head x.port));
  port = refl;
  packets = refl;
  later = omega arith;
}

both : (x m y : FeedValue) (a b : List (List ℕ)) → HasRead x m a → HasRead m y b → payloads_of y.point.head x.port (a ++ b) ≡ payloads_of m.point.head x.port a ++ payloads_of y.point.head m.port b
both x m y a b p q =
    payloads_of-then y.point.head x.port a b
    ∙ ap (λ (l : List (List ℕ)). l ++ payloads_of y.point.head x.port b) (sym (payloads_of-stays x.port x.point.head m.point.head y.point.head p.gave.bytes q.gave.bytes a b p.gave.are q.gave.are))
    ∙ ap (λ (port : ℕ). payloads_of m.point.head x.port a ++ payloads_of y.point.head port b) (sym p.port)

few_then : (x m y : FeedValue) (a b : List (List ℕ)) → HasRead x m a → HasRead m y b → x.records ≤ x.packets → y.records ≤ x.packets
few_then x m y a b p q within =
    let first : m.records ≤ x.packets = p.few within in
    let second : y.records ≤ m.packets = q.few (omega (arith, first, p.packets)) in
    omega (arith, second, p.packets)

pub HasRead-then : (x m y : FeedValue) (a b : List (List ℕ)) → HasRead x m a → HasRead m y b → HasRead x y (a ++ b)
HasRead-then x m y a b p q =
    let all = length-append a b in
    let carry = ap length (both x m y a b p q) in
    let parts = length-append (payloads_of m.point.head x.port a) (payloads_of y.point.head m.port b) in
    record {
      gave = GaveRecords-then x.left m.left y.left x.point m.point y.point a b p.gave q.gave;
      counted = omega (arith, all, p.counted, q.counted);
      few = few_then x m y a b p q;
      others = omega (arith, all, carry, parts, p.others, q.others);
      port = q.port ∙ p.port;
      packets = q.packets ∙ p.packets;
      later = omega (arith, p.later, q.later);
    }

pub Brought-none : (x : FeedValue) → Brought x x []
Brought-none x = record { records = []; read = HasRead-none x; payloads_are = payloads_of-none x.point.head x.port }

pub Brought-then : (x m y : FeedValue) (a b : List (List ℕ)) → Brought x m a → Brought m y b → Brought x y (a ++ b)
Brought-then x m y a b p q = record {
  records = p.records ++ q.records;
  read = HasRead-then x m y p.records q.records p.read q.read;
  payloads_are =
      both x m y p.records q.records p.read q.read
      ∙ ap (λ (l : List (List ℕ)). l ++ payloads_of y.point.head m.port q.records) p.payloads_are
      ∙ ap (λ (l : List (List ℕ)). a ++ l) q.payloads_are;
}

-- behind records that carry nothing
pub then_none : (x m y : FeedValue) → Brought x m [] → Brought m y [] → Brought x y []
then_none x m y p q = Brought-then x m y [] [] p q

pub then_payload : (x m y : FeedValue) (p : Payload) → Brought x m [] → BroughtPayload m y p → BroughtPayload x y p
then_payload x m y p before last = record {
  brought = Brought-then x m y [] (slice_range p.kept.items p.from p.to ∷ []) before last.brought;
  stands = last.stands;
}

pub then_last : (x m y : FeedValue) → Brought x m [] → BroughtLast m y → BroughtLast x y
then_last x m y before last = record { brought = then_none x m y before last.brought; headed = last.headed; ended = last.ended }
