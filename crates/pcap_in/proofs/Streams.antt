-- Records one after another, and the bytes that a source gave from one point of a file to another.
use Rattle.std.proofs.Common.{◌≡◌, ℕ, suc, ◌+◌, List, [], ◌∷◌, ◌++◌, length, Option, Some, None, IsSome, Ok, refl, sym, ap, subst, ◌∙◌, append_assoc, zero-add, arith}
use Rattle.std.proofs.Math.Numerals.{one-add}
use Rattle.std.proofs.lemmas.List.{length-append}
use Rattle.std.specs.Global.{Vec}
use Rattle.vc_ports.specs.Reading.{IsAtEnd}
use Rattle.vc_ports.proofs.Given.{Gave-none, Gave-then}
use Rattle.pcap_in.specs.Pcap.{pcap_record, records_within}
use Rattle.pcap_in.specs.Reading.{ReadsNext, head_place, place_after_record}
use Rattle.pcap_in.specs.Feeding.{AreRecords, ReadsOn, FilePoint, GaveRecords, all_before}
use Rattle.pcap_in.specs.declared.head.FileHead.{FileHead}
use Rattle.pcap_in.specs.declared.head.Order.{Order}

-- ---- whole records

-- none
pub AreRecords-none : (order : Order) → AreRecords order [] []
AreRecords-none order = record { split = λ most more. rw (zero-add most) refl }

-- one
pub AreRecords-one : (order : Order) (bytes kept : List ℕ) → ((more : List ℕ) → pcap_record order (bytes ++ more) ≡ Ok (kept, more)) → AreRecords order bytes (kept ∷ [])
unfolding records_within
AreRecords-one order bytes kept is = record { split = λ most more. rw (one-add most) (first most more) }
  where
    first : (most : ℕ) (more : List ℕ) → records_within (suc most) order (bytes ++ more) ≡ all_before (kept ∷ []) (records_within most order more)
    first most more = rw (is more) refl

-- some, and some behind them
pub AreRecords-then : (order : Order) (first second : List ℕ) (a b : List (List ℕ)) → AreRecords order first a → AreRecords order second b → AreRecords order (first ++ second) (a ++ b)
AreRecords-then order first second a b p q = record { split = joined }
  where
    joined : (most : ℕ) (more : List ℕ) → records_within (length (a ++ b) + most) order ((first ++ second) ++ more) ≡ all_before (a ++ b) (records_within most order more)
    joined most more =
        let count : length (a ++ b) + most ≡ length a + (length b + most) = omega (arith, length-append a b) in
        ap (λ (n : ℕ). records_within n order ((first ++ second) ++ more)) count
        ∙ ap (records_within (length a + (length b + most)) order) (append_assoc first second more)
        ∙ p.split (length b + most) (second ++ more)
        ∙ ap (all_before a) (q.split most more)
        ∙ ap (λ (l : List (List ℕ)). (l, (records_within most order more).1)) (sym (append_assoc a b (records_within most order more).0))

-- ---- from one head that is known, or isn't, to another

pub ReadsOn-none : (head : Option FileHead) → ReadsOn head head [] []
ReadsOn-none None = (refl, refl)
ReadsOn-none (Some head) = (refl, AreRecords-none head.order)

pub ReadsOn-then : (x y z : Option FileHead) (first second : List ℕ) (a b : List (List ℕ)) → ReadsOn x y first a → ReadsOn y z second b → ReadsOn x z (first ++ second) (a ++ b)
ReadsOn-then None None z first second a b p q = rw (p.0, p.1) q
ReadsOn-then None (Some head) z first second a b p q =
    let all : ReadsOn None (Some head) (first ++ second) (a ++ b) = (
      p.0 ++ second,
      record { info = p.1.info; long = p.1.long; is = p.1.is; bytes_are = ap (λ (l : List ℕ). l ++ second) p.1.bytes_are ∙ append_assoc p.1.info p.0 second },
      AreRecords-then head.order p.0 second a b p.2 q.1,
    ) in
    subst (λ (k : Option FileHead). ReadsOn None k (first ++ second) (a ++ b)) (sym q.0) all
ReadsOn-then (Some head) y z first second a b p q =
    let behind : ReadsOn (Some head) z second b = subst (λ (k : Option FileHead). ReadsOn k z second b) p.0 q in
    (behind.0, AreRecords-then head.order first second a b p.1 behind.1)

-- ---- what a source gave

pub GaveRecords-none : (left : Option (List ℕ)) (x : FilePoint) → GaveRecords left left x x []
GaveRecords-none left x = record { bytes = []; gave = Gave-none left; moved = omega arith; are = ReadsOn-none x.head }

pub GaveRecords-then : (l m n : Option (List ℕ)) (x y z : FilePoint) (a b : List (List ℕ)) → GaveRecords l m x y a → GaveRecords m n y z b → GaveRecords l n x z (a ++ b)
GaveRecords-then l m n x y z a b p q = record {
  bytes = p.bytes ++ q.bytes;
  gave = Gave-then l m n p.bytes q.bytes p.gave q.gave;
  moved = omega (arith, length-append p.bytes q.bytes, p.moved, q.moved);
  are = ReadsOn-then x.head y.head z.head p.bytes q.bytes a b p.are q.are;
}

abbrev point : Option FileHead → ℕ → FilePoint
point head place = record { head = head; place = place }

-- a record was read
read-one : (before after : Option (List ℕ)) (x y : Option FileHead) (p q : ℕ) (kept : Vec ℕ) → ReadsNext x y before after p (Ok (Some kept)) → q ≡ place_after_record (head_place x y p) (Ok (Some kept))
    → GaveRecords before after (point x p) (point y q) (kept.items ∷ [])
read-one before after None None p q kept read moved = absurd read
read-one before after None (Some head) p q kept read moved = record {
  bytes = read.gave.bytes ++ read.reads.bytes;
  gave = Gave-then before read.mid after read.gave.bytes read.reads.bytes read.gave.gave read.reads.gave;
  moved = omega (arith, length-append read.gave.bytes read.reads.bytes, read.gave.long, read.reads.long, moved);
  are = (
    read.reads.bytes,
    record { info = read.gave.bytes; long = read.gave.long; is = read.gave.is; bytes_are = refl },
    AreRecords-one head.order read.reads.bytes kept.items read.reads.is,
  );
}
read-one before after (Some head) y p q kept read moved = record {
  bytes = read.1.bytes;
  gave = read.1.gave;
  moved = omega (arith, read.1.long, moved);
  are = (read.0, AreRecords-one head.order read.1.bytes kept.items read.1.is);
}

pub one_record : (before after : Option (List ℕ)) (x y : FilePoint) (kept : Vec ℕ) → ReadsNext x.head y.head before after x.place (Ok (Some kept)) → y.place ≡ place_after_record (head_place x.head y.head x.place) (Ok (Some kept))
    → GaveRecords before after x y (kept.items ∷ [])
one_record before after x y kept read moved = read-one before after x.head y.head x.place y.place kept read moved

-- the source ended before another record
read-none : (before after : Option (List ℕ)) (x y : Option FileHead) (p q : ℕ) → ReadsNext x y before after p (Ok None) → q ≡ place_after_record (head_place x y p) (Ok None)
    → GaveRecords before after (point x p) (point y q) [] × IsAtEnd after
read-none before after None None p q read moved = absurd read
read-none before after None (Some head) p q read moved = (
  record {
    bytes = read.gave.bytes ++ [];
    gave = Gave-then before read.mid after read.gave.bytes [] read.gave.gave read.reads.gave;
    moved = omega (arith, length-append {A = ℕ} read.gave.bytes [], read.gave.long, moved);
    are = (
      [],
      record { info = read.gave.bytes; long = read.gave.long; is = read.gave.is; bytes_are = refl },
      AreRecords-none head.order,
    );
  },
  read.reads.at_end,
)
read-none before after (Some head) y p q read moved = (
  record { bytes = []; gave = read.1.gave; moved = omega (arith, moved); are = (read.0, AreRecords-none head.order) },
  read.1.at_end,
)

pub no_record : (before after : Option (List ℕ)) (x y : FilePoint) → ReadsNext x.head y.head before after x.place (Ok None) → y.place ≡ place_after_record (head_place x.head y.head x.place) (Ok None)
    → GaveRecords before after x y [] × IsAtEnd after
no_record before after x y read moved = read-none before after x.head y.head x.place y.place read moved

-- behind a head
pub headed : (before after : Option (List ℕ)) (x y : Option FileHead) (place : ℕ) → ReadsNext x y before after place (Ok None) → IsSome y
headed before after None None place read = absurd read
headed before after None (Some head) place read = refl
headed before after (Some head) y place read = subst (λ (known : Option FileHead). IsSome known) (sym read.0) refl
