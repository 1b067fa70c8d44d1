-- The head of a file, and a record that is read in two steps, its 16 bytes and those that it keeps: what each
-- step's end means.
use Rattle.std.proofs.Common.{◌≡◌, ◌≢◌, ℕ, ◌<◌, ◌≤◌, List, [], ◌++◌, length, take, Option, Some, None, Err, ok_or, refl, sym, ap, ◌∙◌, append_assoc, append-nil, arith, inl, inr}
use Rattle.std.proofs.lemmas.List.{length-append, length-take-le}
use Rattle.vc_ports.specs.Reading.{Gave}
use Rattle.vc_ports.specs.Filling.{Fills}
use Rattle.vc_ports.specs.declared.whole.Filled.TheVariants.{End, Failed}
use Rattle.vc_ports.proofs.Given.{Gave-then, GaveAll-then}
use Rattle.pcap_in.specs.Pcap.{file_head, kept_length, pcap_record}
use Rattle.pcap_in.specs.Reading.{GavePartOfHead, ReadsHead, GaveRecord, GaveLongRecord, GaveCutRecord, GavePartOfRecord}
use Rattle.pcap_in.specs.declared.fault.PcapFault.TheVariants.{Header, ReadFault}
use Rattle.pcap_in.specs.declared.head.FileHead.{FileHead}
use Rattle.pcap_in.specs.declared.head.Order.{Order}
use Rattle.pcap_in.proofs.Records.{record-stub, record-long, record-cut, record-whole}

-- ---- the head

-- the 24 bytes came whole, and tell a head or are none
pub whole_head : (before after : Option (List ℕ)) (bytes : List ℕ) (told : Option FileHead) → length bytes ≡ 24 → Gave before after bytes → told ≡ file_head bytes → ReadsHead before after (ok_or told (Header 0))
whole_head before after bytes None len gave is = (refl, inl (record { bytes = bytes; gave = gave; long = len; is = sym is }))
whole_head before after bytes (Some head) len gave is = record { bytes = bytes; gave = gave; long = len; is = sym is }

-- bytes that are no head are no failed read
pub no_read_fault : (told : Option FileHead) → ok_or told (Header 0) ≢ Err ReadFault
no_read_fault None same = cc
no_read_fault (Some head) same = cc

-- the end came within it
pub cut_head : (before after : Option (List ℕ)) (head : List ℕ) (n : ℕ) → length head ≡ 24 → Fills before after head (End n) → ReadsHead before after (Err (Header 0))
cut_head before after head n len fills =
    let taken : length (take n head) ≡ n = length-take-le n head (omega (arith, fills.0)) in
    (refl, inr (record { part = take n head; gave = fills.1; short = omega (arith, fills.0) }))

-- a read failed within it
pub fault_in_file_head : (before after : Option (List ℕ)) (head : List ℕ) (n : ℕ) → length head ≡ 24 → Fills before after head (Failed n) → GavePartOfHead before after
fault_in_file_head before after head n len fills =
    let taken : length (take n head) ≡ n = length-take-le n head (omega (arith, fills.0)) in
    record { part = take n head; gave = fills.1; short = omega (arith, fills.0) }

-- ---- a record

-- the end came within the 16 bytes
pub cut_in_head : (before after : Option (List ℕ)) (order : Order) (head : List ℕ) (n : ℕ) → length head ≡ 16 → n ≢ 0 → Fills before after head (End n) → GaveCutRecord before after order
cut_in_head before after order head n len some fills =
    let taken : length (take n head) ≡ n = length-take-le n head (omega (arith, fills.0)) in
    record {
      part = take n head;
      gave = fills.1;
      some = λ none. some (sym taken ∙ ap length none);
      not_whole = record-stub order (take n head) (omega (arith, fills.0));
    }

-- a read failed within the 16 bytes
pub fault_in_head : (before after : Option (List ℕ)) (order : Order) (head : List ℕ) (n : ℕ) → length head ≡ 16 → Fills before after head (Failed n) → GavePartOfRecord before after order
fault_in_head before after order head n len fills =
    let taken : length (take n head) ≡ n = length-take-le n head (omega (arith, fills.0)) in
    record {
      part = take n head;
      gave = fills.1;
      not_whole = record-stub order (take n head) (omega (arith, fills.0));
    }

-- they tell too many
pub too_long : (before after : Option (List ℕ)) (order : Order) (head : List ℕ) (count : ℕ) → length head ≡ 16 → kept_length order head ≡ count → 262144 < count → Gave before after head → GaveLongRecord before after order
too_long before after order head count len told long gave = record {
  bytes = head;
  gave = gave;
  long = len;
  refused = λ more. record-long order head more count len told long;
}

-- no memory for kept bytes, of which there are some
pub part_without_memory : (before mid : Option (List ℕ)) (order : Order) (head : List ℕ) (count : ℕ) → length head ≡ 16 → kept_length order head ≡ count → count ≤ 262144 → 0 < count → Gave before mid head → GavePartOfRecord before mid order
part_without_memory before mid order head count len told fits some first = record {
  part = head;
  gave = first;
  not_whole = rw append-nil at (record-cut order head [] count len told fits some);
}

-- the kept bytes came whole
pub whole_record : (before mid after : Option (List ℕ)) (order : Order) (head kept : List ℕ) (count : ℕ) → length head ≡ 16 → kept_length order head ≡ count → count ≤ 262144 → length kept ≡ count
    → Gave before mid head → Gave mid after kept → GaveRecord before after order kept
whole_record before mid after order head kept count len told fits whole first second = record {
  bytes = head ++ kept;
  gave = Gave-then before mid after head kept first second;
  long = omega (arith, length-append head kept, len);
  is = λ more. ap (pcap_record order) (append_assoc head kept more) ∙ record-whole order head kept more count len told fits whole;
}

-- the end came within the kept bytes
pub cut_in_kept : (before mid after : Option (List ℕ)) (order : Order) (head kept : List ℕ) (count n : ℕ) → length head ≡ 16 → kept_length order head ≡ count → count ≤ 262144 → length kept ≡ count
    → Gave before mid head → Fills mid after kept (End n) → GaveCutRecord before after order
cut_in_kept before mid after order head kept count n len told fits whole first fills =
    let taken : length (take n kept) ≡ n = length-take-le n kept (omega (arith, fills.0)) in
    record {
      part = head ++ take n kept;
      gave = GaveAll-then before mid after head (take n kept) first fills.1;
      some = λ none. omega (arith, ap length none, length-append head (take n kept), len);
      not_whole = record-cut order head (take n kept) count len told fits (omega (arith, fills.0));
    }

-- a read failed within the kept bytes
pub fault_in_kept : (before mid after : Option (List ℕ)) (order : Order) (head kept : List ℕ) (count n : ℕ) → length head ≡ 16 → kept_length order head ≡ count → count ≤ 262144 → length kept ≡ count
    → Gave before mid head → Fills mid after kept (Failed n) → GavePartOfRecord before after order
fault_in_kept before mid after order head kept count n len told fits whole first fills =
    let taken : length (take n kept) ≡ n = length-take-le n kept (omega (arith, fills.0)) in
    record {
      part = head ++ take n kept;
      gave = Gave-then before mid after head (take n kept) first fills.1;
      not_whole = record-cut order head (take n kept) count len told fits (omega (arith, fills.0));
    }
