-- A pcap file, by what a feed read of it from its first byte.
use Rattle.std.proofs.Common.{◌≡◌, ℕ, ◌+◌, ◌-◌, ◌≤◌, List, [], ◌++◌, length, Option, Some, None, Err}
use Rattle.std.proofs.Common.{refl, sym, ap, ◌∙◌, subst, arith, inl, inr, append-nil, length-append}
use Rattle.std.specs.Prelude.{◌⊎◌}
use Rattle.pcap_in.proofs.Passing.{payloads_of-none}
use Rattle.pcap_in.proofs.Records.{record-stub}
use Rattle.pcap_in.proofs.Splits.{file_split-none, file_split-on, pcap_head-stub, records_within-none}
use Rattle.pcap_in.proofs.Streams.{AreRecords-none, GaveRecords-then}
use Rattle.pcap_in.specs.Feeding.{FeedValue, FilePoint, GaveRecords, Brought, StoppedAt}
use Rattle.pcap_in.specs.Feeding.{all_before, carried_in, carried_of, payloads_of}
use Rattle.pcap_in.specs.Pcap.{FileSplit, Short, file_split, pcap_head, records_within, with_records}
use Rattle.pcap_in.specs.Reading.{ReadsHead, ReadsNext, ReadsRecord}
use Rattle.pcap_in.specs.declared.fault.PcapFault.{PcapFault}
use Rattle.pcap_in.specs.declared.head.FileHead.{FileHead}
use Rattle.vc_ports.proofs.Given.{Gave-none, Gave-then}
use Rattle.vc_ports.specs.Reading.{Gave}
use Rattle.link_hearing.specs.FileHearing.{split_at}

abbrev pub point : Option FileHead → ℕ → FilePoint
point head place = record { head = head; place = place }

abbrev pub first_point : FilePoint
first_point = record { head = None; place = 0 }

-- a feed before any byte
abbrev pub first_value : Option (List ℕ) → (faults packets port : ℕ) → FeedValue
first_value left faults packets port = record {
  left = left;
  faults = faults;
  point = first_point;
  port = port;
  packets = packets;
  records = 0;
  other = 0;
}

-- ---- the bytes of a file

-- those that were given, how they split, and where what is behind the records begins
pub record ReadAsFile
    (packets : ℕ) (a c : Option (List ℕ)) (s : FileSplit) (place : ℕ) : Type 0 where
  pub given : List ℕ
  pub gave : Gave a c given
  pub is : file_split packets given ≡ s
  pub long : length given ≡ place + length s.rest

-- behind a head and records, bytes of which no record is wanted, or none is whole
behind_records : (packets most : ℕ) (a b c : Option (List ℕ)) (head : FileHead) (place : ℕ)
    (records : List (List ℕ)) (more : List ℕ) → packets ≡ length records + most
    → GaveRecords a b first_point (point (Some head) place) records → Gave b c more
    → records_within most head.order more ≡ ([], more)
    → ReadAsFile packets a c (split_at (Some head) records more) place
behind_records packets most a b c head place records more count gave rest none = record {
  given = gave.bytes ++ more;
  gave = Gave-then a b c gave.bytes more gave.gave rest;
  is = ap (λ (n : ℕ). file_split n (gave.bytes ++ more)) count
      ∙ file_split-on most gave.bytes more head records gave.are
      ∙ ap (λ (split : List (List ℕ) × List ℕ). with_records head (all_before records split)) none
      ∙ ap (λ (all : List (List ℕ)). with_records head (all, more)) (append-nil records);
  long = omega (arith, gave.moved, length-append gave.bytes more);
}

-- bytes that begin with no head
without_head : (packets : ℕ) (a c : Option (List ℕ)) (bytes : List ℕ) → Gave a c bytes
    → pcap_head bytes ≡ None → ReadAsFile packets a c (split_at None [] bytes) 0
without_head packets a c bytes gave none = record {
  given = bytes;
  gave = gave;
  is = file_split-none packets bytes none;
  long = omega arith;
}

-- no more than was read whole
whole_records : (packets : ℕ) (a c : Option (List ℕ)) (head : Option FileHead) (place : ℕ)
    (records : List (List ℕ)) → GaveRecords a c first_point (point head place) records
    → length records ≤ packets → ReadAsFile packets a c (split_at head records []) place
whole_records packets a c None place records gave few = record {
  given = [];
  gave = subst (λ (bytes : List ℕ). Gave a c bytes) gave.are.0 gave.gave;
  is = file_split-none packets [] (pcap_head-stub [] (omega arith))
      ∙ ap (λ (all : List (List ℕ)). split_at None all []) (sym gave.are.1);
  long = omega (arith, gave.moved, ap length gave.are.0);
}
whole_records packets a c (Some head) place records gave few =
    behind_records packets (packets - length records) a c c head place records [] (omega (arith, few))
    gave (Gave-none c)
    (records_within-none (packets - length records) head.order [] Short (record-stub head.order [] (omega arith)))

-- ---- where a record more was wanted

-- behind a head and records
pub record AtRecord
    (port : ℕ) (a c : Option (List ℕ)) (known : Option FileHead) (records : List (List ℕ))
    (fault : PcapFault) : Type 0 where
  pub head : FileHead
  pub place : ℕ
  pub mid : Option (List ℕ)
  pub gave : GaveRecords a mid first_point (point (Some head) place) records
  pub reads : ReadsRecord head.order mid c place (Err fault)
  pub same : payloads_of (Some head) port records ≡ payloads_of known port records

-- where no head was read
pub record AtHead
    (a c : Option (List ℕ)) (known : Option FileHead) (records : List (List ℕ)) (fault : PcapFault)
    : Type 0 where
  pub unknown : known ≡ None
  pub none : records ≡ []
  pub mid : Option (List ℕ)
  pub gave : Gave a mid []
  pub reads : ReadsHead mid c (Err fault)

pub wanted_at : (port : ℕ) (a b c : Option (List ℕ)) (known now : Option FileHead) (place : ℕ)
    (records : List (List ℕ)) (fault : PcapFault)
    → GaveRecords a b first_point (point known place) records
    → ReadsNext known now b c place (Err fault)
    → AtRecord port a c known records fault ⊎ AtHead a c known records fault
wanted_at port a b c None None place records fault gave reads = inr (record {
  unknown = refl;
  none = gave.are.1;
  mid = b;
  gave = subst (λ (bytes : List ℕ). Gave a b bytes) gave.are.0 gave.gave;
  reads = reads;
})
wanted_at port a b c None (Some head) place records fault gave reads = inl (record {
  head = head;
  place = place + 24;
  mid = reads.mid;
  gave = subst
      (λ (all : List (List ℕ)). GaveRecords a reads.mid first_point (point (Some head) (place + 24)) all)
      (append-nil records)
      (GaveRecords-then a b reads.mid first_point (point None place) (point (Some head) (place + 24))
      records [] gave read_head);
  reads = reads.reads;
  same = subst (λ (all : List (List ℕ)). payloads_of (Some head) port all ≡ []) (sym gave.are.1)
      (payloads_of-none (Some head) port);
})
  where
    read_head : GaveRecords b reads.mid (point None place) (point (Some head) (place + 24)) []
    read_head = record {
      bytes = reads.gave.bytes;
      gave = reads.gave.gave;
      moved = omega (arith, reads.gave.long);
      are = (
        [],
        record {
          info = reads.gave.bytes;
          long = reads.gave.long;
          is = reads.gave.is;
          bytes_are = sym (append-nil reads.gave.bytes);
        },
        AreRecords-none head.order,
      );
    }
wanted_at port a b c (Some head) now place records fault gave reads = inl (record {
  head = head;
  place = place;
  mid = b;
  gave = gave;
  reads = reads.1;
  same = refl;
})

-- ---- by a feed that had read nothing

-- what it brought, as a file
pub record FileRead
    (packets port : ℕ) (a : Option (List ℕ)) (y : FeedValue) (payloads : List (List ℕ))
    (s : FileSplit) (place : ℕ) : Type 0 where
  pub as_file : ReadAsFile packets a y.left s place
  pub carries : carried_in port s ≡ payloads
  pub few : length s.records ≤ packets
  pub records : y.records ≡ length s.records
  pub other : y.other + length payloads ≡ length s.records

module _ (packets port faults : ℕ) (a : Option (List ℕ)) where
  abbrev x : FeedValue
  x = first_value a faults packets port

  pub few_records : (m : FeedValue) (payloads : List (List ℕ)) (b : Brought x m payloads)
      → length b.records ≤ packets
  few_records m payloads b =
      let few : m.records ≤ packets = b.read.few (omega arith) in omega (arith, b.read.counted, few)

  -- no more than it brought
  pub brought_file : (y : FeedValue) (payloads : List (List ℕ)) (b : Brought x y payloads)
      → FileRead packets port a y payloads (split_at y.point.head b.records []) y.point.place
  brought_file y payloads b = record {
    as_file = whole_records packets a y.left y.point.head y.point.place b.records b.read.gave
        (few_records y payloads b);
    carries = b.payloads_are;
    few = few_records y payloads b;
    records = omega (arith, b.read.counted);
    other = omega (arith, b.read.others, ap length b.payloads_are);
  }

  module _ (m y : FeedValue) (payloads : List (List ℕ)) (b : Brought x m payloads)
      (fault : PcapFault) (st : StoppedAt m y fault) where
    pub stopped_wanted : AtRecord port a y.left m.point.head b.records fault
        ⊎ AtHead a y.left m.point.head b.records fault
    stopped_wanted =
        wanted_at port a m.left y.left m.point.head y.point.head m.point.place b.records fault
        b.read.gave st.reads

    -- and bytes that no whole record begins
    pub stopped_file : (r : AtRecord port a y.left m.point.head b.records fault) (more : List ℕ)
        → Gave r.mid y.left more → ((most : ℕ) → records_within most r.head.order more ≡ ([], more))
        → FileRead packets port a y payloads (split_at (Some r.head) b.records more) r.place
    stopped_file r more gave none =
        let few = few_records m payloads b in
        record {
          as_file = behind_records packets (packets - length b.records) a r.mid y.left r.head r.place
              b.records more (omega (arith, few)) r.gave gave (none (packets - length b.records));
          carries = r.same ∙ b.payloads_are;
          few = few;
          records = omega (arith, st.records, b.read.counted);
          other = omega (arith, st.other, b.read.others, ap length b.payloads_are);
        }

    -- and bytes that begin with no head
    pub stopped_before : (r : AtHead a y.left m.point.head b.records fault) (bytes : List ℕ)
        → Gave r.mid y.left bytes → pcap_head bytes ≡ None
        → FileRead packets port a y payloads (split_at None [] bytes) 0
    stopped_before r bytes gave none = record {
      as_file = without_head packets a y.left bytes (Gave-then a r.mid y.left [] bytes r.gave gave) none;
      carries = subst (λ (head : Option FileHead). payloads_of head port b.records ≡ payloads) r.unknown
          b.payloads_are;
      few = omega arith;
      records = omega (arith, st.records, b.read.counted, ap length r.none);
      other = omega (arith, st.other, b.read.others, ap length b.payloads_are, ap length r.none);
    }

    pub wants_more : length b.records + 1 ≤ packets
    wants_more = omega (arith, st.wanted, b.read.counted, b.read.packets)

-- what the split's records carry, by the definition
pub carried_is : (packets port : ℕ) (given : List ℕ) (s : FileSplit) → file_split packets given ≡ s
    → carried_of packets port given ≡ carried_in port s
unfolding carried_of
carried_is packets port given s is = ap (carried_in port) is
