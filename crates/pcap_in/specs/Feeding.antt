-- What was read of a file, record after record, and what a feed of payloads gave of it.
use Rattle.std.specs.Prelude.{◌≡◌, ◌≤◌, ◌<◌, ℕ, ◌+◌, ◌-◌, ◌*◌, ◌^◌, List, [], ◌∷◌, ◌++◌, length}
use Rattle.std.specs.Prelude.{slice_range, Option, Some, None, IsSome, Result, Ok, Err}
use Rattle.vc_ports.specs.Faults.{HasCause}
use Rattle.vc_ports.specs.Reading.{Gave, IsAtEnd}
use Rattle.pcap_in.specs.Pcap.{file_head, records_within, FileSplit, file_split}
use Rattle.pcap_in.specs.Frames.{carried, payloads_in}
use Rattle.pcap_in.specs.Reading.{ReadsNext}
use Rattle.pcap_in.specs.declared.fault.PcapFault.{PcapFault}
use Rattle.pcap_in.specs.declared.fault.PcapFault.TheVariants.{ReadFault}
use Rattle.pcap_in.specs.declared.feed.CarriedFeed.{CarriedFeed}
use Rattle.pcap_in.specs.declared.feed.Fed.{Fed}
use Rattle.pcap_in.specs.declared.feed.Fed.TheVariants as fed
use Rattle.pcap_in.specs.declared.feed.Payload.{Payload}
use Rattle.pcap_in.specs.declared.feed.Step.{Step}
use Rattle.pcap_in.specs.declared.feed.Step.TheVariants as step
use Rattle.pcap_in.specs.declared.head.FileHead.{FileHead}
use Rattle.pcap_in.specs.declared.head.Order.{Order}
use Rattle.pcap_in.specs.declared.reader.PcapReader.{PcapReader}

-- ---- records one after another

-- records before others
abbrev pub all_before : List (List ℕ) → List (List ℕ) × List ℕ → List (List ℕ) × List ℕ
all_before records behind = (records ++ behind.0, behind.1)

-- the bytes are whole records that keep these, whatever follows
pub record AreRecords (order : Order) (bytes : List ℕ) (records : List (List ℕ)) : Type 0 where
  pub split : (most : ℕ) (more : List ℕ)
      → records_within (length records + most) order (bytes ++ more)
      ≡ all_before records (records_within most order more)

-- the bytes are those of this head, and others behind it
pub record BeginsFile (bytes : List ℕ) (head : FileHead) (behind : List ℕ) : Type 0 where
  pub info : List ℕ
  pub long : length info ≡ 24
  pub is : file_head info ≡ Some head
  pub bytes_are : bytes ≡ info ++ behind

-- by the head as it was known before the bytes and is known after them: the bytes are the head,
-- where it wasn't known, and whole records that keep these
abbrev pub ReadsOn : Option FileHead → Option FileHead → List ℕ → List (List ℕ) → Type 0
ReadsOn None None bytes records = (bytes ≡ []) × (records ≡ [])
ReadsOn None (Some head) bytes records =
    (behind : List ℕ) × BeginsFile bytes head behind × AreRecords head.order behind records
ReadsOn (Some head) known bytes records = (known ≡ Some head) × AreRecords head.order bytes records

-- where a reader stands: the head, where it was read, and how many bytes were read whole
pub record FilePoint : Type 0 where
  pub head : Option FileHead
  pub place : ℕ

-- from one point to another, the source gave the bytes of these records
pub record GaveRecords
    (before after : Option (List ℕ)) (from to : FilePoint) (records : List (List ℕ)) : Type 0
  where
    pub bytes : List ℕ
    pub gave : Gave before after bytes
    pub moved : to.place ≡ from.place + length bytes
    pub are : ReadsOn from.head to.head bytes records

-- ---- what records carry, once the head is known

abbrev pub part_of : Option FileHead → ℕ → List ℕ → Option (ℕ × ℕ)
part_of None port kept = None
part_of (Some head) port kept = carried head.network kept port

abbrev pub payloads_of : Option FileHead → ℕ → List (List ℕ) → List (List ℕ)
payloads_of None port records = []
payloads_of (Some head) port records = payloads_in head.network port records

-- a part of the bytes, which has at most 65,527
pub record StandsIn (kept : List ℕ) (from to : ℕ) : Type 0 where
  pub ordered : from ≤ to
  pub within : to ≤ length kept
  pub long : to ≤ from + 65527

-- ---- a feed

-- the source, where the reader stands, and the settings and counts of the feed
pub record FeedValue : Type 0 where
  pub left : Option (List ℕ)
  pub faults : ℕ
  pub point : FilePoint
  pub port : ℕ
  pub packets : ℕ
  pub records : ℕ
  pub other : ℕ

abbrev pub feed_value : {S : Type 0} → (S → Option (List ℕ)) → (S → ℕ) → PcapReader S → CarriedFeed
    → FeedValue
feed_value left faults r f = record {
  left = left r.source.now;
  faults = faults r.source.now;
  point = record { head = r.head; place = r.place };
  port = f.port;
  packets = f.packets;
  records = f.records;
  other = f.other;
}

-- it has met no fault, and stays within 2^63 bytes also where it is asked so many times
pub record IsReady {S : Type 0} (more : ℕ) (r : PcapReader S) (f : CarriedFeed) : Type 0 where
  pub sound : r.fault ≡ None
  pub counts : f.other ≤ f.records
  pub few : f.records ≤ f.packets
  pub room : r.place + 262184 * (f.packets - f.records + more) < 2 ^ 63

-- these records were read, and counted, and no more than may be
pub record HasRead (x y : FeedValue) (records : List (List ℕ)) : Type 0 where
  pub gave : GaveRecords x.left y.left x.point y.point records
  pub counted : y.records ≡ x.records + length records
  pub few : x.records ≤ x.packets → y.records ≤ x.packets
  pub others : y.other + length (payloads_of y.point.head x.port records)
      ≡ x.other + length records
  pub port : y.port ≡ x.port
  pub packets : y.packets ≡ x.packets
  pub later : x.faults ≤ y.faults

-- records were read that carry these payloads, one after another
pub record Brought (x y : FeedValue) (payloads : List (List ℕ)) : Type 0 where
  pub records : List (List ℕ)
  pub read : HasRead x y records
  pub payloads_are : payloads_of y.point.head x.port records ≡ payloads

-- records were read that carry nothing, and the source ended at a record's edge, behind a head
pub record BroughtLast (x y : FeedValue) : Type 0 where
  pub brought : Brought x y []
  pub headed : IsSome y.point.head
  pub ended : IsAtEnd y.left

-- records were read that carry this payload
pub record BroughtPayload (x y : FeedValue) (p : Payload) : Type 0 where
  pub brought : Brought x y (slice_range p.kept.items p.from p.to ∷ [])
  pub stands : StandsIn p.kept.items p.from p.to

-- a record more was wanted, and couldn't be read
pub record StoppedAt (x y : FeedValue) (fault : PcapFault) : Type 0 where
  pub wanted : x.records < x.packets
  pub reads : ReadsNext x.point.head y.point.head x.left y.left x.point.place (Err fault)
  pub cause : HasCause x.faults y.faults (fault ≡ ReadFault)
  pub records : y.records ≡ x.records
  pub other : y.other ≡ x.other

-- what reading one record did, by what came of it
abbrev pub StepDid : FeedValue → FeedValue → Result Step PcapFault → Type 0
StepDid x y (Ok (step.Payload p)) = BroughtPayload x y p
StepDid x y (Ok step.Other) = (y.records ≡ x.records + 1) × Brought x y []
StepDid x y (Ok step.End) = BroughtLast x y
StepDid x y (Err fault) = StoppedAt x y fault

-- records were read that carry nothing, and then none could be read
pub record BroughtNone (x y : FeedValue) (fault : PcapFault) : Type 0 where
  pub mid : FeedValue
  pub brought : Brought x mid []
  pub stopped : StoppedAt mid y fault

-- what a feed did, by what it gave: the next payload, or none where the source ended at a record's
-- edge, as many records were read as may be, or the next couldn't be read
abbrev pub Feeds : FeedValue → FeedValue → Result Fed PcapFault → Type 0
Feeds x y (Ok (fed.Payload p)) = BroughtPayload x y p
Feeds x y (Ok fed.End) = BroughtLast x y
Feeds x y (Ok fed.Limit) = (y.records ≡ x.packets) × Brought x y []
Feeds x y (Err fault) = BroughtNone x y fault

-- ---- a whole file

-- what its records carry to a port, as far as it was split
abbrev pub carried_in : ℕ → FileSplit → List (List ℕ)
carried_in port split = payloads_of split.head port split.records

-- the payloads that the whole records of a file carry to a port, at most so many records being read
unfoldable pub carried_of : (packets port : ℕ) → List ℕ → List (List ℕ)
carried_of packets port bytes = carried_in port (file_split packets bytes)
