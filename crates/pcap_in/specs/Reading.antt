-- What reading a record from a source did, and the head of its file before the first.
use Rattle.std.specs.Prelude.{◌≡◌, ◌≢◌, ◌⊎◌, ℕ, ◌+◌, ◌<◌, List, [], ◌++◌, length, Option, Some, None}
use Rattle.std.specs.Prelude.{Result, Ok, Err}
use Rattle.std.specs.Global.{Vec}
use Rattle.vc_ports.specs.Reading.{Gave, GaveAll}
use Rattle.pcap_in.specs.Pcap.{file_head, pcap_record, Short, TooLong}
use Rattle.pcap_in.specs.declared.fault.PcapFault.{PcapFault}
use Rattle.pcap_in.specs.declared.fault.PcapFault.TheVariants.{Header, Cut, Length, ReadFault, NoMemory}
use Rattle.pcap_in.specs.declared.head.FileHead.{FileHead}
use Rattle.pcap_in.specs.declared.head.Order.{Order}

-- ---- the head

-- the 24 bytes that were given, and no more, tell this head, or are none
pub record GaveHead (before after : Option (List ℕ)) (told : Option FileHead) : Type 0 where
  pub bytes : List ℕ
  pub gave : Gave before after bytes
  pub long : length bytes ≡ 24
  pub is : file_head bytes ≡ told

-- all that was left was given, and is shorter than a head
pub record GaveCutHead (before after : Option (List ℕ)) : Type 0 where
  pub part : List ℕ
  pub gave : GaveAll before after part
  pub short : length part < 24

-- what was given is shorter than a head
pub record GavePartOfHead (before after : Option (List ℕ)) : Type 0 where
  pub part : List ℕ
  pub gave : Gave before after part
  pub short : length part < 24

-- what a read of the head did to its source, by the answer
abbrev pub ReadsHead : Option (List ℕ) → Option (List ℕ) → Result FileHead PcapFault → Type 0
ReadsHead before after (Ok head) = GaveHead before after (Some head)
ReadsHead before after (Err (Header place)) =
    (place ≡ 0) × (GaveHead before after None ⊎ GaveCutHead before after)
ReadsHead before after (Err ReadFault) = GavePartOfHead before after
ReadsHead before after (Err fault) = ⊥

-- ---- a record

-- what was given is a record that keeps these bytes, whatever follows
pub record GaveRecord (before after : Option (List ℕ)) (order : Order) (kept : List ℕ) : Type 0
  where
    pub bytes : List ℕ
    pub gave : Gave before after bytes
    pub long : length bytes ≡ 16 + length kept
    pub is : (more : List ℕ) → pcap_record order (bytes ++ more) ≡ Ok (kept, more)

-- the 16 bytes that were given, and no more, tell too many, whatever follows
pub record GaveLongRecord (before after : Option (List ℕ)) (order : Order) : Type 0 where
  pub bytes : List ℕ
  pub gave : Gave before after bytes
  pub long : length bytes ≡ 16
  pub refused : (more : List ℕ) → pcap_record order (bytes ++ more) ≡ Err TooLong

-- all that was left was given, and is the part of a record
pub record GaveCutRecord (before after : Option (List ℕ)) (order : Order) : Type 0 where
  pub part : List ℕ
  pub gave : GaveAll before after part
  pub some : part ≢ []
  pub not_whole : pcap_record order part ≡ Err Short

-- what was given holds no whole record
pub record GavePartOfRecord (before after : Option (List ℕ)) (order : Order) : Type 0 where
  pub part : List ℕ
  pub gave : Gave before after part
  pub not_whole : pcap_record order part ≡ Err Short

-- what a read of the record at a place did to its source, by the answer
abbrev pub ReadsRecord : Order → Option (List ℕ) → Option (List ℕ) → ℕ
    → Result (Option (Vec ℕ)) PcapFault → Type 0
ReadsRecord order before after place (Ok (Some kept)) = GaveRecord before after order kept.items
ReadsRecord order before after place (Ok None) = GaveAll before after []
ReadsRecord order before after place (Err (Cut at)) =
    (at ≡ place) × GaveCutRecord before after order
ReadsRecord order before after place (Err (Length at)) =
    (at ≡ place) × GaveLongRecord before after order
ReadsRecord order before after place (Err ReadFault) = GavePartOfRecord before after order
ReadsRecord order before after place (Err NoMemory) = GavePartOfRecord before after order
ReadsRecord order before after place (Err fault) = ⊥

-- ---- a reader's next record

-- the head was read, and then the record behind it
pub record ReadsFirst
    (head : FileHead) (before after : Option (List ℕ)) (place : ℕ)
    (result : Result (Option (Vec ℕ)) PcapFault) : Type 0 where
  pub mid : Option (List ℕ)
  pub gave : GaveHead before mid (Some head)
  pub reads : ReadsRecord head.order mid after (place + 24) result

-- no head was read
abbrev pub ReadsNoHead : Option (List ℕ) → Option (List ℕ) → Result (Option (Vec ℕ)) PcapFault
    → Type 0
ReadsNoHead before after (Ok kept) = ⊥
ReadsNoHead before after (Err fault) = ReadsHead before after (Err fault)

-- what a call did to the source, by the head as it was known before and is known after, and by the
-- answer
abbrev pub ReadsNext : Option FileHead → Option FileHead → Option (List ℕ) → Option (List ℕ) → ℕ
    → Result (Option (Vec ℕ)) PcapFault → Type 0
ReadsNext None None before after place result = ReadsNoHead before after result
ReadsNext None (Some head) before after place result = ReadsFirst head before after place result
ReadsNext (Some head) known before after place result =
    (known ≡ Some head) × ReadsRecord head.order before after place result

-- the place of the record that a call reads: behind the head, where that was read
abbrev pub head_place : Option FileHead → Option FileHead → ℕ → ℕ
head_place None None place = place
head_place None (Some head) place = place + 24
head_place (Some head) known place = place

-- the bytes of the head and of the records that were read whole, after an answer
abbrev pub place_after_record : ℕ → Result (Option (Vec ℕ)) PcapFault → ℕ
place_after_record place (Ok (Some kept)) = place + 16 + length kept.items
place_after_record place answer = place

-- the fault that stands after an answer
abbrev pub fault_after_record : Option PcapFault → Result (Option (Vec ℕ)) PcapFault
    → Option PcapFault
fault_after_record (Some fault) answer = Some fault
fault_after_record None (Err fault) = Some fault
fault_after_record None (Ok kept) = None
