-- What the input gave, as a pcap file, and how reading it ended.
use Rattle.std.specs.Prelude.{◌≡◌, ◌≢◌, ◌⊎◌, ◌≤◌, ◌<◌, ℕ, ◌+◌, List, [], length}
use Rattle.std.specs.Prelude.{Option, None, Some, IsSome, Err}
use Rattle.link_report.specs.declared.ending.Ending.{Ending}
use Rattle.link_report.specs.declared.ending.Ending.TheVariants.{InputFailed, CaptureCut, PacketLimit}
use Rattle.link_report.specs.declared.ending.Ending.TheVariants.{StreamBad}
use Rattle.pcap_in.specs.Pcap.{FileSplit, file_split, pcap_record, Short, TooLong}
use Rattle.pcap_in.specs.declared.head.FileHead.{FileHead}
use Rattle.vc_ports.specs.Changes.{InputChange}
use Rattle.vc_ports.specs.Reading.{IsAtEnd}

-- the rest is less than the 24 bytes before the records, or than a record
abbrev pub IsPartial : Option FileHead → (rest : List ℕ) → Type 0
IsPartial None rest = length rest < 24
IsPartial (Some head) rest = pcap_record head.order rest ≡ Err Short

-- it begins with a record that keeps more bytes than may be
abbrev pub IsTooLong : Option FileHead → (rest : List ℕ) → Type 0
IsTooLong None rest = ⊥
IsTooLong (Some head) rest = pcap_record head.order rest ≡ Err TooLong

-- ---- the ways in which reading ends

-- to the end of the input, at a record's edge
pub record HasEndedFile (packets : ℕ) (input : InputChange) (s : FileSplit) : Type 0 where
  pub headed : 1 ≤ packets → IsSome s.head
  pub no_rest : s.rest ≡ []
  pub ended : IsAtEnd input.left.after

-- to the end of the input, within the record that begins at a place
pub record IsCutInRecord
    (packets : ℕ) (input : InputChange) (given : List ℕ) (s : FileSplit) (place : ℕ) : Type 0
  where
    pub wanted : length s.records < packets
    pub headed : IsSome s.head
    pub not_whole : IsPartial s.head s.rest
    pub part : s.rest ≢ []
    pub ended : IsAtEnd input.left.after
    pub begins : length given ≡ place + length s.rest

-- the bytes before the records, at place 0, are no head: all 24 of them, or the input ended before
pub record IsNoHead
    (packets : ℕ) (input : InputChange) (given : List ℕ) (s : FileSplit) (place : ℕ) : Type 0
  where
    pub wanted : 1 ≤ packets
    pub place_is : place ≡ 0
    pub no_head : s.head ≡ None
    pub read : (length given ≡ 24) ⊎ ((length given < 24) × IsAtEnd input.left.after)

-- the record that begins at a place is too long, and no more of it was read than tells that
pub record IsLongRecord (packets : ℕ) (given : List ℕ) (s : FileSplit) (place : ℕ) : Type 0 where
  pub wanted : length s.records < packets
  pub too_long : IsTooLong s.head s.rest
  pub read : length s.rest ≡ 16
  pub begins : length given ≡ place + 16

-- a read failed, where a record more was asked for, or a byte behind as many as were asked for
pub record CouldNotReadRecord (packets : ℕ) (s : FileSplit) : Type 0 where
  pub not_whole : IsPartial s.head s.rest
  pub wanted : (length s.records < packets) ⊎ (s.rest ≡ [])

-- so many records were read, and then one byte more
pub record IsPastRecords (packets : ℕ) (s : FileSplit) (limit : ℕ) : Type 0 where
  pub limit_is : limit ≡ packets
  pub count : length s.records ≡ packets
  pub one_more : length s.rest ≡ 1

abbrev pub FileEnded : ℕ → Option Ending → InputChange → (given : List ℕ) → FileSplit → Type 0
FileEnded packets None input given s = HasEndedFile packets input s
FileEnded packets (Some (CaptureCut place)) input given s =
    IsCutInRecord packets input given s place
FileEnded packets (Some (StreamBad place)) input given s =
    IsNoHead packets input given s place ⊎ IsLongRecord packets given s place
FileEnded packets (Some InputFailed) input given s = CouldNotReadRecord packets s
FileEnded packets (Some (PacketLimit limit)) input given s = IsPastRecords packets s limit
FileEnded packets end input given s = ⊥

-- ---- the whole

-- a head, and at most `packets` records behind it, of which there may be some, are the whole of the
-- bytes
pub record IsWholeFile (packets : ℕ) (bytes : List ℕ) : Type 0 where
  pub some : 1 ≤ packets
  pub headed : IsSome (file_split packets bytes).head
  pub no_rest : (file_split packets bytes).rest ≡ []
