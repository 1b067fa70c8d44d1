-- What packing an elementary stream to a capture did, by how it ended.
use Rattle.std.specs.Prelude.{◌≡◌, ◌⊎◌, ℕ, ◌<◌, false, List, [], ◌∷◌, ◌++◌, length}
use Rattle.std.specs.Prelude.{None, IsTrue, IsFalse, Result, Ok, Err}
use Rattle.cmd_send.specs.FramesSent.{bytes_in}
use Rattle.link_outside.specs.Outlets.{capture_of}
use Rattle.cmd_stream.specs.Counted.{counted_in_64}
use Rattle.cmd_stream.specs.Playing.{StopsReading, UnitSplit, has_ended, unit_split}
use Rattle.link_report.specs.declared.ending.Ending.{Ending}
use Rattle.link_report.specs.declared.ending.Ending.TheVariants.{InputFailed, OutputFailed, NoMemory}
use Rattle.link_report.specs.declared.ending.Ending.TheVariants.{PacketLimit, SliceTooLarge, StreamBad}
use Rattle.link_report.specs.declared.summary.Summary.{Summary}
use Rattle.link_report.specs.declared.summary.Summary.TheVariants as summaries
use Rattle.stream_model.specs.Packed.{BadUnit, PackFault, PackedSoFar, PartTooLarge, packs_unit}
use Rattle.stream_model.specs.Packed.{pictures_packed, stream_packed, units_packed, whole_packed}
use Rattle.vc_ports.specs.Changes.{InputChange, OutputChange, Took, Wrote, WrotePart, HasRisen}
use Rattle.vc_ports.specs.Reading.{IsAtEnd}
use Rattle.vc_types.specs.DataUnits.{DataUnit}
use Rattle.vc_types.specs.Rates.{Rate}
use Rattle.vc_types.specs.SenderSettings.{Packing}
use Rattle.vc_units.specs.Units.{data_unit}
use Rattle.vc_units.specs.declared.fault.UnitFault.{UnitFault}
use Rattle.vc_units.specs.declared.fault.UnitFault.TheVariants.{Short}

-- ---- the settings

-- how pictures are sent, before a header tells whether they are fields
abbrev pub pack_settings : ℕ → ℕ → ℕ → ℕ → Rate → Packing
pack_settings size ssrc pt seq rate = record {
  size = size;
  ssrc = ssrc;
  pt = pt;
  seq = seq;
  rate = rate;
  fields = false;
}

-- ---- what the input gave

-- what the units up to the first that isn't packed bring
abbrev pub packed_up_to : Packing → UnitSplit → PackedSoFar
packed_up_to s u = (units_packed s u.units).0

-- every unit is packed
abbrev pub AreAllPacked : Packing → List DataUnit → Type 0
AreAllPacked s units = (units_packed s units).1 ≡ None

-- the entries of the datagrams of a stream's pictures
abbrev pub entries_of_pictures : Packing → UnitSplit → List ℕ
entries_of_pictures s u = capture_of (stream_packed s (packed_up_to s u).stream)

-- and of the end behind them
abbrev pub entries_of_all : Packing → UnitSplit → List ℕ
entries_of_all s u = capture_of (whole_packed s (packed_up_to s u).stream)

-- ---- the ways to end

-- the input was read to its end at a unit's edge, or to the end of the sequence
pub record HasPackedAll
    (s : Packing) (input : InputChange) (output : OutputChange) (u : UnitSplit)
    (pictures datagrams bytes : ℕ)
    : Type 0 where
  pub all : AreAllPacked s u.units
  pub no_rest : u.rest ≡ []
  pub ended : IsAtEnd input.left.after ⊎ IsTrue (has_ended u)
  pub wrote : Wrote output (entries_of_all s u)
  pub pictures_are : pictures ≡ length (pictures_packed (packed_up_to s u).stream)
  pub datagrams_are :
      datagrams ≡ counted_in_64 (length (whole_packed s (packed_up_to s u).stream))
  pub bytes_are : bytes ≡ counted_in_64 (bytes_in (whole_packed s (packed_up_to s u).stream))

-- a read failed, where a unit more was asked for, or a byte behind as many units as were asked for
pub record CouldNotReadUnit (s : Packing) (packets : ℕ) (output : OutputChange) (u : UnitSplit)
    : Type 0 where
  pub all : AreAllPacked s u.units
  pub goes_on : IsFalse (has_ended u)
  pub short : data_unit u.rest ≡ Err Short
  pub wanted : (length u.units < packets) ⊎ (u.rest ≡ [])
  pub wrote : Wrote output (entries_of_pictures s u)

-- so many units were read, none of them an end of sequence, and then one byte more
pub record IsPastUnits
    (s : Packing) (packets : ℕ) (output : OutputChange) (u : UnitSplit) (limit : ℕ)
    : Type 0 where
  pub limit_is : limit ≡ packets
  pub count : length u.units ≡ packets
  pub goes_on : IsFalse (has_ended u)
  pub one_more : length u.rest ≡ 1
  pub all : AreAllPacked s u.units
  pub wrote : Wrote output (entries_of_pictures s u)

-- the last unit isn't packed behind those before it, and nothing was read behind it
pub record EndsUnpacked (s : Packing) (u : UnitSplit) (fault : PackFault) : Type 0 where
  pub others : List DataUnit
  pub last : DataUnit
  pub units : u.units ≡ others ++ last ∷ []
  pub all : AreAllPacked s others
  pub refused : packs_unit s (units_packed s others).0.stream last ≡ Err fault
  pub no_rest : u.rest ≡ []

-- a unit more was asked for, and the rest, whatever follows, begins with none
pub record HasUnreadRest (s : Packing) (packets : ℕ) (input : InputChange) (u : UnitSplit)
    : Type 0 where
  pub all : AreAllPacked s u.units
  pub goes_on : IsFalse (has_ended u)
  pub wanted : length u.units < packets
  pub fault : UnitFault
  pub refused : data_unit u.rest ≡ Err fault
  pub last : StopsReading input u.rest fault

-- a unit is refused: by those before it, or as it stands; those before it were packed
pub record IsBadStream
    (s : Packing) (packets : ℕ) (input : InputChange) (output : OutputChange) (u : UnitSplit)
    (place : ℕ)
    : Type 0 where
  pub refused : EndsUnpacked s u BadUnit ⊎ HasUnreadRest s packets input u
  pub place_is : place ≡ (packed_up_to s u).place
  pub wrote : Wrote output (entries_of_pictures s u)

-- a part of the last unit's picture has no room; those before it were packed
pub record HasLargePart
    (s : Packing) (output : OutputChange) (u : UnitSplit) (slice bytes : ℕ) : Type 0 where
  pub refused : EndsUnpacked s u (PartTooLarge (record { slice = slice; bytes = bytes }))
  pub wrote : Wrote output (entries_of_pictures s u)

abbrev pub PackEnded : Packing → ℕ → Result Summary Ending → InputChange → OutputChange
    → UnitSplit → Type 0
PackEnded s packets (Ok (summaries.Packed pictures datagrams bytes)) input output u =
    HasPackedAll s input output u pictures datagrams bytes
PackEnded s packets (Err InputFailed) input output u = CouldNotReadUnit s packets output u
PackEnded s packets (Err OutputFailed) input output u = WrotePart output (entries_of_all s u)
PackEnded s packets (Err NoMemory) input output u = WrotePart output (entries_of_all s u)
PackEnded s packets (Err (PacketLimit limit)) input output u =
    IsPastUnits s packets output u limit
PackEnded s packets (Err (SliceTooLarge slice bytes)) input output u =
    HasLargePart s output u slice bytes
PackEnded s packets (Err (StreamBad place)) input output u =
    IsBadStream s packets input output u place
PackEnded s packets answer input output u = ⊥

-- packing at most so many units of the bytes that the input gave
pub record Packs
    (packets : ℕ) (s : Packing) (answer : Result Summary Ending)
    (input : InputChange) (output : OutputChange)
    : Type 0 where
  pub given : List ℕ
  pub took : Took input given
  pub ended : PackEnded s packets answer input output (unit_split packets given)
  pub input_failed : answer ≡ Err InputFailed → HasRisen input.faults
  pub output_failed : answer ≡ Err OutputFailed → HasRisen output.faults

-- the units that begin the bytes are packed, and end with the bytes or with an end of sequence
pub record IsPackable (s : Packing) (packets : ℕ) (bytes : List ℕ) : Type 0 where
  pub all : AreAllPacked s (unit_split packets bytes).units
  pub ended : ((unit_split packets bytes).rest ≡ []) ⊎ IsTrue (has_ended (unit_split packets bytes))
