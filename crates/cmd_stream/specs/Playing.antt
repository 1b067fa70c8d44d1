-- What playing a stream did, by how it ended.
use Rattle.std.specs.Prelude.{◌≡◌, ◌≢◌, ◌⊎◌, ℕ, ◌<◌, Bool, false, List, [], ◌∷◌, ◌++◌}
use Rattle.std.specs.Prelude.{length, None, IsTrue, IsFalse, Result, Ok, Err}
use Rattle.std.specs.List.{list_any}
use Rattle.link_report.specs.declared.ending.Ending.{Ending}
use Rattle.link_report.specs.declared.ending.Ending.TheVariants.{InputFailed, OutputFailed, NoMemory}
use Rattle.link_report.specs.declared.ending.Ending.TheVariants.{PacketLimit, StreamBad}
use Rattle.link_report.specs.declared.summary.Summary.{Summary}
use Rattle.link_report.specs.declared.summary.Summary.TheVariants.{Played}
use Rattle.vc_ports.specs.Changes.{InputChange, OutputChange, Took, Wrote, WrotePart, HasRisen}
use Rattle.vc_ports.specs.Reading.{IsAtEnd}
use Rattle.vc_types.specs.DataUnits.{DataUnit, is_end_of_sequence}
use Rattle.vc_units.specs.Units.{data_unit, units_within}
use Rattle.vc_units.specs.declared.fault.UnitFault.{UnitFault}
use Rattle.vc_units.specs.declared.fault.UnitFault.TheVariants.{Short}
use Rattle.cmd_stream.specs.Stream.{StreamSoFar, takes, units_taken, played}
use Rattle.cmd_stream.specs.Stream.{pictures_in, frames_in, unpaired_in}

-- ---- what the input gave

-- the units that begin the bytes, at most `packets` and up to an end of sequence, and the rest
pub record UnitSplit : Type 0 where
  pub units : List DataUnit
  pub rest : List ℕ

abbrev pub unit_split : ℕ → List ℕ → UnitSplit
unit_split packets given = record {
  units = (units_within packets given).0;
  rest = (units_within packets given).1;
}

-- what the units up to the first refused one bring
abbrev pub so_far : UnitSplit → StreamSoFar
so_far s = (units_taken s.units).0

-- the bytes of the frames that they make
abbrev pub frames_due : UnitSplit → List ℕ
frames_due s = played (so_far s).stream

-- no unit is refused by those before it
abbrev pub AreAccepted : List DataUnit → Type 0
AreAccepted units = (units_taken units).1 ≡ false

abbrev pub has_ended : UnitSplit → Bool
has_ended s = list_any is_end_of_sequence s.units

-- ---- the ways to end

-- the input was read to its end at a unit's edge, or to the end of the sequence
pub record HasPlayed
    (input : InputChange) (output : OutputChange) (s : UnitSplit) (pictures unpaired frames : ℕ)
    : Type 0 where
  pub accepted : AreAccepted s.units
  pub no_rest : s.rest ≡ []
  pub ended : IsAtEnd input.left.after ⊎ IsTrue (has_ended s)
  pub wrote : Wrote output (frames_due s)
  pub pictures_are : pictures ≡ pictures_in (so_far s).stream
  pub unpaired_are : unpaired ≡ unpaired_in (so_far s).stream
  pub frames_are : frames ≡ frames_in (so_far s).stream

-- a read failed, where a unit more was asked for, or a byte behind as many units as were asked for
pub record PlayCouldNotRead (packets : ℕ) (output : OutputChange) (s : UnitSplit) : Type 0 where
  pub accepted : AreAccepted s.units
  pub goes_on : IsFalse (has_ended s)
  pub short : data_unit s.rest ≡ Err Short
  pub wanted : (length s.units < packets) ⊎ (s.rest ≡ [])
  pub wrote : Wrote output (frames_due s)

-- so many units were read, none of them an end of sequence, and then one byte more
pub record UnitIsPastLimit (packets : ℕ) (output : OutputChange) (s : UnitSplit) (limit : ℕ)
    : Type 0 where
  pub limit_is : limit ≡ packets
  pub count : length s.units ≡ packets
  pub goes_on : IsFalse (has_ended s)
  pub one_more : length s.rest ≡ 1
  pub accepted : AreAccepted s.units
  pub wrote : Wrote output (frames_due s)

-- the last unit is refused by those before it, and nothing was read behind it
pub record EndsWithRefused (s : UnitSplit) : Type 0 where
  pub others : List DataUnit
  pub last : DataUnit
  pub units : s.units ≡ others ++ last ∷ []
  pub accepted : AreAccepted others
  pub refused : takes (units_taken others).0.stream last ≡ None
  pub no_rest : s.rest ≡ []

-- nothing was read behind the 13 bytes of a refused parse info; the input ends within a unit that
-- is short
abbrev pub StopsReading : InputChange → List ℕ → UnitFault → Type 0
StopsReading input rest Short = (rest ≢ []) × IsAtEnd input.left.after
StopsReading input rest fault = length rest ≡ 13

-- a unit more was asked for, and the rest, whatever follows, begins with none
pub record HasRefusedRest (packets : ℕ) (input : InputChange) (s : UnitSplit) : Type 0 where
  pub accepted : AreAccepted s.units
  pub goes_on : IsFalse (has_ended s)
  pub wanted : length s.units < packets
  pub fault : UnitFault
  pub refused : data_unit s.rest ≡ Err fault
  pub last : StopsReading input s.rest fault

-- a unit is refused: by those before it, or as it stands
pub record IsBad
    (packets : ℕ) (input : InputChange) (output : OutputChange) (s : UnitSplit) (place : ℕ)
    : Type 0 where
  pub refused : EndsWithRefused s ⊎ HasRefusedRest packets input s
  pub place_is : place ≡ (so_far s).place
  pub wrote : Wrote output (frames_due s)

abbrev pub PlayEnded : ℕ → Result Summary Ending → InputChange → OutputChange → UnitSplit → Type 0
PlayEnded packets (Ok (Played pictures unpaired frames)) input output s =
    HasPlayed input output s pictures unpaired frames
PlayEnded packets (Err InputFailed) input output s = PlayCouldNotRead packets output s
PlayEnded packets (Err OutputFailed) input output s = WrotePart output (frames_due s)
PlayEnded packets (Err NoMemory) input output s = WrotePart output (frames_due s)
PlayEnded packets (Err (PacketLimit limit)) input output s = UnitIsPastLimit packets output s limit
PlayEnded packets (Err (StreamBad place)) input output s = IsBad packets input output s place
PlayEnded packets answer input output s = ⊥

-- playing at most so many units of the bytes that the input gave
pub record Plays
    (packets : ℕ) (answer : Result Summary Ending) (input : InputChange) (output : OutputChange)
    : Type 0 where
  pub given : List ℕ
  pub took : Took input given
  pub ended : PlayEnded packets answer input output (unit_split packets given)
  pub input_failed : answer ≡ Err InputFailed → HasRisen input.faults
  pub output_failed : answer ≡ Err OutputFailed → HasRisen output.faults

-- the units that begin the bytes are accepted, and end with the bytes or with an end of sequence
pub record IsPlayable (packets : ℕ) (bytes : List ℕ) : Type 0 where
  pub accepted : AreAccepted (unit_split packets bytes).units
  pub ended : ((unit_split packets bytes).rest ≡ []) ⊎ IsTrue (has_ended (unit_split packets bytes))
