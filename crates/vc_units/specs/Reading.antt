-- What reading a unit from a source did.
use Rattle.std.specs.Prelude.{◌≡◌, ◌≢◌, ◌<◌, ℕ, ◌+◌, List, [], ◌++◌, length, Option, Some, None}
use Rattle.std.specs.Prelude.{Result, Ok, Err}
use Rattle.std.specs.Global.{Vec}
use Rattle.vc_ports.specs.Reading.{Gave, GaveAll}
use Rattle.vc_types.specs.DataUnits.{DataUnit, unit_length}
use Rattle.vc_units.specs.Units.{data_unit}
use Rattle.vc_units.specs.declared.fault.UnitFault.{UnitFault}
use Rattle.vc_units.specs.declared.fault.UnitFault.TheVariants.{Prefix, Offset, Code, Short, ReadFault}
use Rattle.vc_units.specs.declared.fault.UnitFault.TheVariants.{NoMemory}
use Rattle.vc_units.specs.declared.unit.Unit as unit

-- what code keeps of a data unit
abbrev pub unit_of : unit.Unit → DataUnit
unit_of u = record { code = u.code; body = u.body.items }

-- what was given is the unit, whatever follows
pub record GaveUnit (before after : Option (List ℕ)) (u : DataUnit) : Type 0 where
  pub bytes : List ℕ
  pub gave : Gave before after bytes
  pub long : length bytes ≡ unit_length u
  pub is : (more : List ℕ) → data_unit (bytes ++ more) ≡ Ok (u, more)

-- the 13 bytes that were given, and no more, are refused so, whatever follows
pub record GaveRefused (before after : Option (List ℕ)) (fault : UnitFault) : Type 0 where
  pub bytes : List ℕ
  pub long : length bytes ≡ 13
  pub gave : Gave before after bytes
  pub refused : (more : List ℕ) → data_unit (bytes ++ more) ≡ Err fault

-- all that was left was given, and is the part of a unit
pub record GaveCutUnit (before after : Option (List ℕ)) : Type 0 where
  pub part : List ℕ
  pub gave : GaveAll before after part
  pub some : part ≢ []
  pub not_whole : data_unit part ≡ Err Short

-- what was given holds no whole unit
pub record GavePartOfUnit (before after : Option (List ℕ)) : Type 0 where
  pub part : List ℕ
  pub gave : Gave before after part
  pub not_whole : data_unit part ≡ Err Short

-- all that was left was given, and is shorter than the body
pub record GaveCutBody (before after : Option (List ℕ)) (count : ℕ) : Type 0 where
  pub part : List ℕ
  pub gave : GaveAll before after part
  pub short : length part < count

-- what was given is shorter than the body
pub record GavePartOfBody (before after : Option (List ℕ)) (count : ℕ) : Type 0 where
  pub part : List ℕ
  pub gave : Gave before after part
  pub short : length part < count

-- what a read of a body of so many bytes did to its source, by the answer
abbrev pub ReadsBody : Option (List ℕ) → Option (List ℕ) → ℕ → Result (Vec ℕ) UnitFault → Type 0
ReadsBody before after count (Ok body) =
    (length body.items ≡ count) × Gave before after body.items
ReadsBody before after count (Err Short) = GaveCutBody before after count
ReadsBody before after count (Err ReadFault) = GavePartOfBody before after count
ReadsBody before after count (Err NoMemory) = GavePartOfBody before after count
ReadsBody before after count (Err fault) = ⊥

-- what a read of the unit at a place did to its source, by the answer
abbrev pub ReadsUnit : Option (List ℕ) → Option (List ℕ) → ℕ → Result (Option unit.Unit) UnitFault
    → Type 0
ReadsUnit before after place (Ok (Some u)) = (u.at ≡ place) × GaveUnit before after (unit_of u)
ReadsUnit before after place (Ok None) = GaveAll before after []
ReadsUnit before after place (Err Prefix) = GaveRefused before after Prefix
ReadsUnit before after place (Err Offset) = GaveRefused before after Offset
ReadsUnit before after place (Err Code) = GaveRefused before after Code
ReadsUnit before after place (Err Short) = GaveCutUnit before after
ReadsUnit before after place (Err ReadFault) = GavePartOfUnit before after
ReadsUnit before after place (Err NoMemory) = GavePartOfUnit before after

-- the bytes of the units that were read whole, after an answer
abbrev pub place_after_unit : ℕ → Result (Option unit.Unit) UnitFault → ℕ
place_after_unit place (Ok (Some u)) = place + unit_length (unit_of u)
place_after_unit place answer = place

-- the fault that stands after an answer
abbrev pub fault_after_unit : Option UnitFault → Result (Option unit.Unit) UnitFault
    → Option UnitFault
fault_after_unit (Some fault) answer = Some fault
fault_after_unit None (Err fault) = Some fault
fault_after_unit None (Ok unit) = None
