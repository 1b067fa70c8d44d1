-- What taking the samples of a plane from a source did.
use Rattle.std.specs.Prelude.{◌≡◌, ◌<◌, ℕ, Bool, List, length, Option, Result, Ok, Err}
use Rattle.frame_writer.specs.FrameBytes.{length_in, samples_of_bytes}
use Rattle.frame_writer.specs.declared.read_fault.FrameReadFault.{FrameReadFault}
use Rattle.frame_writer.specs.declared.read_fault.FrameReadFault.TheVariants.{Cut, ReadFault}
use Rattle.frame_writer.specs.declared.taking.Short.{Short}
use Rattle.frame_writer.specs.declared.taking.Short.TheVariants.{End, Failed}
use Rattle.vc_ports.specs.Reading.{Gave, GaveAll}

-- the bytes of so many samples were given
pub record GaveSamples (two : Bool) (count : ℕ) (before after : Option (List ℕ)) (samples : List ℕ)
    : Type 0 where
  pub bytes : List ℕ
  pub whole : length bytes ≡ length_in two count
  pub gave : Gave before after bytes
  pub samples_are : samples ≡ samples_of_bytes two bytes

-- fewer bytes than so many were given
pub record GaveFewer (limit : ℕ) (before after : Option (List ℕ)) : Type 0 where
  pub part : List ℕ
  pub gave : Gave before after part
  pub short : length part < limit

-- so many bytes, fewer than a limit, were all that was left
pub record GaveLast (limit len : ℕ) (before after : Option (List ℕ)) : Type 0 where
  pub part : List ℕ
  pub gave : GaveAll before after part
  pub long : length part ≡ len
  pub short : len < limit

-- what taking so many samples did, by the answer
abbrev pub Takes : Bool → ℕ → Option (List ℕ) → Option (List ℕ) → List ℕ → Result (Unit {0}) Short
    → Type 0
Takes two count before after samples (Ok _) = GaveSamples two count before after samples
Takes two count before after samples (Err (End len)) = GaveLast (length_in two count) len before after
Takes two count before after samples (Err Failed) = GaveFewer (length_in two count) before after

-- why no frame was read, where not all samples of a plane were taken
abbrev pub read_fault_of : Short → FrameReadFault
read_fault_of (End len) = Cut
read_fault_of Failed = ReadFault
