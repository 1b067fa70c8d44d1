-- What a refusal of the sender says.
use Rattle.std.specs.Prelude.{◌≡◌, ⊤, Option, Some}
use Rattle.link_model.specs.SendingFaults as faults
use Rattle.link_sender.specs.declared.refusal.SendRefusal.{SendRefusal}
use Rattle.link_sender.specs.declared.refusal.SendRefusal.TheVariants.{SampleRange, SliceTooLarge, NoMemory}
use Rattle.picture_encode.specs.declared.refusal.SliceRefusal.{SliceRefusal}
use Rattle.picture_encode.specs.declared.refusal.SliceRefusal.TheVariants as slices

-- it says this fault; want of memory says nothing
abbrev pub SaysFault : Option faults.SendFault → SendRefusal → Type 0
SaysFault fault (SampleRange plane place value) =
    fault ≡ Some (faults.SampleRange plane place value)
SaysFault fault (SliceTooLarge slice bytes) = fault ≡ Some (faults.SliceTooLarge slice bytes)
SaysFault fault NoMemory = ⊤

-- the refusal of a frame whose slices are refused
abbrev pub of_slices : SliceRefusal → SendRefusal
of_slices (slices.SliceTooLarge slice bytes) = SliceTooLarge slice bytes
of_slices slices.NoMemory = NoMemory
