-- What a refusal of the packer says.
use Rattle.std.specs.Prelude.{◌≡◌, ⊤, Option, Some}
use Rattle.stream_model.specs.Packing.{LargePart}
use Rattle.link_sender.specs.declared.refusal.SendRefusal.{SendRefusal}
use Rattle.link_sender.specs.declared.refusal.SendRefusal.TheVariants.{SampleRange, SliceTooLarge, NoMemory}

-- it says which part is too large; want of memory says nothing, and no sample is looked at
abbrev pub SaysLarge : Option LargePart → SendRefusal → Type 0
SaysLarge part (SampleRange plane place value) = ⊥
SaysLarge part (SliceTooLarge slice bytes) = part ≡ Some (record { slice = slice; bytes = bytes })
SaysLarge part NoMemory = ⊤
