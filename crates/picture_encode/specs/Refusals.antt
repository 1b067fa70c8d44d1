-- What a refusal says.
use Rattle.std.specs.Prelude.{◌≡◌, ⊤, ℕ, Option, Some}
use Rattle.link_model.specs.SendingFaults as faults
use Rattle.picture_encode.specs.declared.refusal.SliceRefusal.{SliceRefusal}
use Rattle.picture_encode.specs.declared.refusal.SliceRefusal.TheVariants.{SliceTooLarge, NoMemory}
use Rattle.vc_slice.specs.declared.encoding.EncodeRefusal.{EncodeRefusal}
use Rattle.vc_slice.specs.declared.encoding.EncodeRefusal.TheVariants as encoder

-- it tells this fault; want of memory says nothing
abbrev pub Tells : Option faults.SendFault → SliceRefusal → Type 0
Tells fault (SliceTooLarge slice bytes) = fault ≡ Some (faults.SliceTooLarge slice bytes)
Tells fault NoMemory = ⊤

-- the refusal of a slice that the encoder refuses
abbrev pub refusal_of : ℕ → EncodeRefusal → SliceRefusal
refusal_of slice (encoder.TooLong bytes) = SliceTooLarge slice bytes
refusal_of slice encoder.NoMemory = NoMemory
