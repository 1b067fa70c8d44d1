-- What the encoded slices of a picture are.
use Rattle.std.specs.Prelude.{◌≡◌, ◌+◌, ◌-◌, ◌<◌, ◌≤◌, All, length, ⊤, ℕ, Bool, true, false, List, map, None}
use Rattle.std.specs.Prelude.{Result, Ok, Err}
use Rattle.std.specs.Global.{Vec}
use Rattle.std.specs.List.{AllZip, enumerate_from, range_with_len}
use Rattle.link_model.specs.SendingFaults.{first_of_slices, is_too_large}
use Rattle.link_model.specs.SendingPictures.{Need, need_of, sent_length, sent_parameters, sent_slice}
use Rattle.picture_encode.specs.IndexedSlices.{IndexedSlice}
use Rattle.picture_encode.specs.declared.refusal.SliceRefusal.{SliceRefusal}
use Rattle.picture_encode.specs.declared.refusal.SliceRefusal.TheVariants.{SliceTooLarge, NoMemory}
use Rattle.picture_encode.specs.Refusals.{Tells}
use Rattle.vc_types.specs.Fields.{joined}
use Rattle.vc_types.specs.Planes.{Planes}
use Rattle.vc_types.specs.SenderSettings.{Sending}
use Rattle.vc_types.specs.Subbands.{slice_count}

abbrev pub indices_of : List IndexedSlice → List ℕ
indices_of slices = map (λ e. e.index) slices

abbrev pub bytes_of_slices : List IndexedSlice → List (List ℕ)
bytes_of_slices slices = map (λ e. e.bytes) slices

-- ---- one slice

-- bytes fit a datagram, and have at least an index and three lengths
pub record IsSized (s : Sending) (bytes : List ℕ) : Type 0 where
  pub some : 4 ≤ length bytes
  pub room : length bytes + 32 ≤ s.size

-- a slice isn't too large at an index, and has these bytes
pub record IsEncodedAt (s : Sending) (planes : Planes) (slice index : ℕ) (bytes : List ℕ)
    : Type 0 where
  pub sized : IsSized s bytes
  pub fits : is_too_large s planes slice index ≡ false
  pub bytes_are : bytes ≡ sent_slice (sent_parameters s) planes slice index

-- it is too large at an index, and would have so many bytes
pub record IsTooLargeAt (s : Sending) (planes : Planes) (slice index bytes : ℕ) : Type 0 where
  pub too_large : is_too_large s planes slice index ≡ true
  pub needs : bytes ≡ sent_length (sent_parameters s) planes slice index

-- a refusal at an index
abbrev pub RefusesAt : Sending → Planes → ℕ → ℕ → SliceRefusal → Type 0
RefusesAt s planes slice index (SliceTooLarge n bytes) =
    (n ≡ slice) × IsTooLargeAt s planes slice index bytes
RefusesAt s planes slice index NoMemory = ⊤

-- what a chooser answers on a need
abbrev pub Chooses : Type 1
Chooses = Need → ℕ → Type 0

-- a slice was encoded at an answer on its need
pub record IsEncoded (choice : Chooses) (wanted : Bool) (s : Sending) (planes : Planes) (slice : ℕ)
    (e : IndexedSlice) : Type 0 where
  pub answer : choice (need_of s wanted planes slice) e.index
  pub encoded : IsEncodedAt s planes slice e.index e.bytes

-- a slice was refused: where it is too large, at an answer on its need
abbrev pub IsRefusedSlice : Chooses → Bool → Sending → Planes → ℕ → SliceRefusal → Type 0
IsRefusedSlice choice wanted s planes slice NoMemory = ⊤
IsRefusedSlice choice wanted s planes slice e =
    (index : ℕ) × choice (need_of s wanted planes slice) index
    × RefusesAt s planes slice index e

-- ---- slices one after another

-- the slices from one up to another were encoded
abbrev pub AreSlices : Chooses → Bool → Sending → Planes → (from to : ℕ) → List IndexedSlice
    → Type 0
AreSlices choice wanted s planes from to slices =
    AllZip (IsEncoded choice wanted s planes) (range_with_len from (to - from)) slices

-- one of them was refused, and those before it were encoded
pub record IsRefusedAmong (choice : Chooses) (wanted : Bool) (s : Sending) (planes : Planes)
    (from to : ℕ) (e : SliceRefusal) : Type 0 where
  pub slice : ℕ
  pub within : (from ≤ slice) × (slice < to)
  pub before : List IndexedSlice
  pub encoded : AreSlices choice wanted s planes from slice before
  pub refused : IsRefusedSlice choice wanted s planes slice e

-- a refusal of one of them; want of memory says nothing
abbrev pub RefusesSlices : Chooses → Bool → Sending → Planes → (from to : ℕ) → SliceRefusal
    → Type 0
RefusesSlices choice wanted s planes from to NoMemory = ⊤
RefusesSlices choice wanted s planes from to e = IsRefusedAmong choice wanted s planes from to e

abbrev pub EncodesSlices : Chooses → Bool → Sending → Planes → (from to : ℕ)
    → Result (List IndexedSlice) SliceRefusal → Type 0
EncodesSlices choice wanted s planes from to (Ok slices) =
    AreSlices choice wanted s planes from to slices
EncodesSlices choice wanted s planes from to (Err e) =
    RefusesSlices choice wanted s planes from to e

-- the same of slices in runs one after another
abbrev pub EncodesRuns : Chooses → Bool → Sending → Planes → (from to : ℕ)
    → Result (Vec (List IndexedSlice)) SliceRefusal → Type 0
EncodesRuns choice wanted s planes from to (Ok runs) =
    AreSlices choice wanted s planes from to (joined runs.items)
EncodesRuns choice wanted s planes from to (Err e) =
    RefusesSlices choice wanted s planes from to e

-- ---- the first slices of a picture

-- indices are answers on the needs of so many first slices
abbrev pub AreFirstAnswers : Chooses → Bool → Sending → Planes → ℕ → List ℕ → Type 0
AreFirstAnswers choice wanted s planes count indices =
    AllZip choice (map (need_of s wanted planes) (range_with_len 0 count)) indices

-- so many first slices were encoded
pub record AreFirstSlices (choice : Chooses) (wanted : Bool) (s : Sending) (planes : Planes)
    (count : ℕ) (slices : List IndexedSlice) : Type 0 where
  pub answers : AreFirstAnswers choice wanted s planes count (indices_of slices)
  pub fit : first_of_slices s planes (enumerate_from 0 (indices_of slices)) ≡ None
  pub sized : All (IsSized s) (bytes_of_slices slices)
  pub bytes_are : bytes_of_slices slices
      ≡ map (λ z. sent_slice (sent_parameters s) planes z.0 z.1)
      (enumerate_from 0 (indices_of slices))

-- a picture was refused: where a slice is too large, at answers up to it
pub record IsRefusedPicture (choice : Chooses) (wanted : Bool) (s : Sending) (planes : Planes)
    (e : SliceRefusal) : Type 0 where
  pub count : ℕ
  pub indices : List ℕ
  pub some : count ≤ slice_count (sent_parameters s)
  pub answers : AreFirstAnswers choice wanted s planes count indices
  pub fault : Tells (first_of_slices s planes (enumerate_from 0 indices)) e
