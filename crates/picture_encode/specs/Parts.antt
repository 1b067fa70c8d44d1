-- Parts of a picture's slices, which are encoded apart.
use Rattle.std.specs.Prelude.{ℕ, ◌+◌, ◌<◌, Bool, List, Result, slice_index_or}
use Rattle.picture_encode.specs.IndexedSlices.{IndexedSlice}
use Rattle.picture_encode.specs.declared.grids.PictureGrids.{PictureGrids}
use Rattle.picture_encode.specs.declared.refusal.SliceRefusal.{SliceRefusal}
use Rattle.picture_encode.specs.Encoded.{Chooses, EncodesSlices}
use Rattle.picture_encode.specs.Grids.{HaveCoefficients}
use Rattle.vc_types.specs.Planes.{Planes}
use Rattle.vc_types.specs.SenderSettings.{Sending}
use Rattle.vc_types.specs.Subbands.{share_start, slice_count}
use Rattle.vc_types.specs.TransformParameters.{Parameters}

-- the slices of one of so many parts were encoded, out of these grids, or one was refused
abbrev pub EncodesPart : Chooses → Bool → Sending → Parameters → PictureGrids → (parts part : ℕ)
    → Result (List IndexedSlice) SliceRefusal → Type 0
EncodesPart choice wanted s p grids parts part answer =
    (planes : Planes) → HaveCoefficients p planes grids
    → EncodesSlices choice wanted s planes (share_start (slice_count p) parts part)
    (share_start (slice_count p) parts (part + 1)) answer

-- the same of each part, by the answers in order
abbrev pub EncodesParts : Chooses → Bool → Sending → Parameters → PictureGrids → (parts : ℕ)
    → List (Result (List IndexedSlice) SliceRefusal) → Type 0
EncodesParts choice wanted s p grids parts answers =
    (part : ℕ) (d : Result (List IndexedSlice) SliceRefusal) → part < parts
    → EncodesPart choice wanted s p grids parts part (slice_index_or answers part d)
