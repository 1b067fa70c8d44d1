-- Why a frame isn't sent: the first sample that is too large, else the first slice that is (this
-- project's own).
use Rattle.std.specs.Prelude.{ℕ, ◌+◌, ◌^◌, Bool, ◌||◌, nat_lt, if◌then◌else◌, List, [], ◌∷◌, drop}
use Rattle.std.specs.Prelude.{Option, Some, None}
use Rattle.std.specs.Option.{option_map, option_or}
use Rattle.link_model.specs.Sending.{pictures_of}
use Rattle.link_model.specs.SendingPictures.{sent_parameters, sent_coefficients, sent_length}
use Rattle.link_model.specs.SendingPictures.{slices_with_indices, slice_room}
use Rattle.vc_types.specs.declared.video.Component.TheVariants.{Y, C1}
use Rattle.vc_types.specs.Encoding.{is_too_long}
use Rattle.vc_types.specs.Planes.{Planes}
use Rattle.vc_types.specs.Rasters.{Raster}
use Rattle.vc_types.specs.SenderSettings.{Sending}
use Rattle.vc_types.specs.Subbands.{slice_count, plane_depth}

-- a sample by its plane and its place there, or a slice by its number and the bytes that it needs
pub data SendFault : Type 0 where
  SampleRange : (plane place value : ℕ) → SendFault
  SliceTooLarge : (slice bytes : ℕ) → SendFault

-- ---- samples

-- the first sample that isn't below a limit, with its place, counted from one on
unfoldable pub first_outside : ℕ → ℕ → List ℕ → Option (ℕ × ℕ)
first_outside limit place [] = None
first_outside limit place (sample ∷ samples) =
    if nat_lt sample limit then first_outside limit (place + 1) samples
    else Some (place, sample)

abbrev pub sample_fault : ℕ → ℕ × ℕ → SendFault
sample_fault plane found = SampleRange plane found.0 found.1

-- the first of a plane, by the plane's number, whose samples have so many bits
abbrev pub plane_fault : ℕ → ℕ → Raster → Option SendFault
plane_fault depth plane samples =
    option_map (sample_fault plane) (first_outside (2 ^ depth) 0 samples.samples)

-- the first in raw order
unfoldable pub first_sample_fault : Sending → Planes → Option SendFault
first_sample_fault s frame =
    let depth = plane_depth (sent_parameters s).shape in
    option_or (plane_fault (depth Y) 0 frame.y)
    (option_or (plane_fault (depth C1) 1 frame.c1) (plane_fault (depth C1) 2 frame.c2))

-- ---- slices

-- a block's length doesn't fit its byte, or the slice doesn't fit a datagram
unfoldable pub is_too_large : Sending → Planes → ℕ → ℕ → Bool
is_too_large s planes slice index =
    let p = sent_parameters s in
    is_too_long p slice index (sent_coefficients p planes slice)
    || nat_lt (slice_room s) (sent_length p planes slice index)

abbrev pub slice_fault : Sending → Planes → ℕ → ℕ → SendFault
slice_fault s planes slice index =
    SliceTooLarge slice (sent_length (sent_parameters s) planes slice index)

-- the first of slices, each with its index, that is too large
unfoldable pub first_of_slices : Sending → Planes → List (ℕ × ℕ) → Option SendFault
first_of_slices s planes [] = None
first_of_slices s planes (z ∷ slices) =
    if is_too_large s planes z.0 z.1 then Some (slice_fault s planes z.0 z.1)
    else first_of_slices s planes slices

-- the first in pictures, one after another
unfoldable pub first_slice_fault : Sending → List ℕ → List Planes → Option SendFault
first_slice_fault s indices [] = None
first_slice_fault s indices (planes ∷ pictures) =
    let p = sent_parameters s in
    option_or (first_of_slices s planes (slices_with_indices p indices))
    (first_slice_fault s (drop (slice_count p) indices) pictures)

-- ---- frames

-- the first fault of a frame, with one index for each of its slices in order of sending
unfoldable pub send_fault : Sending → List ℕ → Planes → Option SendFault
send_fault s indices frame =
    option_or (first_sample_fault s frame) (first_slice_fault s indices (pictures_of s frame))
