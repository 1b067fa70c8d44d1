-- Frames that can be sent, and the slices that are sent at quantisation index 0.
use Rattle.std.specs.Prelude.{◌≡◌, ◌<◌, ℕ, ◌*◌, ◌^◌, All, List, length, drop, slice_get, Some, None}
use Rattle.std.specs.List.{flat_map}
use Rattle.field_pairs.specs.Sizes.{AreWhole}
use Rattle.link_model.specs.Sending.{pictures_of, pictures_per_frame}
use Rattle.link_model.specs.SendingFaults.{first_of_slices, first_sample_fault, send_fault}
use Rattle.link_model.specs.SendingPictures.{HasSides, IsFrame, plane_in}
use Rattle.link_model.specs.SendingPictures.{sent_parameters, slices_with_indices}
use Rattle.vc_types.specs.declared.video.Component.{Component}
use Rattle.vc_types.specs.Planes.{Planes}
use Rattle.vc_types.specs.SenderSettings.{Sending}
use Rattle.vc_types.specs.Subbands.{plane_height, plane_width, slice_count}

abbrev pub slices_per_picture : Sending → ℕ
slices_per_picture s = slice_count (sent_parameters s)

abbrev pub slices_per_frame : Sending → ℕ
slices_per_frame s = pictures_per_frame s * slices_per_picture s

-- the pictures of frames, one after another
abbrev pub pictures_of_all : Sending → List Planes → List Planes
pictures_of_all s frames = flat_map (pictures_of s) frames

-- Frames of the sender's sizes, no sample and no slice of which is too large, of fewer than 2 ^ 31
-- pictures. There is one list with the indices of all slices, in order of sending.
pub record AreFramesToSend (s : Sending) (indices : List ℕ) (frames : List Planes) : Type 0 where
  pub sizes : All (IsFrame s) frames
  pub whole : All AreWhole frames
  pub sound : (f : ℕ) (frame : Planes) → slice_get frames f ≡ Some frame
      → send_fault s (drop (f * slices_per_frame s) indices) frame ≡ None
  pub few : length frames * pictures_per_frame s < 2 ^ 31

-- a picture of the sender's sizes, no sample and no slice of which is too large, by the indices of
-- its slices
pub record IsPictureToSend (s : Sending) (indices : List ℕ) (planes : Planes) : Type 0 where
  pub sizes : (c : Component) → HasSides (plane_width (sent_parameters s).shape c)
      (plane_height (sent_parameters s).shape c) (plane_in planes c)
  pub whole : AreWhole planes
  pub samples : first_sample_fault s planes ≡ None
  pub slices : first_of_slices s planes (slices_with_indices (sent_parameters s) indices) ≡ None

-- the indices of the slices of a picture, counted from the first, and of those after it
abbrev pub indices_from : Sending → ℕ → List ℕ → List ℕ
indices_from s picture indices = drop (picture * slices_per_picture s) indices

-- all slices of a picture have index 0
abbrev pub IsAtIndexZero : Sending → List ℕ → ℕ → Type 0
IsAtIndexZero s indices picture = (i : ℕ) → i < slices_per_picture s
    → slice_get (indices_from s picture indices) i ≡ Some 0

-- all slices of all pictures of frames have index 0
abbrev pub AreAtIndexZero : Sending → List ℕ → List Planes → Type 0
AreAtIndexZero s indices frames = (picture : ℕ)
    → picture < length frames * pictures_per_frame s → IsAtIndexZero s indices picture
