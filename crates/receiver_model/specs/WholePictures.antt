-- The bytes of a complete picture, by what is kept of it.
use Rattle.std.specs.Prelude.{◌≡◌, ℕ, List, [], ◌++◌, map, Some, unwrap_or}
use Rattle.link_model.specs.Complete.{slice_numbers, whole_picture}
use Rattle.link_model.specs.Kept.{Own, own_slice}
use Rattle.link_model.specs.Session.{Part}
use Rattle.vc_types.specs.Fields.{joined}
use Rattle.vc_types.specs.PictureBytes.{ArePictureBytes}
use Rattle.vc_types.specs.SequenceHeader.{Sequence}

-- the slices of a picture in raster order
abbrev pub own_slices : Own → List (List ℕ)
own_slices kept = map (λ i. unwrap_or (own_slice kept i) []) (slice_numbers kept)

-- the parameters and slices that are kept are a picture of the sequence, and its whole bytes
pub record IsOwnPicture (s : Sequence) (parts : List Part) (kept : Own) : Type 0 where
  pub bytes : ArePictureBytes s kept.plan.parameters kept.plan.bytes (own_slices kept)
  pub whole : whole_picture s parts ≡ Some (kept.plan.bytes ++ joined (own_slices kept))
