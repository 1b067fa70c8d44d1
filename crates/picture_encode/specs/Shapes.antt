-- Planes that can be transformed.
use Rattle.std.specs.Prelude.{◌≡◌, ◌-◌, ◌<◌, ◌^◌, All, IsTrue}
use Rattle.vc_types.specs.declared.video.Component.{Component}
use Rattle.vc_types.specs.Planes.{Planes}
use Rattle.vc_types.specs.Rasters.{Raster}
use Rattle.vc_types.specs.Subbands.{plane_width, plane_height, plane_depth}
use Rattle.vc_types.specs.TransformParameters.{Parameters, is_symmetric}
use Rattle.vc_wave.specs.ForwardBounds.{forward_fits_narrow}
use Rattle.link_model.specs.SendingPictures.{plane_in}

-- a plane has a component's size, and samples of its bits
pub record IsPlane (p : Parameters) (c : Component) (plane : Raster) : Type 0 where
  pub width : plane.width ≡ plane_width p.shape c
  pub height : plane.height ≡ plane_height p.shape c
  pub samples : All (λ s. s < 2 ^ plane_depth p.shape c) plane.samples

-- a component's plane, whose coefficients by a symmetric transform fit 32 bits
pub record FitsNarrow (p : Parameters) (c : Component) (plane : Raster) : Type 0 where
  pub symmetric : IsTrue (is_symmetric p)
  pub is_plane : IsPlane p c plane
  pub narrow : IsTrue (forward_fits_narrow p (2 ^ (plane_depth p.shape c - 1)))

-- the transform is symmetric, and the planes are those of a picture
pub record CanBeTransformed (p : Parameters) (planes : Planes) : Type 0 where
  pub symmetric : IsTrue (is_symmetric p)
  pub each : (c : Component) → IsPlane p c (plane_in planes c)
