-- Planes of a picture's shape.
use Rattle.std.specs.Prelude.{◌≡◌, ℕ, false}
use Rattle.frame_writer.specs.Samples.{HaveByteSamples}
use Rattle.vc_types.specs.RawFrames.{is_wide}
use Rattle.vc_types.specs.Planes.{Planes}
use Rattle.vc_types.specs.Rasters.{Raster}
use Rattle.vc_types.specs.declared.shape.Shape.{Shape}

pub record HasSize (columns rows : ℕ) (plane : Raster) : Type 0 where
  pub width : plane.width ≡ columns
  pub height : plane.height ≡ rows

-- the sizes of the shape, and samples that fit a byte where its depths do
pub record HaveShape (shape : Shape) (planes : Planes) : Type 0 where
  pub y : HasSize shape.luma_width shape.luma_height planes.y
  pub c1 : HasSize shape.colour_width shape.colour_height planes.c1
  pub c2 : HasSize shape.colour_width shape.colour_height planes.c2
  pub narrow : is_wide shape ≡ false → HaveByteSamples planes
