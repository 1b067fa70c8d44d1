-- The memory that the planes of a frame are taken into.
use Rattle.std.specs.Prelude.{◌≡◌, ℕ, List, vec_len}
use Rattle.frame_writer.specs.declared.memory.PlaneMemory.{PlaneMemory}
use Rattle.frame_writer.specs.FrameBytes.{sample_count}
use Rattle.vc_types.specs.declared.shape.Shape.{Shape}
use Rattle.vc_types.specs.declared.video.Component.{Component}
use Rattle.vc_types.specs.declared.video.Component.TheVariants.{Y, C1, C2}
use Rattle.vc_types.specs.Planes.{Planes}
use Rattle.vc_types.specs.Rasters.{Raster}
use Rattle.vc_types.specs.Subbands.{plane_width, plane_height}

-- as many samples as the planes of the shape have
pub record IsFilledFor (shape : Shape) (m : PlaneMemory) : Type 0 where
  pub y : vec_len m.y ≡ sample_count shape Y
  pub c1 : vec_len m.c1 ≡ sample_count shape C1
  pub c2 : vec_len m.c2 ≡ sample_count shape C2

-- a component's plane, of its samples
abbrev pub plane_with : Shape → Component → List ℕ → Raster
plane_with shape c samples = record {
  width = plane_width shape c;
  height = plane_height shape c;
  samples = samples;
}

abbrev pub planes_with : Shape → List ℕ → List ℕ → List ℕ → Planes
planes_with shape y c1 c2 = record {
  y = plane_with shape Y y;
  c1 = plane_with shape C1 c1;
  c2 = plane_with shape C2 c2;
}
