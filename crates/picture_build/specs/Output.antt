-- A component's plane from its samples before they are clipped.
use Rattle.vc_types.specs.declared.video.Component.{Component}
use Rattle.vc_types.specs.Planes.{output_sample}
use Rattle.vc_types.specs.Rasters.{Raster, raster}
use Rattle.vc_types.specs.Subbands.{plane_width, plane_height, plane_depth}
use Rattle.vc_types.specs.TransformParameters.{Parameters}
use Rattle.vc_types.specs.Transforms.{Cells}

-- without the padding, each number clipped and half of the samples' range added
abbrev pub output_plane : Parameters → Component → Cells → Raster
output_plane p c cells = record {
  width = plane_width p.shape c;
  height = plane_height p.shape c;
  samples = raster (plane_width p.shape c) (plane_height p.shape c)
      (λ x y. output_sample (plane_depth p.shape c) (cells x y));
}
