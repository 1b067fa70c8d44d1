-- The planes of a decoded picture (ST 2042-1, picture output).
use Rattle.std.specs.Prelude.{ℕ, ◌-◌, ◌^◌, List, [], slice_index_or, ℤ, pos}
use Rattle.std.specs.Prelude.{negsuc, ◌+ℤ◌, unsigned_abs, min, Option}
use Rattle.std.specs.Option.{option_map}
use Rattle.vc_types.specs.declared.video.Component.{Component}
use Rattle.vc_types.specs.declared.video.Component.TheVariants.{Y, C1, C2}
use Rattle.vc_types.specs.Pictures.{decoded_picture, component_cells}
use Rattle.vc_types.specs.Rasters.{Raster, raster}
use Rattle.vc_types.specs.SequenceHeader.{Sequence}
use Rattle.vc_types.specs.Slices.{Coefficients}
use Rattle.vc_types.specs.Subbands.{plane_width, plane_height, plane_depth}
use Rattle.vc_types.specs.TransformParameters.{Parameters}
use Rattle.vc_types.specs.Transforms.{inverse_transform}

pub record Planes : Type 0 where
  pub y : Raster
  pub c1 : Raster
  pub c2 : Raster

-- no columns and no rows
abbrev pub no_plane : Raster
no_plane = record { width = 0; height = 0; samples = [] }

-- the planes of the three components, in this order
abbrev pub planes_in : List Raster → Planes
planes_in planes = record {
  y = slice_index_or planes 0 no_plane;
  c1 = slice_index_or planes 1 no_plane;
  c2 = slice_index_or planes 2 no_plane;
}

-- a number is held from -half to half - 1
abbrev pub clipped : ℕ → ℤ → ℤ
clipped half (pos n) = pos (min n (half - 1))
clipped half (negsuc n) = negsuc (min n (half - 1))

-- the sample of so many bits: clipped, and then half of their range is added
unfoldable pub output_sample : ℕ → ℤ → ℕ
output_sample depth z = unsigned_abs (clipped (2 ^ (depth - 1)) z +ℤ pos (2 ^ (depth - 1)))

-- a component's plane: the inverse transform of its coefficients without the padding
unfoldable pub component_plane : Parameters → Component → List Coefficients → Raster
component_plane p c slices = record {
  width = plane_width p.shape c;
  height = plane_height p.shape c;
  samples = raster (plane_width p.shape c) (plane_height p.shape c)
      (λ x y. output_sample (plane_depth p.shape c)
      (inverse_transform p c (component_cells p c slices) x y));
}

abbrev pub planes_of : Parameters → List Coefficients → Planes
planes_of p slices = record {
  y = component_plane p Y slices;
  c1 = component_plane p C1 slices;
  c2 = component_plane p C2 slices;
}

-- the planes of a picture's own bytes, if it decodes
unfoldable pub decoded_planes : Sequence → List ℕ → Option Planes
decoded_planes sequence bytes =
    option_map (λ picture. planes_of picture.parameters picture.slices)
    (decoded_picture sequence bytes)
