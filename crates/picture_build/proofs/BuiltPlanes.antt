-- A component's plane from the steps that make it.
use Rattle.std.proofs.Common.{◌≡◌, ℕ, ◌+◌, ◌*◌, ◌<◌, List, length, slice_index_or, ap, ◌∙◌}
use Rattle.std.specs.Prelude.{IfOk, Result, Ok, Err}
use Rattle.vc_types.specs.declared.video.Component.{Component}
use Rattle.vc_types.specs.Pictures.{component_cells}
use Rattle.vc_types.specs.Planes.{component_plane, output_sample}
use Rattle.vc_types.specs.Rasters.{Raster, raster}
use Rattle.vc_types.specs.Slices.{Coefficients}
use Rattle.vc_types.specs.Subbands.{plane_width, plane_height, plane_depth}
use Rattle.vc_types.specs.TransformParameters.{Parameters}
use Rattle.vc_types.specs.Transforms.{Cells, inverse_transform}
use Rattle.picture_build.specs.Output.{output_plane}
use Rattle.picture_build.proofs.RasterLists.{raster-is}

module _ (p : Parameters) (c : Component) where
  -- the plane that was filled
  pub plane-filled : (plane : Raster) (width height depth : ℕ) (samples : List ℕ) (cells : Cells) → plane ≡ record { width = width; height = height; samples = samples }
      → width ≡ plane_width p.shape c → height ≡ plane_height p.shape c → depth ≡ plane_depth p.shape c → length samples ≡ height * width
      → ((x y : ℕ) → x < width → y < height → slice_index_or samples (y * width + x) 0 ≡ output_sample depth (cells x y)) → plane ≡ output_plane p c cells
  plane-filled plane width height depth samples cells is across down bits whole filled =
      is
      ∙ ap (λ (xs : List ℕ). record { width = width; height = height; samples = xs }) (raster-is width (λ x y. output_sample depth (cells x y)) height samples 0 whole filled)
      ∙ ap (λ (w : ℕ). record { width = w; height = height; samples = raster w height (λ x y. output_sample depth (cells x y)) }) across
      ∙ ap (λ (h : ℕ). record { width = plane_width p.shape c; height = h; samples = raster (plane_width p.shape c) h (λ x y. output_sample depth (cells x y)) }) down
      ∙ ap (λ (d : ℕ). record { width = plane_width p.shape c; height = plane_height p.shape c; samples = raster (plane_width p.shape c) (plane_height p.shape c) (λ x y. output_sample d (cells x y)) }) bits

  -- the plane of a component
  pub plane-built : {E : Type 0} (slices : List Coefficients) (first last : Cells) (result : Result Raster E) → first ≡ component_cells p c slices → last ≡ inverse_transform p c first
      → IfOk result (λ plane. plane ≡ output_plane p c last) → IfOk result (λ plane. plane ≡ component_plane p c slices)
  unfolding component_plane
  plane-built slices first last (Ok plane) placed made is = is ∙ ap (output_plane p c) (made ∙ ap (inverse_transform p c) placed)
  plane-built slices first last (Err e) placed made is = is
