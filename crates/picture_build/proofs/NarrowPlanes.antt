-- A component's plane from samples that were made in 32 bits.
use Rattle.std.proofs.Common.{◌≡◌, ℕ, ◌<◌, List, ℤ, arith, refl, sym, ◌∙◌}
use Rattle.std.specs.Prelude.{Ok}
use Rattle.vc_types.specs.declared.video.Component.{Component}
use Rattle.vc_types.specs.Pictures.{component_cells}
use Rattle.vc_types.specs.Planes.{component_plane}
use Rattle.vc_types.specs.Rasters.{Raster}
use Rattle.vc_types.specs.Slices.{Coefficients}
use Rattle.vc_types.specs.Subbands.{padded_width, padded_height}
use Rattle.vc_types.specs.TransformParameters.{Parameters}
use Rattle.vc_types.specs.Transforms.{inverse_transform}
use Rattle.vc_wave.specs.Planes.{plane_of}
use Rattle.vc_wave.proofs.Grids.{cell_at_plane, lattice}
use Rattle.picture_build.specs.Kept.{AreIn}
use Rattle.picture_build.specs.Output.{output_plane}
use Rattle.picture_build.proofs.BuiltPlanes.{plane-built}
use Rattle.picture_build.proofs.InCells.{cells_are}

module _ (p : Parameters) (c : Component) where
  module _ (some_across : 0 < p.slices_x) (some_down : 0 < p.slices_y) where
    coefficients_are : (slices : List Coefficients) (cells : List ℤ) → AreIn p c slices cells → plane_of (padded_width p c) cells ≡ component_cells p c slices
    coefficients_are slices cells at =
        sym (cell_at_plane (lattice (padded_width p c) (padded_height p c) cells) (at.length ∙ omega arith))
        ∙ cells_are p c some_across some_down slices cells at (lattice (padded_width p c) (padded_height p c) cells) refl refl refl

    -- whatever slices they are
    pub plane_made : (cells : List ℤ) (plane : Raster) → plane ≡ output_plane p c (inverse_transform p c (plane_of (padded_width p c) cells)) → (slices : List Coefficients) → AreIn p c slices cells → plane ≡ component_plane p c slices
    plane_made cells plane made slices at =
        plane-built p c {E = ℕ} slices (plane_of (padded_width p c) cells) (inverse_transform p c (plane_of (padded_width p c) cells)) (Ok plane) (coefficients_are slices cells at) refl made
