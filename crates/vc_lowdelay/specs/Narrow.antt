-- The coefficients of a picture in cells of 32 bits: how LL grows there, and their planes.
use Rattle.std.specs.Prelude.{◌≡◌, ◌+◌, ◌*◌, ◌^◌, ◌<◌, ℕ, ℤ, List, length, unsigned_abs}
use Rattle.vc_types.specs.declared.video.Component.{Component}
use Rattle.vc_types.specs.Lifting.{line_of}
use Rattle.vc_types.specs.Pictures.{component_cells}
use Rattle.vc_types.specs.Rasters.{Raster}
use Rattle.vc_types.specs.Subbands.{padded_width, padded_height}
use Rattle.vc_types.specs.TransformParameters.{Parameters}
use Rattle.vc_types.specs.Transforms.{Cells, inverse_transform, lowest_width, lowest_height}
use Rattle.vc_wave.specs.Planes.{plane_of}
use Rattle.picture_build.specs.Output.{output_plane}
use Rattle.vc_lowdelay.specs.LowDelay.{LowParameters, low_slices, predicted, predicted_cells}

-- ---- LL

-- what cells hold in each column and row, so many a row
abbrev pub cells_of : ℕ → List ℤ → Cells
cells_of stride cells x y = line_of cells (y * stride + x)

abbrev pub kept_cells : Parameters → Component → List ℤ → Cells
kept_cells p c = cells_of (padded_width p c)

-- LL of a component has grown in its cells, no value is large, and the others are as before
pub record GrowsLowest (p : Parameters) (c : Component) (old new : List ℤ) : Type 0 where
  pub length : length new ≡ length old
  pub grown : (x y : ℕ) → x < lowest_width p c → y < lowest_height p c
      → kept_cells p c new x y ≡ predicted (kept_cells p c old) x y
  pub small : (x y : ℕ) → x < lowest_width p c → y < lowest_height p c
      → unsigned_abs (predicted (kept_cells p c old) x y) < 2 ^ 60
  pub others : (x y : ℕ) → x < padded_width p c
      → (x < lowest_width p c → y < lowest_height p c → ⊥)
      → kept_cells p c new x y ≡ kept_cells p c old x y

-- ---- a picture

-- the cells of a component's padded grid
abbrev pub HasPaddedSize : Parameters → Component → List ℤ → Type 0
HasPaddedSize p c cells = length cells ≡ padded_height p c * padded_width p c

-- they hold a component of the picture of these bytes, with LL as it has grown
pub record HoldsGrown (p : LowParameters) (bytes : List ℕ) (c : Component) (cells : List ℤ)
    : Type 0 where
  pub size : HasPaddedSize p.parameters c cells
  pub each : (x y : ℕ) → x < padded_width p.parameters c → y < padded_height p.parameters c
      → kept_cells p.parameters c cells x y
      ≡ predicted_cells p.parameters c (component_cells p.parameters c (low_slices p bytes)) x y

-- the plane of a component that cells hold
abbrev pub kept_plane : Parameters → Component → List ℤ → Raster
kept_plane p c cells = output_plane p c (inverse_transform p c (plane_of (padded_width p c) cells))
