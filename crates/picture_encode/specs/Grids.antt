-- The coefficients of a picture, in a grid for each component.
use Rattle.std.specs.Prelude.{◌≡◌, ◌*◌, ◌<◌, ◌^◌, ℕ, ℤ, All, unsigned_abs, List, length, map}
use Rattle.std.specs.List.{range_with_len}
use Rattle.link_model.specs.SendingPictures.{number_at_place, numbers_in_slice, sent_cells}
use Rattle.picture_encode.specs.declared.grids.ComponentGrid.{ComponentGrid}
use Rattle.picture_encode.specs.declared.grids.ComponentGrid.TheVariants.{Narrow, Wide}
use Rattle.picture_encode.specs.declared.grids.PictureGrids.{PictureGrids}
use Rattle.vc_types.specs.declared.rect.Rect.{Rect}
use Rattle.vc_types.specs.declared.video.Component.{Component}
use Rattle.vc_types.specs.declared.video.Component.TheVariants.{Y, C1, C2}
use Rattle.vc_types.specs.Planes.{Planes}
use Rattle.vc_types.specs.Rasters.{Lattice, Raster, cell_at, sample_at}
use Rattle.vc_types.specs.Slices.{Coefficients}
use Rattle.vc_types.specs.Subbands.{area, place_in, padded_width, padded_height}
use Rattle.vc_types.specs.TransformParameters.{Parameters}
use Rattle.vc_types.specs.Transforms.{Cells, forward_transform}
use Rattle.vc_wave.specs.Layout.{nested_in}

-- cells of the padded size of a component that has no levels across alone
pub record IsNarrowGrid (p : Parameters) (c : Component) (cells : List ℤ) : Type 0 where
  pub none_across : p.depth_ho ≡ 0
  pub size : length cells ≡ padded_height p c * padded_width p c
  pub small : All (λ z. unsigned_abs z < 2 ^ 60) cells

-- cells that have the coefficients of a component's plane
pub record AreNarrowCells (p : Parameters) (c : Component) (plane : Raster) (cells : List ℤ)
    : Type 0 where
  pub grid : IsNarrowGrid p c cells
  pub value : (x y : ℕ) → x < padded_width p c → y < padded_height p c
      → nested_in p c (padded_width p c) cells x y ≡ forward_transform p c (sample_at plane) x y

-- a grid of the padded size of a component
pub record IsWideGrid (p : Parameters) (c : Component) (g : Lattice) : Type 0 where
  pub width : g.width ≡ padded_width p c
  pub height : g.height ≡ padded_height p c
  pub small : All (λ z. unsigned_abs z < 2 ^ 60) g.cells

-- either with small coefficients
abbrev pub IsGrid : Parameters → Component → ComponentGrid → Type 0
IsGrid p c (Narrow cells) = IsNarrowGrid p c cells.items
IsGrid p c (Wide g) = IsWideGrid p c g

-- the number in each column and row of the nested subbands
unfoldable pub cells_of : Parameters → Component → ComponentGrid → Cells
cells_of p c (Narrow cells) = nested_in p c (padded_width p c) cells.items
cells_of p c (Wide g) = cell_at g

-- a grid has the coefficients of a component of these planes
pub record HasCoefficients (p : Parameters) (c : Component) (planes : Planes) (g : ComponentGrid)
    : Type 0 where
  pub grid : IsGrid p c g
  pub cells : (x y : ℕ) → x < padded_width p c → y < padded_height p c
      → cells_of p c g x y ≡ sent_cells p planes c x y

-- the grids have the coefficients of these planes
pub record HaveCoefficients (p : Parameters) (planes : Planes) (g : PictureGrids) : Type 0 where
  pub y : HasCoefficients p Y planes g.y
  pub c1 : HasCoefficients p C1 planes g.c1
  pub c2 : HasCoefficients p C2 planes g.c2

pub record AreGrids (p : Parameters) (g : PictureGrids) : Type 0 where
  pub y : IsGrid p Y g.y
  pub c1 : IsGrid p C1 g.c1
  pub c2 : IsGrid p C2 g.c2

-- the numbers of a slice in cells whose rows are taken in turn
abbrev pub narrow_numbers : Parameters → Component → List ℤ → ℕ → List ℤ
narrow_numbers p c cells slice = numbers_in_slice p c (nested_in p c (padded_width p c) cells) slice

-- the coefficients of a slice
abbrev pub slice_in_grids : Parameters → PictureGrids → ℕ → Coefficients
slice_in_grids p g slice = record {
  y = numbers_in_slice p Y (cells_of p Y g.y) slice;
  c1 = numbers_in_slice p C1 (cells_of p C1 g.c1) slice;
  c2 = numbers_in_slice p C2 (cells_of p C2 g.c2) slice;
}

-- the numbers of a rectangle, row by row
abbrev pub rectangle_numbers : Cells → Rect → List ℤ
rectangle_numbers cells r = map (λ i. number_at_place cells (place_in r i)) (range_with_len 0 (area r))
