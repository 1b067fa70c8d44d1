-- The values of LL of a component, kept row by row.
use Rattle.std.specs.Prelude.{◌≡◌, ◌+◌, ◌*◌, ◌^◌, ◌<◌, ◌≤◌, ℕ, zero, suc, ℤ, pos, ◌+ℤ◌, List, unsigned_abs}
use Rattle.vc_types.specs.declared.rect.Rect.{Rect}
use Rattle.vc_types.specs.declared.video.Component.{Component}
use Rattle.vc_types.specs.Lifting.{line_of}
use Rattle.vc_types.specs.Pictures.{component_cells}
use Rattle.vc_types.specs.Rasters.{Lattice}
use Rattle.vc_types.specs.Slices.{Coefficients}
use Rattle.vc_types.specs.Subbands.{Place, subband, LL, slice_rectangle}
use Rattle.vc_types.specs.TransformParameters.{Parameters}
use Rattle.vc_types.specs.Transforms.{Cells, lowest_width, lowest_height}
use Rattle.vc_lowdelay.specs.LowDelay.{mean_of, predicted}

-- the number of a place among the values
abbrev pub index_of_place : Lattice → Place → ℕ
index_of_place band place = place.1 * band.width + place.0

-- the value in column x and row y
abbrev pub value_in : Lattice → Cells
value_in band x y = line_of band.cells (index_of_place band (x, y))

-- what is predicted of the value in column x and row y, from values that have grown
unfoldable pub prediction_in : Cells → ℕ → ℕ → ℤ
prediction_in grown zero zero = pos 0
prediction_in grown (suc x) zero = grown x zero
prediction_in grown zero (suc y) = grown zero y
prediction_in grown (suc x) (suc y) = mean_of (grown x (suc y)) (grown x y) (grown (suc x) y)

-- the value in column x and row y as it grows, where those before it have grown
abbrev pub grown_value : Lattice → Cells
grown_value band x y = value_in band x y +ℤ prediction_in (value_in band) x y

-- each value in the band is below 2 ^ 60
abbrev pub AreSmallValues : Lattice → Type 0
AreSmallValues band = (x y : ℕ) → x < band.width → y < band.height → unsigned_abs (value_in band x y) < 2 ^ 60

-- the values are those of a function of the place
abbrev pub HasValues : Cells → Lattice → Type 0
HasValues cells band = (x y : ℕ) → x < band.width → y < band.height → value_in band x y ≡ cells x y

-- some value of a function is large in as many columns and rows
pub record HasLargeValue (cells : Cells) (band : Lattice) : Type 0 where
  pub x : ℕ
  pub y : ℕ
  pub across : x < band.width
  pub down : y < band.height
  pub large : 2 ^ 60 ≤ unsigned_abs (cells x y)

-- the part of LL that belongs to a slice
abbrev pub lowest_rectangle : Parameters → Component → ℕ → Rect
lowest_rectangle p c slice = slice_rectangle p c (subband 0 LL) slice

-- the band has the size of a component's LL
pub record IsLowest (p : Parameters) (c : Component) (band : Lattice) : Type 0 where
  pub width : band.width ≡ lowest_width p c
  pub height : band.height ≡ lowest_height p c

-- and the values of LL as they have grown
pub record IsGrown (p : Parameters) (c : Component) (slices : List Coefficients) (band : Lattice)
    : Type 0 where
  pub size : IsLowest p c band
  pub values : HasValues (predicted (component_cells p c slices)) band
  pub small : AreSmallValues band
