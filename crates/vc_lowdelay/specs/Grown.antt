-- Slices whose coefficients of LL, which come first, are as they have grown.
use Rattle.std.specs.Prelude.{◌≡◌, ℕ, nat_lt, if◌then◌else◌, List, length, map, ℤ, false}
use Rattle.std.specs.List.{enumerate_from, list_any, range_with_len}
use Rattle.vc_types.specs.declared.video.Component.{Component}
use Rattle.vc_types.specs.declared.video.Component.TheVariants.{Y, C1, C2}
use Rattle.vc_types.specs.Lifting.{line_of}
use Rattle.vc_types.specs.Pictures.{component_cells}
use Rattle.vc_types.specs.Rasters.{Lattice}
use Rattle.vc_types.specs.Slices.{Coefficients, is_large}
use Rattle.vc_types.specs.Subbands.{Place, area, place_in}
use Rattle.vc_types.specs.TransformParameters.{Parameters}
use Rattle.vc_types.specs.Transforms.{Cells}
use Rattle.vc_lowdelay.specs.Bands.{lowest_rectangle, value_in}
use Rattle.vc_lowdelay.specs.LowDelay.{LowSlice, predicted, low_coefficients, all_low_coefficients}

-- LL of the three components, by the place of each value
pub record Lowest : Type 0 where
  pub y : Cells
  pub c1 : Cells
  pub c2 : Cells

-- as it is kept
abbrev pub lowest_in : Lattice → Lattice → Lattice → Lowest
lowest_in y c1 c2 = record { y = value_in y; c1 = value_in c1; c2 = value_in c2 }

-- as it has grown
abbrev pub grown_lowest : Parameters → List Coefficients → Lowest
grown_lowest p slices = record {
  y = predicted (component_cells p Y slices);
  c1 = predicted (component_cells p C1 slices);
  c2 = predicted (component_cells p C2 slices);
}

abbrev pub value_at : Cells → Place → ℤ
value_at cells place = cells place.0 place.1

-- coefficient i of a component in a slice: a value of LL, or one of the coefficients
abbrev pub grown_or : Parameters → Component → ℕ → Cells → (ℕ → ℤ) → ℕ → ℤ
grown_or p c n lowest coefficients i =
    if nat_lt i (area (lowest_rectangle p c n))
    then value_at lowest (place_in (lowest_rectangle p c n) i)
    else coefficients i

abbrev pub with_lowest : Parameters → Component → ℕ → Cells → List ℤ → List ℤ
with_lowest p c n lowest coefficients =
    map (grown_or p c n lowest (line_of coefficients)) (range_with_len 0 (length coefficients))

-- slice number n
unfoldable pub grown_slice : Parameters → ℕ → Lowest → Coefficients → Coefficients
grown_slice p n lowest s = record {
  y = with_lowest p Y n lowest.y s.y;
  c1 = with_lowest p C1 n lowest.c1 s.c1;
  c2 = with_lowest p C2 n lowest.c2 s.c2;
}

abbrev pub grown_slices : Parameters → List Coefficients → List Coefficients
grown_slices p slices =
    map (λ z. grown_slice p z.0 (grown_lowest p slices) z.1) (enumerate_from 0 slices)

-- no coefficient of a slice is large
abbrev pub IsSound : Parameters → ℕ → LowSlice → Type 0
IsSound p n s = (c : Component) → list_any is_large (low_coefficients p n s c) ≡ false

-- the coefficients of a sound slice, with LL as it has grown
pub record IsGrownSlice (p : Parameters) (n : ℕ) (s : LowSlice) (lowest : Lowest) (made : Coefficients)
    : Type 0 where
  pub value : made ≡ grown_slice p n lowest (all_low_coefficients p n s)
  pub sound : IsSound p n s
