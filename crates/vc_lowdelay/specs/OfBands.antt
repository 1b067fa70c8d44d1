-- The words of definitions for a slice that is read, and for LL as it is kept.
use Rattle.std.specs.Prelude.{ℕ, ◌+◌, ◌*◌, ℤ, Bool, List, slice_index_or}
use Rattle.vc_types.specs.declared.video.Component.{Component}
use Rattle.vc_types.specs.declared.video.Component.TheVariants.{Y, C1, C2}
use Rattle.vc_types.specs.Lifting.{line_of}
use Rattle.vc_types.specs.Quantisation.{dequantised}
use Rattle.vc_types.specs.Rasters.{Lattice}
use Rattle.vc_types.specs.Slices.{Coefficients}
use Rattle.vc_types.specs.Subbands.{area, place_in}
use Rattle.vc_types.specs.TransformParameters.{Parameters, parameters_of}
use Rattle.vc_types.specs.Transforms.{Cells}
use Rattle.vc_golomb.specs.Numbers.{number_at}
use Rattle.vc_slice.specs.declared.bands.SliceBands.{SliceBands}
use Rattle.vc_slice.specs.Bands.{quantisers_of}
use Rattle.vc_lowdelay.specs.declared.bands.LowestBands.{LowestBands}
use Rattle.vc_lowdelay.specs.declared.slice.LowSlice.{LowSlice}
use Rattle.vc_lowdelay.specs.Bands.{IsLowest, lowest_rectangle}
use Rattle.vc_lowdelay.specs.Coded.{slice_of}
use Rattle.vc_lowdelay.specs.Grown.{IsGrownSlice, grown_or, lowest_in, value_at}
use Rattle.vc_lowdelay.specs.Placed.{HasLargeIn, place_of_number}

abbrev pub parameters_in : SliceBands → Parameters
parameters_in bands = parameters_of bands.parts.now.plan

-- a coefficient as it has grown
abbrev pub grown_in : SliceBands → Component → Cells → (ℕ → ℤ) → ℕ → ℤ
grown_in bands c = grown_or (parameters_in bands) c bands.parts.now.slice

-- how many coefficients a slice has of LL, and each of them
abbrev pub lowest_count : SliceBands → Component → ℕ
lowest_count bands c = area (lowest_rectangle (parameters_in bands) c bands.parts.now.slice)

abbrev pub lowest_at : SliceBands → Component → Cells → ℕ → ℤ
lowest_at bands c lowest i =
    value_at lowest (place_in (lowest_rectangle (parameters_in bands) c bands.parts.now.slice) i)

-- a band has the size of LL
abbrev pub IsLowestOf : SliceBands → Component → Lattice → Type 0
IsLowestOf bands = IsLowest (parameters_in bands)

pub record AreLowest (p : Parameters) (lowest : LowestBands) : Type 0 where
  pub y : IsLowest p Y lowest.y
  pub c1 : IsLowest p C1 lowest.c1
  pub c2 : IsLowest p C2 lowest.c2

-- the coefficients of the slice, with LL as it has grown
abbrev pub IsSliceOf : SliceBands → LowSlice → LowestBands → Coefficients → Type 0
IsSliceOf bands coded lowest = IsGrownSlice (parameters_in bands) bands.parts.now.slice
    (slice_of coded) (lowest_in lowest.y lowest.c1 lowest.c2)

-- a coefficient of the slice is large, before prediction
abbrev pub IsLargeSlice : SliceBands → LowSlice → Type 0
IsLargeSlice bands coded =
    HasLargeIn (parameters_in bands) bands.parts.now.slice (slice_of coded)

-- which numbers of the colours' block are those of a colour component: the even ones, or the odd ones
abbrev pub turn_of : Component → ℕ
turn_of Y = 0
turn_of C1 = 0
turn_of C2 = 1

-- coefficient k of a component, before prediction, from the bits of its block
abbrev pub read_in : SliceBands → Component → List Bool → ℕ → ℤ
read_in bands c bits k = dequantised (number_at bits (place_of_number c k))
    (slice_index_or (quantisers_of bands c) k 0)

-- the same of a colour component, from the numbers of both colours in turn
abbrev pub turned_in : SliceBands → Component → List ℤ → ℕ → ℤ
turned_in bands c turns k = dequantised (line_of turns (2 * k + turn_of c))
    (slice_index_or (quantisers_of bands c) k 0)
