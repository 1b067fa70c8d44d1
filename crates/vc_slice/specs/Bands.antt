-- What belongs to a slice: its coefficients, the parts of its subbands, and what a block stands for.
use Rattle.std.specs.Prelude.{ℕ, ℤ, Bool, List, slice_index_or}
use Rattle.vc_types.specs.declared.rect.Rect.{Rect}
use Rattle.vc_types.specs.declared.video.Component.{Component}
use Rattle.vc_types.specs.Lifting.{line_of}
use Rattle.vc_types.specs.OfPlan as plans
use Rattle.vc_types.specs.Quantisation.{dequantised}
use Rattle.vc_types.specs.Slices.{CodedSlice, Coefficients}
use Rattle.vc_slice.specs.declared.bands.SliceParts.{SliceParts}
use Rattle.vc_slice.specs.declared.bands.SliceBands.{SliceBands}

abbrev pub band_count : SliceParts → ℕ
band_count parts = plans.band_count parts.plan

abbrev pub coefficient_count : SliceParts → Component → ℕ
coefficient_count parts c = plans.slice_coefficient_count parts.plan c parts.slice

abbrev pub rectangle : SliceParts → Component → ℕ → Rect
rectangle parts c b = plans.slice_rectangle parts.plan c b parts.slice

abbrev pub coefficients_of_slice : SliceParts → CodedSlice → Coefficients
coefficients_of_slice parts = plans.all_coefficients parts.plan parts.slice

abbrev pub quantisers_of : SliceBands → Component → List ℕ
quantisers_of bands c = plans.quantisers bands.parts.now.plan c bands.parts.now.slice bands.index

abbrev pub coefficients_of_block : SliceBands → Component → List ℕ → List ℤ
coefficients_of_block bands c =
    plans.block_coefficients bands.parts.now.plan c bands.parts.now.slice bands.index

-- the coefficient that number i of a list stands for
abbrev pub numbered_in : SliceBands → Component → List ℤ → ℕ → ℤ
numbered_in bands c numbers i =
    dequantised (line_of numbers i) (slice_index_or (quantisers_of bands c) i 0)

-- coefficients are those of the slice: as many, and small
abbrev pub AreCoefficients : SliceParts → Coefficients → Type 0
AreCoefficients parts = plans.AreSliceCoefficients parts.plan parts.slice

-- the codes of a component at an index
abbrev pub codes_at : SliceParts → ℕ → Coefficients → Component → List Bool
codes_at parts = plans.component_bits parts.plan parts.slice

abbrev pub component_codes : SliceBands → Coefficients → Component → List Bool
component_codes bands = codes_at bands.parts.now bands.index

abbrev pub block_codes : SliceBands → Component → List ℤ → List Bool
block_codes bands c = plans.block_bits bands.parts.now.plan c bands.parts.now.slice bands.index
