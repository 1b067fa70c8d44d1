-- The words of definitions for a plan: what they say of its parameters.
use Rattle.std.specs.Prelude.{ℕ, ℤ, Bool, List, Result}
use Rattle.vc_types.specs.declared.plan.Plan.{Plan}
use Rattle.vc_types.specs.declared.rect.Rect.{Rect}
use Rattle.vc_types.specs.declared.refusal.Unsound.{Unsound}
use Rattle.vc_types.specs.declared.video.Component.{Component}
use Rattle.vc_types.specs.Quantisation.{subband_count}
use Rattle.vc_types.specs.TransformParameters.{parameters_of}
use Rattle.vc_types.specs.Subbands as subbands
use Rattle.vc_types.specs.Slices as slices
use Rattle.vc_types.specs.Encoding as encoding
use Rattle.vc_types.specs.SliceCoefficients as kept

-- how many subbands a component has
abbrev pub band_count : Plan → ℕ
band_count plan = subband_count plan.depth_ho plan.depth

-- where a subband stands, by its number
abbrev pub subband_rectangle : Plan → Component → ℕ → Rect
subband_rectangle plan c b =
    subbands.subband_rectangle (parameters_of plan) c (subbands.subband_at plan.depth_ho plan.depth b)

-- and its part that belongs to a slice
abbrev pub slice_rectangle : Plan → Component → ℕ → ℕ → Rect
slice_rectangle plan c b =
    subbands.slice_rectangle (parameters_of plan) c (subbands.subband_at plan.depth_ho plan.depth b)

abbrev pub padded_width : Plan → Component → ℕ
padded_width plan = subbands.padded_width (parameters_of plan)

abbrev pub padded_height : Plan → Component → ℕ
padded_height plan = subbands.padded_height (parameters_of plan)

abbrev pub slice_count : Plan → ℕ
slice_count plan = subbands.slice_count (parameters_of plan)

abbrev pub slice_column : Plan → ℕ → ℕ
slice_column plan = subbands.slice_column (parameters_of plan)

abbrev pub slice_row : Plan → ℕ → ℕ
slice_row plan = subbands.slice_row (parameters_of plan)

abbrev pub slice_coefficient_count : Plan → Component → ℕ → ℕ
slice_coefficient_count plan = subbands.slice_coefficient_count (parameters_of plan)

abbrev pub coefficient_place : Plan → Component → ℕ → ℕ → subbands.Place
coefficient_place plan = subbands.coefficient_place (parameters_of plan)

abbrev pub IsMetOnce : Plan → Component → ℕ → ℕ → Type 0
IsMetOnce plan = subbands.IsMetOnce (parameters_of plan)

abbrev pub slice_coefficients : Plan → ℕ → List ℕ → Result slices.Coefficients Unsound
slice_coefficients plan = slices.slice_coefficients (parameters_of plan)

abbrev pub all_coefficients : Plan → ℕ → slices.CodedSlice → slices.Coefficients
all_coefficients plan = slices.all_coefficients (parameters_of plan)

abbrev pub block_coefficients : Plan → Component → ℕ → ℕ → List ℕ → List ℤ
block_coefficients plan = slices.block_coefficients (parameters_of plan)

abbrev pub quantisers : Plan → Component → ℕ → ℕ → List ℕ
quantisers plan = slices.quantisers (parameters_of plan)

abbrev pub is_too_long : Plan → ℕ → ℕ → slices.Coefficients → Bool
is_too_long plan = encoding.is_too_long (parameters_of plan)

abbrev pub block_bits : Plan → Component → ℕ → ℕ → List ℤ → List Bool
block_bits plan = encoding.block_bits (parameters_of plan)

abbrev pub component_bits : Plan → ℕ → ℕ → slices.Coefficients → Component → List Bool
component_bits plan = encoding.component_bits (parameters_of plan)

abbrev pub encoded_slice : Plan → ℕ → ℕ → slices.Coefficients → List Bool
encoded_slice plan = encoding.encoded_slice (parameters_of plan)

abbrev pub encoded_length : Plan → ℕ → ℕ → slices.Coefficients → ℕ
encoded_length plan = encoding.encoded_length (parameters_of plan)

abbrev pub AreSliceCoefficients : Plan → ℕ → slices.Coefficients → Type 0
AreSliceCoefficients plan = kept.AreSliceCoefficients (parameters_of plan)
