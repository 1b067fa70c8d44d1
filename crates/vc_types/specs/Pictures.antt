-- A picture decoded in sequence from its whole bytes (ST 2042-1, picture parsing).
use Rattle.std.specs.Prelude.{ℕ, zero, suc, ◌+◌, Bool, ◌&&◌, ◌==◌, if◌then◌else◌, List, [], ◌∷◌}
use Rattle.std.specs.Prelude.{drop, map, ℤ, pos, Option, Some, None, Result, Ok, Err}
use Rattle.std.specs.List.{flat_map, enumerate_from}
use Rattle.vc_types.specs.declared.refusal.ParamsRefusal.{ParamsRefusal}
use Rattle.vc_types.specs.declared.refusal.Unsound.{Unsound}
use Rattle.vc_types.specs.declared.video.Component.{Component}
use Rattle.vc_types.specs.Bits.{bits_of}
use Rattle.vc_types.specs.Fields.{◌>>=◌, give, refuse}
use Rattle.vc_types.specs.SequenceHeader.{Sequence, bytes_used}
use Rattle.vc_types.specs.Slices.{ByteField, coded_slice, decoded_slice, Coefficients, coefficients_of}
use Rattle.vc_types.specs.Subbands.{Place, slice_count, coefficient_place}
use Rattle.vc_types.specs.TransformParameters.{Parameters, transform_parameters}
use Rattle.vc_types.specs.Transforms.{Cells}

-- the transform parameters, and the coefficients of each slice in raster order
pub record Picture : Type 0 where
  pub parameters : Parameters
  pub slices : List Coefficients

abbrev pub sound : Result Coefficients Unsound → ByteField Coefficients
sound (Ok coefficients) = give coefficients
sound (Err unsound) = refuse tt

-- n slices from number i on, one after another, each of which is sound
unfoldable pub slices_from : Parameters → ℕ → ℕ → ByteField (List Coefficients)
slices_from p i zero = give []
slices_from p i (suc n) = do
  coded ← coded_slice p.prefix p.scaler
  slice ← sound (decoded_slice p i coded)
  slices ← slices_from p (i + 1) n
  give (slice ∷ slices)

abbrev pub with_slices : Parameters → Result (List Coefficients × List ℕ) (Unit {0})
    → Option Picture
with_slices p (Ok read) = Some (record { parameters = p; slices = read.0 })
with_slices p (Err none) = None

abbrev pub with_parameters : List ℕ → Result (Parameters × List Bool) ParamsRefusal → Option Picture
with_parameters bytes (Ok read) =
    with_slices read.0
    (slices_from read.0 0 (slice_count read.0) (drop (bytes_used bytes read.1) bytes))
with_parameters bytes (Err refusal) = None

-- transform parameters and, from the next whole byte on, the slices in raster order
unfoldable pub decoded_picture : Sequence → List ℕ → Option Picture
decoded_picture sequence bytes =
    with_parameters bytes (transform_parameters sequence (bits_of bytes))

-- ---- the coefficients of a component, by their places

-- the coefficients of slice number n at their places
abbrev pub placed : Parameters → Component → ℕ → List ℤ → List (Place × ℤ)
placed p c n coefficients =
    map (λ z. (coefficient_place p c n z.0, z.1)) (enumerate_from 0 coefficients)

unfoldable pub all_placed : Parameters → Component → List Coefficients → List (Place × ℤ)
all_placed p c slices =
    flat_map (λ s. placed p c s.0 (coefficients_of s.1 c)) (enumerate_from 0 slices)

-- the number that stands in column x and row y, 0 where none does
unfoldable pub standing_at : List (Place × ℤ) → ℕ → ℕ → ℤ
standing_at [] x y = pos 0
standing_at (z ∷ zs) x y = if z.0.0 == x && z.0.1 == y then z.1 else standing_at zs x y

unfoldable pub component_cells : Parameters → Component → List Coefficients → Cells
component_cells p c slices = standing_at (all_placed p c slices)
