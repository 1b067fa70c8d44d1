-- Transform parameters (ST 2042-1, transform parameters): the fields in order, and the first
-- refusal.
use Rattle.std.specs.Prelude.{ℕ, zero, suc, ◌+◌, ◌-◌, ◌^◌, Bool, ◌&&◌, List, [], ◌∷◌, Option}
use Rattle.std.specs.Prelude.{Some, None, Result, nat_le, ◌==◌, if◌then◌else◌}
use Rattle.vc_types.specs.declared.plan.Plan.{Plan}
use Rattle.vc_types.specs.declared.shape.Shape.{Shape}
use Rattle.vc_types.specs.declared.refusal.ParamsRefusal.{ParamsRefusal}
use Rattle.vc_types.specs.declared.refusal.ParamsRefusal.TheVariants as refusals
use Rattle.vc_types.specs.Fields.{Field, ◌>>=◌, give, refuse, tested, behind_flag, number_up_to, flag}
use Rattle.vc_types.specs.Limits.{slices_fit, padded_luma_fits}
use Rattle.vc_types.specs.Quantisation.{filled_matrix, subband_count, default_matrix}
use Rattle.vc_types.specs.Bits.{bits_of}
use Rattle.vc_types.specs.SequenceHeader.{Sequence, picture_shape, with_bytes_used}

-- the value of transform parameters, with the shape of the picture that they are for
pub record Parameters : Type 0 where
  pub shape : Shape
  pub wavelet : ℕ
  pub wavelet_ho : ℕ
  pub depth : ℕ
  pub depth_ho : ℕ
  pub slices_x : ℕ
  pub slices_y : ℕ
  pub prefix : ℕ
  pub scaler : ℕ
  pub matrix : List ℕ

abbrev pub parameters_of : Plan → Parameters
parameters_of p = record {
  shape = p.shape;
  wavelet = p.wavelet;
  wavelet_ho = p.wavelet_ho;
  depth = p.depth;
  depth_ho = p.depth_ho;
  slices_x = p.slices_x;
  slices_y = p.slices_y;
  prefix = p.prefix;
  scaler = p.scaler;
  matrix = p.matrix;
}

-- the transform is the same across as down: by the wavelet, and the wavelet and the levels across
-- alone
abbrev pub same_across : ℕ → ℕ × ℕ → Bool
same_across wavelet across = across.0 == wavelet && across.1 == 0

abbrev pub is_symmetric : Parameters → Bool
is_symmetric p = same_across p.wavelet (p.wavelet_ho, p.depth_ho)

abbrev pub ParamsField : Type 0 → Type 0
ParamsField X = Field Bool ParamsRefusal X

-- ---- the fields

unfoldable pub number : ParamsField ℕ
number = number_up_to refusals.Short refusals.TooLarge (2 ^ 32 - 1)

unfoldable pub wavelet_index : ParamsField ℕ
wavelet_index = tested (λ n. nat_le n 6) refusals.Wavelet number

unfoldable pub wavelet_depth : ParamsField ℕ
wavelet_depth = tested (λ n. nat_le 1 n && nat_le n 5) refusals.Depth number

-- the wavelet across and the levels across alone: fields of major version 3, each behind a flag
unfoldable pub extended_parameters : ℕ → ℕ → ℕ → ParamsField (ℕ × ℕ)
extended_parameters major wavelet depth = if major == 3 then (do
  wavelet_ho ← behind_flag refusals.Short wavelet wavelet_index
  depth_ho ← behind_flag refusals.Short 0 (tested (λ n. nat_le (depth + n) 5) refusals.Depth number)
  give (wavelet_ho, depth_ho)) else give (wavelet, 0)

unfoldable pub slice_counts : ParamsField (ℕ × ℕ)
slice_counts = tested (λ n. slices_fit n.0 n.1) refusals.Slices (do
  across ← number
  down ← number
  give (across, down))

unfoldable pub prefix_bytes : ParamsField ℕ
prefix_bytes = tested (λ n. nat_le n 65535) refusals.SliceBytes number

unfoldable pub size_scaler : ParamsField ℕ
size_scaler = tested (λ n. nat_le 1 n && nat_le n 65535) refusals.SliceBytes number

unfoldable pub matrix_value : ParamsField ℕ
matrix_value = tested (λ n. nat_le n 127) refusals.Matrix number

-- so many values of a custom matrix
unfoldable pub matrix_values : ℕ → ParamsField (List ℕ)
matrix_values zero = give []
matrix_values (suc n) = do
  value ← matrix_value
  values ← matrix_values n
  give (value ∷ values)

-- a custom matrix of so many values
abbrev pub custom_matrix : ℕ → ParamsField (List ℕ)
custom_matrix count = do
  values ← matrix_values count
  give (filled_matrix values)

abbrev pub matrix_by_default : Option (List ℕ) → ParamsField (List ℕ)
matrix_by_default None = refuse refusals.NoDefault
matrix_by_default (Some matrix) = give matrix

-- the default matrix; a transform that isn't the same across as down has none
abbrev pub default_of : ℕ → ℕ → ℕ × ℕ → Option (List ℕ)
default_of wavelet depth across =
    if same_across wavelet across then default_matrix wavelet depth else None

-- a value for each subband in order, where the flag is 1
unfoldable pub quantisation_matrix : ℕ → ℕ → ℕ × ℕ → ParamsField (List ℕ)
quantisation_matrix wavelet depth across = do
  custom ← flag refusals.Short
  if custom then custom_matrix (subband_count across.1 depth)
      else matrix_by_default (default_of wavelet depth across)

-- ---- what the parameters of all pictures have: the transform first, and the matrix last

-- a transform: its wavelet and levels, and the wavelet and the levels across alone
pub record Transform : Type 0 where
  pub wavelet : ℕ
  pub depth : ℕ
  pub across : ℕ × ℕ

-- by the major version
unfoldable pub wavelet_transform : ℕ → ParamsField Transform
wavelet_transform major = do
  wavelet ← wavelet_index
  depth ← wavelet_depth
  across ← extended_parameters major wavelet depth
  give (record { wavelet = wavelet; depth = depth; across = across })

-- The matrix, and with it the parameters of a transform, slice counts, and prefix bytes and scaler;
-- last the padded luma is tested.
unfoldable pub with_matrix : Sequence → Transform → ℕ × ℕ → ℕ × ℕ → ParamsField Parameters
with_matrix sequence t slices slice_bytes = do
  matrix ← quantisation_matrix t.wavelet t.depth t.across
  if padded_luma_fits (picture_shape sequence) t.across.1 t.depth then give (record {
    shape = picture_shape sequence;
    wavelet = t.wavelet;
    wavelet_ho = t.across.0;
    depth = t.depth;
    depth_ho = t.across.1;
    slices_x = slices.0;
    slices_y = slices.1;
    prefix = slice_bytes.0;
    scaler = slice_bytes.1;
    matrix = matrix;
  }) else refuse refusals.TooLarge

-- ---- the whole parameters, of a high-quality picture of this sequence

unfoldable pub transform_parameters : Sequence → ParamsField Parameters
transform_parameters sequence = do
  transform ← wavelet_transform sequence.major
  slices ← slice_counts
  prefix ← prefix_bytes
  scaler ← size_scaler
  with_matrix sequence transform slices (prefix, scaler)

-- the parameters at the front of bytes and how many of them they take, or the first refusal
abbrev pub coded_parameters : Sequence → List ℕ → Result (Parameters × ℕ) ParamsRefusal
coded_parameters sequence bytes =
    with_bytes_used bytes (transform_parameters sequence (bits_of bytes))
