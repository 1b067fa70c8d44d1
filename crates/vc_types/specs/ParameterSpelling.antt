-- The spelling of transform parameters (ST 2042-1, transform parameters): which of their parts are
-- coded and by what numbers, the bits that they are written as, and the value that they stand for.
use Rattle.std.specs.Prelude.{◌≡◌, ℕ, ◌+◌, ◌≤◌, Bool, true, false, List, [], ◌∷◌, length, Option, Some, None}
use Rattle.std.specs.Prelude.{⊤, IsTrue, IsSome, MatchOption, unwrap_or, ◌==◌, if◌then◌else◌}
use Rattle.std.specs.List.{flat_map}
use Rattle.std.specs.Str.{bytes_eq}
use Rattle.vc_types.specs.Codes.{uint_bits}
use Rattle.vc_types.specs.Fields.{flagged_bits, flagged_value, joined, pair_bits, Begins}
use Rattle.vc_types.specs.Limits.{slices_fit, slice_bytes_fit, padded_luma_fits, matrix_fits}
use Rattle.vc_types.specs.Quantisation.{filled_matrix, subband_count, used_entries}
use Rattle.vc_types.specs.SequenceHeader.{Sequence, picture_shape}
use Rattle.vc_types.specs.TransformParameters.{Parameters, default_of}

-- The wavelet and the depth across are coded by major version 3 alone; the matrix has a value for
-- each subband in order.
pub record ParameterSpelling : Type 0 where
  pub wavelet : ℕ
  pub depth : ℕ
  pub wavelet_ho : Option ℕ
  pub depth_ho : Option ℕ
  pub slices_x : ℕ
  pub slices_y : ℕ
  pub prefix : ℕ
  pub scaler : ℕ
  pub matrix : Option (List ℕ)

abbrev pub extension_bits : ℕ → Option ℕ × Option ℕ → List Bool
extension_bits major e =
    if major == 3 then joined (flagged_bits uint_bits e.0 ∷ flagged_bits uint_bits e.1 ∷ []) else []

abbrev pub numbers_bits : List ℕ → List Bool
numbers_bits numbers = flat_map uint_bits numbers

-- the fields, written in order
abbrev pub parameter_bits : ℕ → ParameterSpelling → List Bool
parameter_bits major s = joined (
    uint_bits s.wavelet ∷
    uint_bits s.depth ∷
    extension_bits major (s.wavelet_ho, s.depth_ho) ∷
    pair_bits (s.slices_x, s.slices_y) ∷
    uint_bits s.prefix ∷
    uint_bits s.scaler ∷
    flagged_bits numbers_bits s.matrix ∷
    [])

-- the wavelet across and the levels across alone: where they aren't coded, the other wavelet and
-- none
abbrev pub across_of : ParameterSpelling → ℕ × ℕ
across_of s = (unwrap_or s.wavelet_ho s.wavelet, unwrap_or s.depth_ho 0)

-- the custom matrix, or the default one
abbrev pub chosen_matrix : ParameterSpelling → List ℕ
chosen_matrix s =
    flagged_value (unwrap_or (default_of s.wavelet s.depth (across_of s)) []) filled_matrix s.matrix

-- what the parameters of a picture of this sequence say
abbrev pub spelled_parameters : Sequence → ParameterSpelling → Parameters
spelled_parameters sequence s = record {
  shape = picture_shape sequence;
  wavelet = s.wavelet;
  wavelet_ho = (across_of s).0;
  depth = s.depth;
  depth_ho = (across_of s).1;
  slices_x = s.slices_x;
  slices_y = s.slices_y;
  prefix = s.prefix;
  scaler = s.scaler;
  matrix = chosen_matrix s;
}

-- ---- which spellings are accepted

-- parts that only major version 3 may code
abbrev pub MayCode : Bool → Option ℕ × Option ℕ → Type 0
MayCode true parts = ⊤
MayCode false parts = (parts.0 ≡ None) × (parts.1 ≡ None)

-- so many values of a matrix
pub record IsMatrix (count : ℕ) (values : List ℕ) : Type 0 where
  pub many : length values ≡ count
  pub small : IsTrue (matrix_fits values)

pub record AreParameters (sequence : Sequence) (s : ParameterSpelling) : Type 0 where
  pub wavelet : s.wavelet ≤ 6
  pub wavelet_ho : (across_of s).0 ≤ 6
  pub some_levels : 1 ≤ s.depth
  pub few_levels : s.depth + (across_of s).1 ≤ 5
  pub extension : MayCode (sequence.major == 3) (s.wavelet_ho, s.depth_ho)
  pub slices : IsTrue (slices_fit s.slices_x s.slices_y)
  pub slice_bytes : IsTrue (slice_bytes_fit s.prefix s.scaler)
  pub matrix : MatchOption s.matrix (IsSome (default_of s.wavelet s.depth (across_of s)))
      (IsMatrix (subband_count (across_of s).1 s.depth))
  pub padded_luma : IsTrue (padded_luma_fits (picture_shape sequence) (across_of s).1 s.depth)

-- bytes begin with the parameters, of this value, of a picture of this sequence, and they take so
-- many bytes
abbrev pub BeginsWithParameters : Sequence → List ℕ → Parameters → ℕ → Type 0
BeginsWithParameters sequence bytes parameters used =
    Begins (parameter_bits sequence.major) (spelled_parameters sequence) (AreParameters sequence)
    bytes parameters used

-- ---- the parameters that this project writes

-- whether a matrix is the default one
abbrev pub is_default : Option (List ℕ) → List ℕ → Bool
is_default None matrix = false
is_default (Some default) matrix = bytes_eq default matrix

-- a number where it isn't the one that stands in its place
abbrev pub coded_unless : ℕ → ℕ → Option ℕ
coded_unless number default = if number == default then None else Some number

-- the default matrix of parameters
abbrev pub default_for : Parameters → Option (List ℕ)
default_for p = default_of p.wavelet p.depth (p.wavelet_ho, p.depth_ho)

-- the parts across are coded where they differ, and the matrix where it isn't the default one
abbrev pub encoder_parameters : Parameters → ParameterSpelling
encoder_parameters p = record {
  wavelet = p.wavelet;
  depth = p.depth;
  wavelet_ho = coded_unless p.wavelet_ho p.wavelet;
  depth_ho = coded_unless p.depth_ho 0;
  slices_x = p.slices_x;
  slices_y = p.slices_y;
  prefix = p.prefix;
  scaler = p.scaler;
  matrix =
      if is_default (default_for p) p.matrix then None
      else Some (used_entries p.depth_ho p.depth p.matrix);
}
