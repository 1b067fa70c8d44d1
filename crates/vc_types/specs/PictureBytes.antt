-- The bytes of a picture part by part (ST 2042-1, picture parsing): its coded transform parameters,
-- and its slices.
use Rattle.std.specs.Prelude.{◌≡◌, ◌<◌, ℕ, All, List, [], length, slice_index_or, Some, Result, Ok}
use Rattle.vc_types.specs.declared.refusal.Unsound.{Unsound}
use Rattle.vc_types.specs.SequenceHeader.{Sequence}
use Rattle.vc_types.specs.Slices.{Coefficients, slice_length, slice_coefficients}
use Rattle.vc_types.specs.Subbands.{slice_count}
use Rattle.vc_types.specs.TransformParameters.{Parameters, coded_parameters}

-- bytes that are one whole slice
abbrev pub IsWholeSlice : Parameters → List ℕ → Type 0
IsWholeSlice p bytes = slice_length p.prefix p.scaler bytes ≡ Some (length bytes)

-- the coded parameters of a picture of a sequence, and as many whole slices as it has
pub record ArePictureBytes (s : Sequence) (p : Parameters) (coded : List ℕ)
    (slices : List (List ℕ)) : Type 0 where
  pub parameters : coded_parameters s coded ≡ Ok (p, length coded)
  pub count : length slices ≡ slice_count p
  pub whole : All (IsWholeSlice p) slices

-- what slices are decoded to, by their numbers: nothing is said of who found it, or in which order
abbrev pub AreAnswers : Parameters → List (List ℕ) → (ℕ → Result Coefficients Unsound) → Type 0
AreAnswers p slices answer =
    (i : ℕ) → i < length slices → answer i ≡ slice_coefficients p i (slice_index_or slices i [])
