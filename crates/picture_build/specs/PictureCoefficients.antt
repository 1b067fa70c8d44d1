-- Slices that a picture can be built of.
use Rattle.std.specs.Prelude.{◌<◌, ℕ, List, length, slice_index_or}
use Rattle.vc_types.specs.SliceCoefficients.{AreSliceCoefficients}
use Rattle.vc_types.specs.Slices.{Coefficients}
use Rattle.vc_types.specs.TransformParameters.{Parameters}

-- slices in raster order, from number 0 on
abbrev pub ArePictureCoefficients : Parameters → List Coefficients → Type 0
ArePictureCoefficients p slices =
    (n : ℕ) (none : Coefficients) → n < length slices
    → AreSliceCoefficients p n (slice_index_or slices n none)
