-- The line of transform parameters (this project's own): the wavelet and the levels of the transform, where
-- they aren't the same across the wavelet and the levels across alone, the slices across and down, the slice
-- prefix bytes, the slice size scaler, and whether the quantisation matrix is the transform's default.
use Rattle.std.specs.Prelude.{ℕ, Bool, true, false, not, ◌||◌, ◌==◌, if◌then◌else◌, List, [], ◌++◌, codes}
use Rattle.std.specs.Prelude.{Option, Some, None}
use Rattle.std.specs.Fmt.{decimal}
use Rattle.std.specs.Str.{bytes_eq}
use Rattle.link_report.specs.Report.{newline}
use Rattle.vc_types.specs.TransformParameters.{Parameters, default_of, is_symmetric}

abbrev pub is_matrix : List ℕ → Option (List ℕ) → Bool
is_matrix matrix (Some default) = bytes_eq default matrix
is_matrix matrix None = false

-- the matrix is the transform's default one
abbrev pub has_default_matrix : Parameters → Bool
has_default_matrix p = is_matrix p.matrix (default_of p.wavelet p.depth (p.wavelet_ho, p.depth_ho))

abbrev pub matrix_word : Bool → List ℕ
matrix_word true = codes "default"
matrix_word false = codes "custom"

unfoldable pub wavelet_words : Parameters → List ℕ
wavelet_words p =
    codes "transform wavelet " ++ (decimal p.wavelet ++ (codes " depth " ++ decimal p.depth))

unfoldable pub across_words : Parameters → List ℕ
across_words p =
    if is_symmetric p then []
    else codes " across " ++ (decimal p.wavelet_ho ++ (codes " " ++ decimal p.depth_ho))

unfoldable pub slicing_words : Parameters → List ℕ
slicing_words p =
    codes " slices " ++ (decimal p.slices_x ++ (codes "x" ++ (decimal p.slices_y
    ++ (codes " prefix " ++ (decimal p.prefix ++ (codes " scaler " ++ (decimal p.scaler
    ++ (codes " matrix " ++ (matrix_word (has_default_matrix p) ++ newline)))))))))

unfoldable pub transform_line : Parameters → List ℕ
transform_line p = wavelet_words p ++ (across_words p ++ slicing_words p)
