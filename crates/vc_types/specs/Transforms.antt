-- The wavelet transform of a component (ST 2042-1, inverse wavelet transform), in the grid of
-- nested subbands. A grid is the number in each column and row; outside the part that it speaks of,
-- each function here leaves it as it is.
use Rattle.std.specs.Prelude.{ℕ, zero, suc, ◌+◌, ◌-◌, ◌*◌, ◌/◌, ◌%◌, ◌^◌, Bool, ◌&&◌, nat_lt}
use Rattle.std.specs.Prelude.{◌==◌, if◌then◌else◌, ℤ, pos, ◌+ℤ◌, ◌-ℤ◌, ◌*ℤ◌, min}
use Rattle.std.specs.Int.{int_shr}
use Rattle.vc_types.specs.declared.video.Component.{Component}
use Rattle.vc_types.specs.Lifting.{Line}
use Rattle.vc_types.specs.TransformParameters.{Parameters}
use Rattle.vc_types.specs.Subbands.{Orientation, LL, H, HL, LH, HH, nested}
use Rattle.vc_types.specs.Subbands.{plane_width, plane_height, plane_depth}
use Rattle.vc_types.specs.Subbands.{levels, padded_width, padded_height}
use Rattle.vc_types.specs.Wavelets.{is_shifted, synthesised, analysed}

abbrev pub Cells : Type 0
Cells = ℕ → ℕ → ℤ

-- the cell lies in the first columns and rows
abbrev pub is_within : ℕ → ℕ → ℕ → ℕ → Bool
is_within width height x y = nat_lt x width && nat_lt y height

-- a function of lines on each of the first columns, and on each of the first rows
unfoldable pub on_columns : (Line → Line) → ℕ → Cells → Cells
on_columns f width cells x y = if nat_lt x width then f (λ k. cells x k) y else cells x y

unfoldable pub on_rows : (Line → Line) → ℕ → Cells → Cells
on_rows f height cells x y = if nat_lt y height then f (λ k. cells k y) x else cells x y

-- a function of samples on the first columns and rows, if that is wanted
unfoldable pub on_cells : (ℤ → ℤ) → Bool → ℕ → ℕ → Cells → Cells
on_cells f wanted width height cells x y =
    if wanted && is_within width height x y then f (cells x y) else cells x y

-- the shift after a level, and the doubling before a level of the forward transform
abbrev pub halved : ℤ → ℤ
halved z = int_shr (z +ℤ pos 1) 1

abbrev pub doubled : ℤ → ℤ
doubled z = pos 2 *ℤ z

-- ---- a level, whose subbands have w columns and h rows each

-- the coefficient in column x and row y of a subband, where the subbands stand nested
abbrev pub coefficient_in : Orientation → ℕ → ℕ → Cells → Cells
coefficient_in o w h cells x y = let r = nested o w h in cells (r.x + x) (r.y + y)

abbrev pub is_even : ℕ → Bool
is_even n = n % 2 == 0

-- ---- a level across alone

-- L goes to the even columns, H to the odd columns
abbrev pub orientation_across : ℕ → Orientation
orientation_across x = if is_even x then LL else H

unfoldable pub interleaved_across : ℕ → ℕ → Cells → Cells
interleaved_across w h cells x y =
    if is_within (2 * w) h x y
    then coefficient_in (orientation_across x) w h cells (x / 2) y
    else cells x y

-- the subbands are interleaved, each row is synthesised, and the samples are shifted
unfoldable pub level_across : ℕ → ℕ → ℕ → Cells → Cells
level_across wavelet w h cells =
    let together = interleaved_across w h cells in
    let rows = on_rows (synthesised wavelet (2 * w)) h together in
    on_cells halved (is_shifted wavelet) (2 * w) h rows

-- ---- a level both ways

-- LL goes to the even columns of the even rows and HL to their odd columns, LH to the even columns
-- of the odd rows and HH to their odd columns
abbrev pub orientation_both_ways : ℕ → ℕ → Orientation
orientation_both_ways x y =
    if is_even y then (if is_even x then LL else HL) else (if is_even x then LH else HH)

unfoldable pub interleaved : ℕ → ℕ → Cells → Cells
interleaved w h cells x y =
    if is_within (2 * w) (2 * h) x y
    then coefficient_in (orientation_both_ways x y) w h cells (x / 2) (y / 2)
    else cells x y

-- the subbands are interleaved, each column is synthesised with one wavelet, then each row with the
-- other, and the samples are shifted as the one of the rows wants it
unfoldable pub inverse_level : ℕ → ℕ → ℕ → ℕ → Cells → Cells
inverse_level vertical horizontal w h cells =
    let together = interleaved w h cells in
    let columns = on_columns (synthesised vertical (2 * h)) (2 * w) together in
    let rows = on_rows (synthesised horizontal (2 * w)) (2 * h) columns in
    on_cells halved (is_shifted horizontal) (2 * w) (2 * h) rows

-- which column or row is taken to place k of two halves: the even ones to the first half, the odd
-- ones to the second
abbrev pub source_of : ℕ → ℕ → ℕ
source_of half k = if nat_lt k half then 2 * k else 2 * (k - half) + 1

-- the four subbands are taken from every other column and row
unfoldable pub deinterleaved : ℕ → ℕ → Cells → Cells
deinterleaved w h cells x y =
    if is_within (2 * w) (2 * h) x y then cells (source_of w x) (source_of h y) else cells x y

-- the samples are doubled, each row is analysed, then each column, and the subbands are taken apart
unfoldable pub forward_level : ℕ → ℕ → ℕ → Cells → Cells
forward_level wavelet w h cells =
    let samples = on_cells doubled (is_shifted wavelet) (2 * w) (2 * h) cells in
    let rows = on_rows (analysed wavelet (2 * w)) (2 * h) samples in
    let columns = on_columns (analysed wavelet (2 * h)) (2 * w) rows in
    deinterleaved w h columns

-- ---- all levels, the lowest of which has subbands of w columns and h rows

unfoldable pub levels_across : ℕ → ℕ → ℕ → ℕ → Cells → Cells
levels_across wavelet zero w h cells = cells
levels_across wavelet (suc e) w h cells =
    level_across wavelet (w * 2 ^ e) h (levels_across wavelet e w h cells)

unfoldable pub inverse_levels : ℕ → ℕ → ℕ → ℕ → ℕ → Cells → Cells
inverse_levels vertical horizontal zero w h cells = cells
inverse_levels vertical horizontal (suc d) w h cells =
    inverse_level vertical horizontal (w * 2 ^ d) (h * 2 ^ d)
    (inverse_levels vertical horizontal d w h cells)

unfoldable pub forward_levels : ℕ → ℕ → ℕ → ℕ → Cells → Cells
forward_levels wavelet zero w h cells = cells
forward_levels wavelet (suc d) w h cells =
    forward_levels wavelet d w h (forward_level wavelet (w * 2 ^ d) (h * 2 ^ d) cells)

-- ---- the transform of a component

-- the columns and rows of the lowest subband, LL or L
abbrev pub lowest_width : Parameters → Component → ℕ
lowest_width p c = padded_width p c / 2 ^ levels p

abbrev pub lowest_height : Parameters → Component → ℕ
lowest_height p c = padded_height p c / 2 ^ p.depth

-- the levels across alone, and then the levels both ways
unfoldable pub inverse_transform : Parameters → Component → Cells → Cells
inverse_transform p c cells =
    let w = lowest_width p c in
    let h = lowest_height p c in
    let across = levels_across p.wavelet_ho p.depth_ho w h cells in
    inverse_levels p.wavelet p.wavelet_ho p.depth (w * 2 ^ p.depth_ho) h across

-- samples less 2 ^ (depth - 1); past the last column and row, those of the last
unfoldable pub padded_plane : Parameters → Component → (ℕ → ℕ → ℕ) → Cells
padded_plane p c samples x y =
    pos (samples (min x (plane_width p.shape c - 1)) (min y (plane_height p.shape c - 1)))
    -ℤ pos (2 ^ (plane_depth p.shape c - 1))

-- the coefficients of a plane, where the transform is symmetric
unfoldable pub forward_transform : Parameters → Component → (ℕ → ℕ → ℕ) → Cells
forward_transform p c samples =
    forward_levels p.wavelet p.depth (lowest_width p c) (lowest_height p c)
    (padded_plane p c samples)
