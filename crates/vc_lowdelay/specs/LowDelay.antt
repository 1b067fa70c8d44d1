-- Low-delay pictures (ST 2042-1: low-delay slices, and prediction in the lowest subband).
use Rattle.std.specs.Prelude.{ℕ, zero, suc, ◌+◌, ◌-◌, ◌*◌, ◌/◌, ◌^◌, Bool, ◌&&◌, ◌||◌, nat_lt, nat_le}
use Rattle.std.specs.Prelude.{if◌then◌else◌, List, ◌++◌, length, map, take, drop, ℤ, pos, ◌+ℤ◌}
use Rattle.std.specs.Prelude.{Option, Some, None, Result, Ok, Err}
use Rattle.std.specs.Int.{int_div_euclid}
use Rattle.std.specs.List.{list_any, position_or_len, range_with_len, zip}
use Rattle.vc_types.specs.declared.refusal.ParamsRefusal.{ParamsRefusal}
use Rattle.vc_types.specs.declared.refusal.ParamsRefusal.TheVariants.{Asymmetric, SliceBytes}
use Rattle.vc_types.specs.declared.video.Component.{Component}
use Rattle.vc_types.specs.declared.video.Component.TheVariants.{Y, C1, C2}
use Rattle.vc_types.specs.Bits.{bits_of, number_of}
use Rattle.vc_types.specs.Bounded.{bounded_sints}
use Rattle.vc_types.specs.Fields.{◌>>=◌, give, tested}
use Rattle.vc_types.specs.Lifting.{Line, line_of}
use Rattle.vc_types.specs.Pictures.{component_cells}
use Rattle.vc_types.specs.Planes.{Planes}
use Rattle.vc_types.specs.Quantisation.{dequantised}
use Rattle.vc_types.specs.Rasters.{Raster, raster}
use Rattle.vc_types.specs.SequenceHeader.{Sequence, bytes_used, with_bytes_used}
use Rattle.vc_types.specs.Slices.{Coefficients, is_large, quantisers}
use Rattle.vc_types.specs.Subbands.{slice_count, slice_coefficient_count}
use Rattle.vc_types.specs.TransformParameters.{Parameters, ParamsField, Transform, number, same_across}
use Rattle.vc_types.specs.TransformParameters.{slice_counts, wavelet_transform, with_matrix}
use Rattle.vc_types.specs.Transforms.{Cells, is_within, inverse_transform, lowest_width, lowest_height}
use Rattle.picture_build.specs.Output.{output_plane}
use Rattle.vc_lowdelay.specs.declared.refusal.LowRefusal.{LowRefusal}
use Rattle.vc_lowdelay.specs.declared.refusal.LowRefusal.TheVariants.{Short, CoefficientRange}

-- ---- transform parameters

-- the parameters, without prefix bytes and with scaler 1; and how many bytes a slice has on an
-- average, as a fraction
pub record LowParameters : Type 0 where
  pub parameters : Parameters
  pub numerator : ℕ
  pub denominator : ℕ

-- a transform that is the same across as down: this project decodes no other in low delay
unfoldable pub symmetric_transform : ℕ → ParamsField Transform
symmetric_transform major =
    tested (λ t. same_across t.wavelet t.across) Asymmetric (wavelet_transform major)

-- each slice has a byte at least, and on an average fewer than 65,536
abbrev pub low_bytes_fit : ℕ → ℕ → Bool
low_bytes_fit numerator denominator =
    nat_le 1 denominator && nat_le denominator numerator && nat_le (numerator / denominator) 65535

-- the fraction's numerator and denominator, which are tested once both are read
unfoldable pub low_bytes : ParamsField (ℕ × ℕ)
low_bytes = tested (λ n. low_bytes_fit n.0 n.1) SliceBytes (do
  numerator ← number
  denominator ← number
  give (numerator, denominator))

-- the whole parameters, of a low-delay picture of this sequence
unfoldable pub low_transform_parameters : Sequence → ParamsField LowParameters
low_transform_parameters sequence = do
  transform ← symmetric_transform sequence.major
  slices ← slice_counts
  fraction ← low_bytes
  parameters ← with_matrix sequence transform slices (0, 1)
  give (record { parameters = parameters; numerator = fraction.0; denominator = fraction.1 })

-- the parameters at the front of bytes and how many of them they take, or the first refusal
abbrev pub coded_low_parameters : Sequence → List ℕ → Result (LowParameters × ℕ) ParamsRefusal
coded_low_parameters sequence bytes =
    with_bytes_used bytes (low_transform_parameters sequence (bits_of bytes))

-- ---- the bytes of a slice, and its blocks

-- where slice i begins among the bytes of all slices
abbrev pub low_slice_start : ℕ → ℕ → ℕ → ℕ
low_slice_start numerator denominator i = i * numerator / denominator

-- how many bytes slice i has
abbrev pub low_slice_bytes : ℕ → ℕ → ℕ → ℕ
low_slice_bytes numerator denominator i =
    low_slice_start numerator denominator (i + 1) - low_slice_start numerator denominator i

-- how many bits say how long the luma block is, in a slice of so many bytes: the first m of 0, 1,
-- 2, .. 19 at which 2 ^ m is at least the number of bits behind the index
unfoldable pub length_bits : ℕ → ℕ
length_bits bytes = position_or_len (λ m. nat_le (8 * bytes - 7) (2 ^ m)) (range_with_len 0 20)

-- the quantisation index, and the bits of the two blocks: of luma, and of both colour components
pub record LowSlice : Type 0 where
  pub index : ℕ
  pub luma : List Bool
  pub colour : List Bool

-- The index in seven bits, and the luma length. The luma block has so many of the bits that are
-- left, or all where there are fewer; the colour block has the others.
unfoldable pub low_slice : List ℕ → LowSlice
low_slice bytes =
    let bits = bits_of bytes in
    let m = length_bits (length bytes) in
    let blocks = drop (7 + m) bits in
    let luma_length = number_of (take m (drop 7 bits)) in
    record {
      index = number_of (take 7 bits);
      luma = take luma_length blocks;
      colour = drop luma_length blocks;
    }

-- slice i of a picture's bytes
abbrev pub slice_at : LowParameters → List ℕ → ℕ → LowSlice
slice_at p bytes i = low_slice
    (take (low_slice_bytes p.numerator p.denominator i)
    (drop (low_slice_start p.numerator p.denominator i) bytes))

-- ---- its coefficients, before any prediction

-- every other number, n of them, from number 0 or from number 1 on
abbrev pub every_other : ℕ → ℕ → List ℤ → List ℤ
every_other first n numbers = map (λ i. line_of numbers (2 * i + first)) (range_with_len 0 n)

-- the n numbers of a component: in the colour block C1 and C2 have one each in turn, C1 first
abbrev pub low_numbers : LowSlice → Component → ℕ → List ℤ
low_numbers s Y n = bounded_sints n s.luma
low_numbers s C1 n = every_other 0 n (bounded_sints (2 * n) s.colour)
low_numbers s C2 n = every_other 1 n (bounded_sints (2 * n) s.colour)

-- the coefficients that they stand for, in the slice's order
unfoldable pub low_coefficients : Parameters → ℕ → LowSlice → Component → List ℤ
low_coefficients p i s c = map (λ z. dequantised z.0 z.1)
    (zip (low_numbers s c (slice_coefficient_count p c i)) (quantisers p c i s.index))

abbrev pub all_low_coefficients : Parameters → ℕ → LowSlice → Coefficients
all_low_coefficients p i s = record {
  y = low_coefficients p i s Y;
  c1 = low_coefficients p i s C1;
  c2 = low_coefficients p i s C2;
}

-- all slices in raster order
unfoldable pub low_slices : LowParameters → List ℕ → List Coefficients
low_slices p bytes = map (λ i. all_low_coefficients p.parameters i (slice_at p bytes i))
    (range_with_len 0 (slice_count p.parameters))

-- ---- prediction in LL, the lowest subband

-- the mean of the value on the left, of the one above that and of the one above, rounded down
abbrev pub mean_of : ℤ → ℤ → ℤ → ℤ
mean_of left above_left above =
    int_div_euclid (((left +ℤ above_left) +ℤ above) +ℤ pos 1) (pos 3)

-- the first row: each value grows by the one on its left, the first by nothing
unfoldable pub first_row : Line → ℕ → ℤ
first_row values zero = values zero
first_row values (suc x) = values (suc x) +ℤ first_row values x

-- a row below another one, which has grown: the first value grows by the one above
unfoldable pub next_row : Line → Line → ℕ → ℤ
next_row above values zero = values zero +ℤ above zero
next_row above values (suc x) =
    values (suc x) +ℤ mean_of (next_row above values x) (above x) (above (suc x))

-- row y
unfoldable pub grown_row : Cells → ℕ → Line
grown_row cells zero = first_row (λ x. cells x zero)
grown_row cells (suc y) = next_row (grown_row cells y) (λ x. cells x (suc y))

-- each value as it has grown, in column x and row y
abbrev pub predicted : Cells → Cells
predicted cells x y = grown_row cells y x

-- the coefficients of a component, where LL has grown
unfoldable pub predicted_cells : Parameters → Component → Cells → Cells
predicted_cells p c cells x y =
    if is_within (lowest_width p c) (lowest_height p c) x y then predicted cells x y else cells x y

-- the values of LL as they have grown, row by row
abbrev pub lowest_values : Parameters → Component → List Coefficients → List ℤ
lowest_values p c slices =
    raster (lowest_width p c) (lowest_height p c) (predicted (component_cells p c slices))

-- ---- the planes

-- a component's plane: the inverse transform of its coefficients, without the padding
abbrev pub low_plane : Parameters → Component → List Coefficients → Raster
low_plane p c slices = output_plane p c
    (inverse_transform p c (predicted_cells p c (component_cells p c slices)))

abbrev pub low_planes_of : Parameters → List Coefficients → Planes
low_planes_of p slices = record {
  y = low_plane p Y slices;
  c1 = low_plane p C1 slices;
  c2 = low_plane p C2 slices;
}

-- some coefficient is large, before prediction or as it has grown
abbrev pub are_large : Parameters → List Coefficients → Bool
are_large p slices =
    list_any (λ s. list_any is_large (s.y ++ s.c1 ++ s.c2)) slices
    || list_any is_large (lowest_values p Y slices)
    || list_any is_large (lowest_values p C1 slices)
    || list_any is_large (lowest_values p C2 slices)

-- the planes of the slices that begin the bytes, or the refusal
unfoldable pub low_planes : LowParameters → List ℕ → Result Planes LowRefusal
low_planes p bytes =
    if nat_lt (length bytes) (low_slice_start p.numerator p.denominator (slice_count p.parameters))
    then Err Short
    else if are_large p.parameters (low_slices p bytes) then Err CoefficientRange
    else Ok (low_planes_of p.parameters (low_slices p bytes))

-- ---- a whole picture: its transform parameters and, from the next whole byte on, its slices

abbrev pub if_decoded : Result Planes LowRefusal → Option Planes
if_decoded (Ok planes) = Some planes
if_decoded (Err refusal) = None

abbrev pub with_low_parameters : List ℕ → Result (LowParameters × List Bool) ParamsRefusal
    → Option Planes
with_low_parameters bytes (Ok read) =
    if_decoded (low_planes read.0 (drop (bytes_used bytes read.1) bytes))
with_low_parameters bytes (Err refusal) = None

-- the planes of a picture's own bytes, if it decodes
unfoldable pub decoded_low_planes : Sequence → List ℕ → Option Planes
decoded_low_planes sequence bytes =
    with_low_parameters bytes (low_transform_parameters sequence (bits_of bytes))
