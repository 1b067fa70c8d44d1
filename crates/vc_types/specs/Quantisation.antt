-- Quantisers and quantisation matrices (ST 2042-1, inverse quantisation and quantisation matrices;
-- the default matrices are this project's profile).
use Rattle.std.specs.Prelude.{ℕ, ◌+◌, ◌-◌, ◌*◌, ◌/◌, ◌%◌, ◌^◌, if◌then◌else◌, ◌==◌, ℤ, pos}
use Rattle.std.specs.Prelude.{negsuc, neg_ℤ, unsigned_abs, List, [], ◌∷◌, ◌++◌, take}
use Rattle.std.specs.Prelude.{replicate, slice_index_or, Option, Some, None}
use Rattle.std.specs.List.{flat_map, range_with_len}

-- ---- quantisers

-- the factor, in quarters, by the rest of the index and the power b of two
abbrev pub factor_by : ℕ → ℕ → ℕ
factor_by rest b =
    if rest == 0 then 4 * b
    else if rest == 1 then (503829 * b + 52958) / 105917
    else if rest == 2 then (665857 * b + 58854) / 117708
    else (440253 * b + 32722) / 65444

unfoldable pub quant_factor : ℕ → ℕ
quant_factor index = factor_by (index % 4) (2 ^ (index / 4))

unfoldable pub quant_offset : ℕ → ℕ
quant_offset index =
    if index == 0 then 1 else if index == 1 then 2 else (quant_factor index + 1) / 2

-- a magnitude under the sign of z
abbrev pub with_sign_of : ℤ → ℕ → ℤ
with_sign_of (pos n) magnitude = pos magnitude
with_sign_of (negsuc n) magnitude = neg_ℤ (pos magnitude)

abbrev pub dequantised_magnitude : ℕ → ℕ → ℕ → ℕ
dequantised_magnitude m factor offset = if m == 0 then 0 else (m * factor + offset + 2) / 4

-- the coefficient that a quantised number stands for
unfoldable pub dequantised : ℤ → ℕ → ℤ
dequantised z index = with_sign_of z
    (dequantised_magnitude (unsigned_abs z) (quant_factor index) (quant_offset index))

-- the number that a coefficient is quantised to: this project's encoder
unfoldable pub quantised : ℤ → ℕ → ℤ
quantised z index = with_sign_of z (4 * unsigned_abs z / quant_factor index)

-- ---- matrices: an entry for each subband, in the subbands' order

-- 16 entries, of which those past the last subband are 0
abbrev pub filled_matrix : List ℕ → List ℕ
filled_matrix entries = take 16 (entries ++ replicate 16 0)

-- how many subbands there are, with e levels across alone and d both ways: the lowest, then one and
-- three for each level
abbrev pub subband_count : ℕ → ℕ → ℕ
subband_count e d = 1 + e + 3 * d

-- the entries that the subbands use
abbrev pub used_entries : ℕ → ℕ → List ℕ → List ℕ
used_entries e d matrix = take (subband_count e d) matrix

-- a level's three entries, HL, LH and HH
abbrev pub at_level : ℕ → ℕ → ℕ → List ℕ
at_level hl lh hh = hl ∷ lh ∷ hh ∷ []

-- a row of the table: LL and the four levels
abbrev pub matrix_row : ℕ → List ℕ → List ℕ → List ℕ → List ℕ → List ℕ
matrix_row ll level_1 level_2 level_3 level_4 = ll ∷ (level_1 ++ level_2 ++ level_3 ++ level_4)

-- Haar without a shift: LL is 8 + 4 * (depth - 1), and level k has 4 + 4 * (depth - k) twice and 4
-- * (depth - k)
abbrev pub haar_entries : ℕ → List ℕ
haar_entries depth = (8 + 4 * (depth - 1)) ∷ flat_map
    (λ k. at_level (4 + 4 * (depth - k)) (4 + 4 * (depth - k)) (4 * (depth - k)))
    (range_with_len 1 depth)

-- the rows of the wavelets 0 to 6, at a depth
abbrev pub default_rows : ℕ → List (List ℕ)
default_rows depth =
    matrix_row 5 (at_level 3 3 0) (at_level 4 4 1) (at_level 5 5 2) (at_level 6 6 3) ∷
    matrix_row 4 (at_level 2 2 0) (at_level 4 4 2) (at_level 5 5 3) (at_level 7 7 5) ∷
    matrix_row 5 (at_level 3 3 0) (at_level 4 4 1) (at_level 5 5 2) (at_level 6 6 3) ∷
    haar_entries depth ∷
    matrix_row 8 (at_level 4 4 0) (at_level 4 4 0) (at_level 4 4 0) (at_level 4 4 0) ∷
    matrix_row 0 (at_level 4 4 8) (at_level 8 8 12) (at_level 13 13 17) (at_level 17 17 21) ∷
    matrix_row 3 (at_level 1 1 0) (at_level 4 4 2) (at_level 6 6 5) (at_level 9 9 7) ∷
    []

-- the default matrix of a wavelet at a depth, cut at the depth; there is none at depth 5
unfoldable pub default_matrix : ℕ → ℕ → Option (List ℕ)
default_matrix wavelet depth =
    if depth == 5 then None
    else Some (filled_matrix
    (take (1 + 3 * depth) (slice_index_or (default_rows depth) wavelet [])))
