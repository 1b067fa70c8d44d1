-- A plane's samples, made ready for the transform.
use Rattle.std.specs.Prelude.{ℕ, ◌-◌, ◌^◌, ℤ, pos, ◌-ℤ◌, min, List, length, slice_index_or}
use Rattle.vc_types.specs.Lifting.{Line}
use Rattle.vc_types.specs.Rasters.{Raster, sample_at}

-- the sample in column x and row y less half of the range of so many bits; past the last column and
-- row, that of the last
abbrev pub padded_sample : Raster → ℕ → ℕ → ℕ → ℤ
padded_sample p depth x y =
    pos (sample_at p (min x (p.width - 1)) (min y (p.height - 1))) -ℤ pos (2 ^ (depth - 1))

-- a row's samples less so much; past the last, that one
abbrev pub centred_row : List ℕ → ℕ → Line
centred_row samples middle k = pos (slice_index_or samples (min k (length samples - 1)) 0) -ℤ pos middle
