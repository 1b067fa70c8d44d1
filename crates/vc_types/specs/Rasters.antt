-- Planes of samples and of coefficients, as lists and as functions of the place.
use Rattle.std.specs.Prelude.{ℕ, ◌+◌, ◌*◌, ◌&&◌, nat_lt, if◌then◌else◌, List, ℤ, pos, map, slice_index_or}
use Rattle.std.specs.List.{flat_map, range_with_len}

-- samples, row by row
pub record Raster : Type 0 where
  pub width : ℕ
  pub height : ℕ
  pub samples : List ℕ

-- coefficients, row by row
pub record Lattice : Type 0 where
  pub width : ℕ
  pub height : ℕ
  pub cells : List ℤ

-- the coefficient in column x and row y; outside it is 0
unfoldable pub cell_at : Lattice → ℕ → ℕ → ℤ
cell_at g x y =
    if nat_lt x g.width && nat_lt y g.height then slice_index_or g.cells (y * g.width + x) (pos 0)
    else pos 0

-- the sample in column x and row y
unfoldable pub sample_at : Raster → ℕ → ℕ → ℕ
sample_at p x y = slice_index_or p.samples (y * p.width + x) 0

-- what a function says of each place, row by row
unfoldable pub raster : {A : Type 0} → ℕ → ℕ → (ℕ → ℕ → A) → List A
raster width height f =
    flat_map (λ y. map (λ x. f x y) (range_with_len 0 width)) (range_with_len 0 height)
