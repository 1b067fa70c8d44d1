-- Planes that are kept row by row, and room for levels of the transform.
use Rattle.std.specs.Prelude.{ℕ, ◌+◌, ◌*◌, ◌<◌, ◌≤◌, if◌then◌else◌, nat_lt, List, ℤ, pos, unsigned_abs}
use Rattle.vc_types.specs.Lifting.{line_of}
use Rattle.vc_types.specs.Transforms.{Cells}

-- the plane that is kept row by row, so many cells a row; past a row's end, and past the last cell,
-- it is 0
unfoldable pub plane_of : ℕ → List ℤ → Cells
plane_of stride cells x y = if nat_lt x stride then line_of cells (y * stride + x) else pos 0

-- all magnitudes are below m
abbrev pub AreBelow : ℕ → Cells → Type 0
AreBelow m c = (x y : ℕ) → unsigned_abs (c x y) < m

-- So many columns and rows are inside a plane of so many cells, and so much room is enough to work
-- on a row, and on a block of columns side by side.
pub record HasRoom (columns rows stride cells block scratch : ℕ) : Type 0 where
  pub across : columns ≤ stride
  pub down : rows * stride ≤ cells
  pub row : columns ≤ scratch
  pub side_by_side : rows * block ≤ scratch
