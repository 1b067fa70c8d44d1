-- What is written among cells: rows of them, and rectangles.
use Rattle.std.specs.Prelude.{◌≡◌, ◌≢◌, ◌+◌, ◌*◌, ◌<◌, ◌≤◌, ◌⊎◌, ℕ, ℤ, List, length}
use Rattle.vc_types.specs.Lifting.{line_of}
use Rattle.vc_types.specs.Subbands.{Place, area, place_in}
use Rattle.vc_geometry.specs.declared.cell_rect.CellRect.{CellRect}

-- the number of a place, so many cells a row
abbrev pub cell_number : ℕ → Place → ℕ
cell_number stride place = place.1 * stride + place.0

-- as many cells, from a place on, hold numbers from a place on
abbrev pub HasRow : ℕ → ℕ → List ℤ → ℕ → List ℤ → Type 0
HasRow width at cells from numbers =
    (x : ℕ) → x < width → line_of cells (at + x) ≡ line_of numbers (from + x)

-- cells outside of as many, from a place on, stay
abbrev pub ChangesRow : ℕ → ℕ → List ℤ → List ℤ → Type 0
ChangesRow width at old new = (k : ℕ) → (k < at) ⊎ (at + width ≤ k) → line_of new k ≡ line_of old k

-- a rectangle's cell in place j
abbrev pub cell_in : CellRect → ℕ → ℕ
cell_in to j = cell_number to.stride (place_in to.rect j)

-- a rectangle lies in as many cells
abbrev pub LiesIn : CellRect → List ℤ → Type 0
LiesIn to cells = (to.rect.y + to.rect.height) * to.stride ≤ length cells

-- cells outside of a rectangle stay
abbrev pub ChangesRect : CellRect → List ℤ → List ℤ → Type 0
ChangesRect to old new = (k : ℕ) → ((j : ℕ) → j < area to.rect → k ≢ cell_in to j)
    → line_of new k ≡ line_of old k
