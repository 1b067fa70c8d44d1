-- What copying leaves in a list of numbers.
use Rattle.std.specs.Prelude.{◌≡◌, ◌+◌, ◌*◌, ◌<◌, ◌≤◌, ◌⊎◌, ℕ, List, ℤ}
use Rattle.vc_types.specs.Lifting.{line_of}
use Rattle.picture_encode.specs.declared.rows.SteppedRect.{SteppedRect}

-- as many numbers, from a place on, are those of another list, from a place on
abbrev pub HasCopy : ℕ → ℕ → List ℤ → ℕ → List ℤ → Type 0
HasCopy width at numbers from cells =
    (x : ℕ) → x < width → line_of numbers (at + x) ≡ line_of cells (from + x)

-- the numbers outside of as many, from a place on, stay
abbrev pub KeepsOthers : ℕ → ℕ → List ℤ → List ℤ → Type 0
KeepsOthers at count old new = (i : ℕ) → (i < at) ⊎ (at + count ≤ i) → line_of new i ≡ line_of old i

-- the numbers from a place on are those of a rectangle, row by row
abbrev pub HasRows : SteppedRect → ℕ → List ℤ → Type 0
HasRows source from numbers = (row x : ℕ) → row < source.rect.height → x < source.rect.width
    → line_of numbers (from + row * source.rect.width + x)
    ≡ line_of source.cells.now
    ((source.rows.first + row * source.rows.step) * source.stride + source.rect.x + x)
