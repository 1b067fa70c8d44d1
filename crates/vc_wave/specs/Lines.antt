-- Lines of a grid that stand side by side.
use Rattle.std.specs.Prelude.{ℕ, ◌+◌, ◌-◌, ◌*◌, ◌<◌, ◌≤◌, ◌≡◌, ◌≢◌, ◌^◌, ◌⊎◌, List, ℤ}
use Rattle.std.specs.Prelude.{unsigned_abs}
use Rattle.vc_types.specs.Lifting.{Line, line_of}
use Rattle.vc_wave.specs.declared.lines.Lines.{Lines}

-- line x of them
abbrev pub line_at : List ℤ → Lines → ℕ → Line
line_at cells lines x k = line_of cells (lines.start + k * lines.step + x)

-- the row whose samples stand from a place on
abbrev pub row_from : List ℤ → ℕ → Line
row_from cells start k = line_of cells (start + k)

-- so many samples of it are what a function makes of them, and all other cells are as they were
pub record IsRowMade (f : Line → Line) (start count : ℕ) (before after : List ℤ) : Type 0 where
  pub on : (k : ℕ) → k < count → row_from after start k ≡ f (row_from before start) k
  pub off : (i : ℕ) → (i < start) ⊎ (start + count ≤ i) → line_of after i ≡ line_of before i

-- so many cells have room for the lines, and no cell is in two of them
pub record IsInside (lines : Lines) (cells : ℕ) : Type 0 where
  pub apart : lines.width ≤ lines.step
  pub some : 0 < lines.width
  pub halves : 0 < lines.half
  pub inside : lines.start + (2 * lines.half - 1) * lines.step + lines.width ≤ cells

-- a cell that is in none of them
abbrev pub IsApart : Lines → ℕ → Type 0
IsApart lines i =
    (x k : ℕ) → x < lines.width → k < 2 * lines.half → i ≢ lines.start + k * lines.step + x

-- their samples can be lifted
abbrev pub AreSmall : Lines → List ℤ → Type 0
AreSmall lines cells =
    (x k : ℕ) → x < lines.width → k < 2 * lines.half
    → unsigned_abs (line_at cells lines x k) < 2 ^ 107

-- each line is what a function makes of it, and all other cells are as they were
pub record IsMade (f : Line → Line) (lines : Lines) (before after : List ℤ) : Type 0 where
  pub on :
      (x k : ℕ) → x < lines.width → k < 2 * lines.half →
      line_at after lines x k ≡ f (line_at before lines x) k
  pub off : (i : ℕ) → IsApart lines i → line_of after i ≡ line_of before i
