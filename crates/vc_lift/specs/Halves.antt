-- Lines whose even and odd samples stand in two halves, side by side with other lines.
use Rattle.std.specs.Prelude.{ℕ, ◌+◌, ◌*◌, ◌/◌, ◌%◌, ◌^◌, ◌<◌, ◌≤◌, ◌≡◌, ◌≢◌, ◌==◌, if◌then◌else◌}
use Rattle.std.specs.Prelude.{◌⊎◌, List, length, ℤ}
use Rattle.vc_types.specs.Lifting.{Line, line_of}
use Rattle.vc_lift.specs.declared.halves.Halves.{Halves}
use Rattle.vc_lift.specs.CountedSteps.{CountedStep, place_met}

abbrev pub half_start : Halves → ℕ → ℕ
half_start h parity = if parity == 0 then h.even else h.odd

-- where the first line has its sample k
abbrev pub halves_place : Halves → ℕ → ℕ
halves_place h k = half_start h (k % 2) + k / 2 * h.pitch

-- line x of those that stand side by side
abbrev pub line_in : Halves → List ℤ → ℕ → Line
line_in h cells x k = line_of cells (halves_place h k + x)

-- two stretches of so many cells have none in common
abbrev pub StandApart : ℕ → ℕ → ℕ → Type 0
StandApart width i j = (i + width ≤ j) ⊎ (j + width ≤ i)

-- So many lines stand side by side among so many cells, and no cell is in two of them.
pub record AreLines (h : Halves) (width cells : ℕ) : Type 0 where
  pub some : 0 < h.half
  pub small : h.half < 2 ^ 60
  pub inside : (k : ℕ) → k < 2 * h.half → halves_place h k + width ≤ cells
  pub apart : (j k : ℕ) → j < 2 * h.half → k < 2 * h.half → j ≢ k
      → StandApart width (halves_place h j) (halves_place h k)

-- a cell that is in none of them
abbrev pub IsBeside : Halves → ℕ → ℕ → Type 0
IsBeside h width i = (x k : ℕ) → x < width → k < 2 * h.half → i ≢ halves_place h k + x

-- each line is what a function makes of it, and all other cells are as they were
pub record AreMade (f : Line → Line) (h : Halves) (width : ℕ) (old new : List ℤ) : Type 0 where
  pub on :
      (x k : ℕ) → x < width → k < 2 * h.half →
      line_in h new x k ≡ f (line_in h old x) k
  pub off : (i : ℕ) → IsBeside h width i → line_of new i ≡ line_of old i

-- A step can change as many cells as a run has, from its sample number n on, and reads none of
-- these.
pub record CanRun (s : CountedStep) (h : Halves) (n width cells : ℕ) : Type 0 where
  pub at : halves_place h (2 * n + s.parity) + width ≤ cells
  pub met : (j : ℕ) → j < length s.taps → halves_place h (place_met s h.half n j) + width ≤ cells
  pub apart :
      (j : ℕ) → j < length s.taps →
      StandApart width (halves_place h (place_met s h.half n j)) (halves_place h (2 * n + s.parity))
