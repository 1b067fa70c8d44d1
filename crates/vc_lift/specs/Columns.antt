-- Columns that stand side by side, row by row.
use Rattle.std.specs.Prelude.{ℕ, ◌+◌, ◌*◌, ◌==◌, if◌then◌else◌, List, ℤ}
use Rattle.vc_types.specs.Lifting.{line_of, changed_by}
use Rattle.vc_lift.specs.CountedSteps.{CountedStep, change_at}

-- column x, where a row has so many
abbrev pub column_of : ℕ → List ℤ → ℕ → ℕ → ℤ
column_of width cells x k = line_of cells (k * width + x)

-- a line with another sample at a place
unfoldable pub with_sample : (ℕ → ℤ) → ℕ → ℤ → ℕ → ℤ
with_sample line place sample k = if k == place then sample else line k

-- a line in which a step has changed its sample number n alone
abbrev pub one_changed : CountedStep → ℕ → ℕ → (ℕ → ℤ) → ℕ → ℤ
one_changed s half n line = with_sample line (2 * n + s.parity)
    (changed_by s.adds (line (2 * n + s.parity)) (change_at s half line n))
