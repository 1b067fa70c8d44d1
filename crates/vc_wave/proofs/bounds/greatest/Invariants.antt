use Rattle.std.proofs.Common.{◌<◌, ◌≤◌, ℕ, unsigned_abs}
use Rattle.vc_types.specs.Lifting.{line_of}
use Rattle.vc_wave.proofs.bounds.greatest.Given as goal

abbrev pub invariant-loop-cell : goal.invariant-loop-cell
invariant-loop-cell l = (i : ℕ) → i < l.cell-index → unsigned_abs (line_of l.cells i) ≤ l.most
