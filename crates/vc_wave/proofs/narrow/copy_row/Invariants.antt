use Rattle.std.proofs.Common.{◌≡◌, ◌+◌, ◌<◌, ℕ}
use Rattle.vc_types.specs.Lifting.{line_of}
use Rattle.vc_wave.proofs.narrow.copy_row.Given as goal

abbrev pub invariant-loop-k : goal.invariant-loop-k
invariant-loop-k l = (i : ℕ) → i < l.k → line_of l.line i ≡ line_of l.cells (l.start + i)
