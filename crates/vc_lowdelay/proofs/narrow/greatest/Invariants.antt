use Rattle.std.proofs.Common.{◌<◌, ◌≤◌, ℕ, unsigned_abs}
use Rattle.vc_types.specs.Lifting.{line_of}
use Rattle.vc_lowdelay.proofs.narrow.greatest.Given as goal

abbrev pub invariant-loop-number : goal.invariant-loop-number
invariant-loop-number l = (i : ℕ) → i < l.number-index → unsigned_abs (line_of l.numbers i) ≤ l.seen
