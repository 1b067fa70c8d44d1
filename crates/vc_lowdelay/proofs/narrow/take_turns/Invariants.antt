use Rattle.std.proofs.Common.{◌≡◌, ◌<◌, ◌+◌, ◌*◌, ℕ}
use Rattle.vc_types.specs.Lifting.{line_of}
use Rattle.vc_lowdelay.proofs.narrow.take_turns.Given as goal

abbrev pub invariant-loop-i : goal.invariant-loop-i
invariant-loop-i l = (k : ℕ) → k < l.i → line_of l.numbers k ≡ line_of l.turns (2 * k + l.first)
