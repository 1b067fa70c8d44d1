use Rattle.std.proofs.Common.{◌≡◌, ◌+◌, ◌*◌, ◌<◌, ℕ}
use Rattle.vc_types.specs.Lifting.{line_of}
use Rattle.vc_wave.proofs.lower.copy_corner.Given as goal

abbrev pub invariant-loop-y : goal.invariant-loop-y
invariant-loop-y l = (x t : ℕ) → x < l.columns → t < l.y
    → line_of l.cells (t * l.columns + x) ≡ line_of l.nested (t * l.stride + x)
