use Rattle.std.proofs.Common.{◌≡◌, ◌<◌, ℕ}
use Rattle.vc_lift.specs.Columns.{column_of}
use Rattle.vc_lift.specs.Steps.{counted_of}
use Rattle.vc_lift.proofs.Sweeps.{part}
use Rattle.vc_lift.proofs.columns.sweep.Given as goal

abbrev pub invariant-loop-n : goal.invariant-loop-n
invariant-loop-n l = (x : ℕ) → x < l.columns.width
    → column_of l.columns.width l.cells x
    ≡ part (counted_of l.step) l.columns.half l.n (column_of l.columns.width l.initial.cells x)
