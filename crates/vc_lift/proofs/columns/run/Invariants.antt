use Rattle.std.proofs.Common.{◌≡◌, ◌<◌, ℕ, take}
use Rattle.vc_lift.specs.CountedSteps.{lift_all}
use Rattle.vc_lift.specs.Columns.{column_of}
use Rattle.vc_lift.specs.StepLists.{steps_of}
use Rattle.vc_lift.proofs.columns.run.Given as goal

abbrev pub invariant-loop-i : goal.invariant-loop-i
invariant-loop-i l = (x : ℕ) → x < l.columns.width
    → column_of l.columns.width l.cells x
    ≡ lift_all (take l.i (steps_of l.steps)) l.columns.half (column_of l.columns.width l.initial.cells x)
