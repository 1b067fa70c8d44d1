use Rattle.vc_lift.specs.CountedSteps.{lift_between}
use Rattle.vc_lift.specs.Halves.{AreMade}
use Rattle.vc_lift.specs.Steps.{counted_of}
use Rattle.vc_lift.proofs.narrow.change_each.Given as goal

abbrev pub invariant-loop-n : goal.invariant-loop-n
invariant-loop-n l =
    AreMade (lift_between (counted_of l.step) l.halves.half l.lo l.n) l.halves l.width l.initial.cells l.cells
