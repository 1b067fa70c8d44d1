use Rattle.std.proofs.Common.{take}
use Rattle.vc_lift.specs.CountedSteps.{lift_all}
use Rattle.vc_lift.specs.Halves.{AreMade}
use Rattle.vc_lift.specs.StepLists.{steps_of}
use Rattle.vc_lift.proofs.narrow.run.Given as goal

abbrev pub invariant-loop-i : goal.invariant-loop-i
invariant-loop-i l =
    AreMade (lift_all (take l.i (steps_of l.steps)) l.halves.half) l.halves l.width l.initial.cells l.cells
