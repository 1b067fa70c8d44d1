use Rattle.std.proofs.Common.{◌≡◌, ◌^◌, ◌<◌, drop}
use Rattle.vc_lift.specs.Ranges.{bound_after}
use Rattle.vc_lift.specs.StepLists.{steps_of}
use Rattle.vc_lift.proofs.ranges.bound_after.Given as goal

abbrev pub invariant-loop-i : goal.invariant-loop-i
invariant-loop-i l = record {
  same : bound_after (2 ^ 31) (steps_of l.steps) l.most l.most
      ≡ bound_after (2 ^ 31) (drop l.i (steps_of l.steps)) l.bounds.0 l.bounds.1;
  even : l.bounds.0 < 2 ^ 31;
  odd : l.bounds.1 < 2 ^ 31;
}
