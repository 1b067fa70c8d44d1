use Rattle.std.proofs.Common.{◌≡◌, ◌+◌, drop}
use Rattle.vc_lift.specs.Reach.{steps_back, steps_ahead, reach_back, reach_ahead}
use Rattle.vc_lift.specs.StepLists.{steps_of}
use Rattle.vc_lift.proofs.reach.reach_of.Given as goal

abbrev pub invariant-loop-i : goal.invariant-loop-i
invariant-loop-i l = record {
  back : l.back + steps_back (drop l.i (steps_of l.steps)) ≡ reach_back l.fn.wavelet;
  ahead : l.ahead + steps_ahead (drop l.i (steps_of l.steps)) ≡ reach_ahead l.fn.wavelet;
}
