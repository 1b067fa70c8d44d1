use Rattle.std.proofs.Common.{◌≡◌, take, unsigned_abs}
use Rattle.std.specs.List.{sum_by}
use Rattle.vc_lift.proofs.ranges.weight.Given as goal

abbrev pub invariant-loop-j : goal.invariant-loop-j
invariant-loop-j l = l.sum ≡ sum_by unsigned_abs (take l.j l.step.taps.now)
