use Rattle.std.proofs.Common.{◌≡◌, ◌≤◌, take}
use Rattle.vc_slice.specs.Thresholds.{reaching}
use Rattle.vc_slice.proofs.thresholds.reaching.Given as goal

abbrev pub invariant-loop-coefficient : goal.invariant-loop-coefficient
invariant-loop-coefficient l = record {
  count : l.count ≡ reaching l.quarters (take l.coefficient-index l.coefficients);
  few : l.count ≤ l.coefficient-index;
}
