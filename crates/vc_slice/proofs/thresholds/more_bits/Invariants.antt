use Rattle.std.proofs.Common.{◌≡◌, ◌+◌, ◌-◌, ◌*◌, ◌^◌, ◌<◌, ◌≤◌}
use Rattle.vc_slice.specs.Thresholds.{more_bits}
use Rattle.vc_slice.proofs.thresholds.more_bits.Given as goal

abbrev pub invariant-thresholds : goal.invariant-thresholds
invariant-thresholds l = record {
  threshold : l.threshold + l.factor ≡ 2 ^ l.digits * l.factor;
  range : l.threshold < 2 ^ 36;
  digits : 2 ≤ l.digits;
  bits : l.bits ≡ more_bits (l.digits - 1) l.factor l.coefficients;
}

abbrev pub decreases-thresholds : goal.decreases-thresholds
decreases-thresholds l = l.quarters + 1 - l.threshold
