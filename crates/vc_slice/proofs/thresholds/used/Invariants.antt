use Rattle.std.proofs.Common.{◌*◌, ◌<◌, ◌≤◌, ℕ, length, unsigned_abs}
use Rattle.vc_types.specs.Lifting.{line_of}
use Rattle.vc_slice.proofs.thresholds.used.Given as goal

abbrev pub invariant-zeros : goal.invariant-zeros
invariant-zeros l = record {
  within : l.count ≤ length l.coefficients;
  zeros : (i : ℕ) → l.count ≤ i → i < length l.coefficients → 4 * unsigned_abs (line_of l.coefficients i) < l.factor;
}

abbrev pub decreases-zeros : goal.decreases-zeros
decreases-zeros l = l.count
