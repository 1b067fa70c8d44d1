use Rattle.std.proofs.Common.{◌≡◌, ◌<◌, ◌≤◌, ℕ}
use Rattle.vc_types.specs.Lifting.{line_of}
use Rattle.vc_types.specs.Transforms.{doubled}
use Rattle.vc_wave.proofs.shift.double_all.Given as goal

abbrev pub invariant-loop-sample : goal.invariant-loop-sample
invariant-loop-sample l = record {
  done : (k : ℕ) → k < l.sample-index → line_of l.samples k ≡ doubled (line_of l.initial.samples k);
  left : (k : ℕ) → l.sample-index ≤ k → line_of l.samples k ≡ line_of l.initial.samples k;
}
