use Rattle.std.proofs.Common.{◌≡◌, ◌<◌, ℕ, length}
use Rattle.vc_types.specs.Lifting.{line_of}
use Rattle.picture_build.proofs.filling.narrowed.Given as goal

abbrev pub invariant-loop-i : goal.invariant-loop-i
invariant-loop-i l = record {
  copied : (k : ℕ) → k < l.i → line_of l.numbers k ≡ line_of l.coeffs k;
  length : length l.numbers ≡ length l.initial.numbers;
}
