use Rattle.std.proofs.Common.{◌≡◌, ◌+◌, ◌<◌, ◌≤◌, ◌⊎◌, ℕ}
use Rattle.vc_types.specs.Lifting.{line_of}
use Rattle.picture_encode.proofs.gathering.copy_many.Given as goal

abbrev pub invariant-loop-x : goal.invariant-loop-x
invariant-loop-x l = record {
  on : (i : ℕ) → i < l.x → line_of l.coeffs (l.at + i) ≡ line_of l.cells (l.from + i);
  off : (i : ℕ) → (i < l.at) ⊎ (l.at + l.width ≤ i) → line_of l.coeffs i ≡ line_of l.initial.coeffs i;
}
