use Rattle.std.proofs.Common.{◌≡◌, ◌+◌, ◌<◌, ◌≤◌, ◌⊎◌, ℕ, length}
use Rattle.vc_types.specs.Lifting.{line_of}
use Rattle.picture_encode.proofs.gathering.copy_few.Given as goal

abbrev pub invariant-loop-x : goal.invariant-loop-x
invariant-loop-x l = record {
  read : (i : ℕ) → i < l.x → line_of l.few i ≡ line_of l.cells (l.from + i);
  long : length l.few ≡ 16;
}

abbrev pub invariant-loop-x-2 : goal.invariant-loop-x-2
invariant-loop-x-2 l = record {
  on : (i : ℕ) → i < l.x → line_of l.coeffs (l.at + i) ≡ line_of l.fn.cells (l.fn.from + i);
  off : (i : ℕ) → (i < l.at) ⊎ (l.at + l.width ≤ i) → line_of l.coeffs i ≡ line_of l.initial.coeffs i;
}
