use Rattle.std.proofs.Common.{◌≡◌, ◌+◌, ◌^◌, ◌<◌, ◌≤◌, ℕ, ◌⊎◌, unsigned_abs}
use Rattle.vc_types.specs.Lifting.{line_of}
use Rattle.vc_wave.proofs.long.copy_in.Given as goal

abbrev pub invariant-loop-x : goal.invariant-loop-x
invariant-loop-x l = record {
  on : (i : ℕ) → i < l.x → line_of l.block (l.at + i) ≡ line_of l.cells (l.start + i);
  small : (i : ℕ) → i < l.x → unsigned_abs (line_of l.cells (l.start + i)) < 2 ^ 64;
  off : (i : ℕ) → (i < l.at) ⊎ (l.at + l.width ≤ i) → line_of l.block i ≡ line_of l.initial.block i;
}
