use Rattle.std.proofs.Common.{◌≡◌, ◌+◌, ◌<◌, ◌≤◌, ℕ, ◌⊎◌}
use Rattle.vc_types.specs.Lifting.{line_of}
use Rattle.vc_wave.proofs.long.copy_out.Given as goal

abbrev pub invariant-loop-x : goal.invariant-loop-x
invariant-loop-x l = record {
  on : (i : ℕ) → i < l.x → line_of l.cells (l.at + i) ≡ line_of l.block (l.start + i);
  off : (i : ℕ) → (i < l.at) ⊎ (l.at + l.width ≤ i) → line_of l.cells i ≡ line_of l.initial.cells i;
}
