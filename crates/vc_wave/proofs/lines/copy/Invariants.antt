use Rattle.std.proofs.Common.{◌≡◌, ◌+◌, ◌<◌, ◌≤◌, ℕ, ◌⊎◌}
use Rattle.vc_types.specs.Lifting.{line_of}
use Rattle.vc_wave.proofs.lines.copy.Given as goal

abbrev pub invariant-loop-x : goal.invariant-loop-x
invariant-loop-x l = record {
  on : (i : ℕ) → i < l.x → line_of l.to (l.at + i) ≡ line_of l.from (l.start + i);
  off : (i : ℕ) → (i < l.at) ⊎ (l.at + l.width ≤ i) → line_of l.to i ≡ line_of l.initial.to i;
}
