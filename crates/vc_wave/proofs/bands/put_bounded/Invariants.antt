use Rattle.std.proofs.Common.{◌≡◌, ◌+◌, ◌<◌, ◌≤◌, ◌⊎◌, ℕ, unsigned_abs}
use Rattle.vc_types.specs.Lifting.{line_of}
use Rattle.vc_wave.proofs.bands.put_bounded.Given as goal

abbrev pub invariant-loop-x : goal.invariant-loop-x
invariant-loop-x l = record {
  small : (i : ℕ) → i < l.x → unsigned_abs (line_of l.nested (l.from + i)) ≤ l.most;
  on : (i : ℕ) → i < l.x → line_of l.cells (l.at + i) ≡ line_of l.nested (l.from + i);
  off : (i : ℕ) → (i < l.at) ⊎ (l.at + l.width ≤ i) → line_of l.cells i ≡ line_of l.initial.cells i;
}
