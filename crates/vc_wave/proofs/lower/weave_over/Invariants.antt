use Rattle.std.proofs.Common.{◌≡◌, ◌+◌, ◌*◌, ◌<◌, ◌≤◌, ◌⊎◌, ℕ}
use Rattle.vc_types.specs.Lifting.{line_of}
use Rattle.vc_wave.specs.Remade.{shifted_down}
use Rattle.vc_wave.proofs.lower.weave_over.Given as goal

abbrev pub invariant-loop-k : goal.invariant-loop-k
invariant-loop-k l = record {
  even : (i : ℕ) → i < l.k
      → line_of l.out (l.at + 2 * i) ≡ shifted_down l.shifted (line_of l.cells (l.start + i));
  odd : (i : ℕ) → i < l.k
      → line_of l.out (l.at + (2 * i + 1)) ≡ shifted_down l.shifted (line_of l.cells (l.start + (l.half + i)));
  off : (i : ℕ) → (i < l.at) ⊎ (l.at + 2 * l.k ≤ i) → line_of l.out i ≡ line_of l.initial.out i;
}
