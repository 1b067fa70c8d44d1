use Rattle.std.proofs.Common.{◌≡◌, ◌+◌, ◌*◌, ◌<◌, ◌≤◌, ◌⊎◌, ℕ}
use Rattle.std.specs.Prelude.{if◌then◌else◌}
use Rattle.vc_types.specs.Lifting.{line_of}
use Rattle.vc_types.specs.Transforms.{doubled}
use Rattle.vc_wave.proofs.narrow_analysis.unweave.Given as goal

abbrev pub invariant-loop-k : goal.invariant-loop-k
invariant-loop-k l = record {
  even : (i : ℕ) → i < l.k
      → line_of l.cells (l.start + i)
      ≡ (if l.shifted then doubled (line_of l.line (2 * i)) else line_of l.line (2 * i));
  odd : (i : ℕ) → i < l.k
      → line_of l.cells (l.start + (l.half + i))
      ≡ (if l.shifted then doubled (line_of l.line (2 * i + 1)) else line_of l.line (2 * i + 1));
  off : (i : ℕ) → (i < l.start) ⊎ (l.start + 2 * l.half ≤ i) → line_of l.cells i ≡ line_of l.initial.cells i;
}
