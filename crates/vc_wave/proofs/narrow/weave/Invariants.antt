use Rattle.std.proofs.Common.{◌≡◌, ◌+◌, ◌*◌, ◌<◌, ◌≤◌, ◌⊎◌, ℕ}
use Rattle.std.specs.Prelude.{if◌then◌else◌}
use Rattle.vc_types.specs.Lifting.{line_of}
use Rattle.vc_types.specs.Transforms.{halved}
use Rattle.vc_wave.proofs.narrow.weave.Given as goal

abbrev pub invariant-loop-k : goal.invariant-loop-k
invariant-loop-k l = record {
  even : (i : ℕ) → i < l.k
      → line_of l.cells (l.start + 2 * i)
      ≡ (if l.shifted then halved (line_of l.line i) else line_of l.line i);
  odd : (i : ℕ) → i < l.k
      → line_of l.cells (l.start + (2 * i + 1))
      ≡ (if l.shifted then halved (line_of l.line (l.half + i)) else line_of l.line (l.half + i));
  off : (i : ℕ) → (i < l.start) ⊎ (l.start + 2 * l.k ≤ i) → line_of l.cells i ≡ line_of l.initial.cells i;
}
