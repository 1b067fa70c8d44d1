use Rattle.std.proofs.Common.{◌≡◌, ◌+◌, ◌*◌, ◌<◌, ◌≤◌, ◌⊎◌, ℕ}
use Rattle.vc_types.specs.Lifting.{line_of, changed_by}
use Rattle.vc_lift.specs.CountedSteps.{change_at}
use Rattle.vc_lift.specs.Halves.{halves_place, line_in}
use Rattle.vc_lift.specs.Steps.{counted_of}
use Rattle.vc_lift.proofs.narrow.change_cells.Given as goal

abbrev pub invariant-loop-x : goal.invariant-loop-x
invariant-loop-x l = record {
  on : (x : ℕ) → x < l.x
      → line_of l.cells (halves_place l.halves (2 * l.n + l.step.parity) + x)
      ≡ changed_by l.step.adds (line_of l.initial.cells (halves_place l.halves (2 * l.n + l.step.parity) + x))
      (change_at (counted_of l.step) l.halves.half (line_in l.halves l.initial.cells x) l.n);
  off : (i : ℕ) → (i < halves_place l.halves (2 * l.n + l.step.parity))
      ⊎ (halves_place l.halves (2 * l.n + l.step.parity) + l.x ≤ i)
      → line_of l.cells i ≡ line_of l.initial.cells i;
}
