use Rattle.std.proofs.Common.{◌≡◌, ◌<◌, ◌≤◌, ℕ}
use Rattle.vc_lift.specs.Columns.{column_of, one_changed}
use Rattle.vc_lift.specs.Steps.{counted_of}
use Rattle.vc_lift.proofs.columns.change_row.Given as goal

abbrev pub invariant-loop-x : goal.invariant-loop-x
invariant-loop-x l = record {
  done : (i : ℕ) → i < l.x
      → column_of l.columns.width l.cells i
      ≡ one_changed (counted_of l.step) l.columns.half l.n (column_of l.columns.width l.initial.cells i);
  left : (i : ℕ) → l.x ≤ i → i < l.columns.width
      → column_of l.columns.width l.cells i ≡ column_of l.columns.width l.initial.cells i;
}
