use Rattle.std.proofs.Common.{◌≡◌, length}
use Rattle.vc_geometry.specs.CellRects.{ChangesRect}
use Rattle.vc_slice.specs.Numbers.{coefficient_of}
use Rattle.vc_geometry.proofs.FilledRows.{FirstRows}
use Rattle.vc_slice.proofs.rect_numbers.put_rows.Given as goal

abbrev pub invariant-loop-row : goal.invariant-loop-row
invariant-loop-row l = record {
  on : FirstRows l.to l.from (coefficient_of l.quantised) l.row l.cells;
  off : ChangesRect l.to l.initial.cells l.cells;
  length : length l.cells ≡ length l.initial.cells;
}
