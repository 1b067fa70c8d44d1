use Rattle.std.proofs.Common.{◌≡◌, length, pos}
use Rattle.vc_geometry.specs.CellRects.{ChangesRect}
use Rattle.vc_geometry.proofs.FilledRows.{FirstRows}
use Rattle.picture_build.proofs.cells.clear_rect.Given as goal

abbrev pub invariant-loop-row : goal.invariant-loop-row
invariant-loop-row l = record {
  on : FirstRows l.to 0 (λ i. pos 0) l.row l.cells;
  off : ChangesRect l.to l.initial.cells l.cells;
  length : length l.cells ≡ length l.initial.cells;
}
