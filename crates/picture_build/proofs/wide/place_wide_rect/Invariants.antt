use Rattle.std.proofs.Common.{◌≡◌, length}
use Rattle.vc_types.specs.Lifting.{line_of}
use Rattle.vc_geometry.specs.CellRects.{ChangesRect}
use Rattle.vc_geometry.proofs.FilledRows.{FirstRows}
use Rattle.picture_build.proofs.wide.place_wide_rect.Given as goal

abbrev pub invariant-loop-row : goal.invariant-loop-row
invariant-loop-row l = record {
  on : FirstRows l.to l.from (line_of l.coeffs) l.row l.cells;
  off : ChangesRect l.to l.initial.cells l.cells;
  length : length l.cells ≡ length l.initial.cells;
}
