use Rattle.std.proofs.Common.{◌≡◌, length}
use Rattle.vc_types.specs.Lifting.{line_of}
use Rattle.vc_types.specs.Quantisation.{dequantised}
use Rattle.vc_geometry.specs.CellRects.{ChangesRect}
use Rattle.vc_geometry.proofs.FilledRows.{FirstRows}
use Rattle.picture_build.proofs.wide.put_wide_rect.Given as goal

abbrev pub invariant-loop-row : goal.invariant-loop-row
invariant-loop-row l = record {
  on : FirstRows l.to l.from (λ i. dequantised (line_of l.quantised.numbers.now i) l.quantised.quantiser.now.index) l.row l.cells;
  off : ChangesRect l.to l.initial.cells l.cells;
  length : length l.cells ≡ length l.initial.cells;
}
