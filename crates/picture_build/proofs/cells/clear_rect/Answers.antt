use Rattle.std.proofs.Common.{arith, pos, ◌∙◌}
use Rattle.vc_geometry.proofs.FilledRows.{rows_more, others_more, rows_all}
use Rattle.picture_build.proofs.cells.clear_rect.Goals as goal

pub loop-row-preserved : goal.loop-row-preserved
loop-row-preserved c = record {
  on = rows_more c.args.to.now 0 (λ i. pos 0) c.loop-row.row c.loop-row-test.true c.loop-row.cells c.clear_row.new.cells c.clear_row.ensures.on c.clear_row.ensures.off c.loop-row.invariant.on;
  off = others_more c.args.to.now 0 (λ i. pos 0) c.loop-row.row c.loop-row-test.true c.loop-row.cells c.clear_row.new.cells c.clear_row.ensures.on c.clear_row.ensures.off c.args.cells.now c.loop-row.invariant.off;
  length = c.clear_row.ensures.length ∙ c.loop-row.invariant.length;
}

pub returns-clause-on : goal.returns-clause-on
returns-clause-on c = rows_all c.args.to.now 0 (λ i. pos 0) c.loop-row.cells (λ x y h lt. c.loop-row.invariant.on x y h (omega arith))
