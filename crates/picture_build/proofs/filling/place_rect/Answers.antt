use Rattle.std.proofs.Common.{arith, ◌∙◌}
use Rattle.vc_types.specs.Lifting.{line_of}
use Rattle.vc_geometry.proofs.FilledRows.{rows_more, others_more, rows_all}
use Rattle.picture_build.proofs.filling.place_rect.Goals as goal

pub loop-row-preserved : goal.loop-row-preserved
loop-row-preserved c =
    let numbers = line_of c.args.numbers.now in
    record {
      on = rows_more c.args.to.now c.args.from numbers c.loop-row.row c.loop-row-test.true c.loop-row.cells c.put_row.new.self c.put_row.ensures.on c.put_row.ensures.off c.loop-row.invariant.on;
      off = others_more c.args.to.now c.args.from numbers c.loop-row.row c.loop-row-test.true c.loop-row.cells c.put_row.new.self c.put_row.ensures.on c.put_row.ensures.off c.args.cells.now c.loop-row.invariant.off;
      length = c.put_row.ensures.length ∙ c.loop-row.invariant.length;
    }

pub returns-clause-on : goal.returns-clause-on
returns-clause-on c = rows_all c.args.to.now c.args.from (line_of c.args.numbers.now) c.loop-row.cells (λ x y h lt. c.loop-row.invariant.on x y h (omega arith))
