use Rattle.std.proofs.Common.{◌≡◌, ◌+◌, ◌-◌, ◌<◌, arith, ◌∙◌}
use Rattle.vc_types.specs.Lifting.{line_of}
use Rattle.picture_build.proofs.RectRows.{row_more, others_more, rows_all}
use Rattle.picture_build.proofs.halves.place_rows.Goals as goal

pub loop-y-preserved : goal.loop-y-preserved
loop-y-preserved c =
    let to = c.args.to.now in
    let rows = c.args.rows in
    let numbers = line_of c.args.numbers.now in
    let y = c.loop-y.y in
    let old = c.loop-y.cells in
    let new = c.copy_row.new.cells in
    let own : to.rect.y + (y - to.rect.y) ≡ y = omega arith in
    let there : rows.top + (y - rows.top) ≡ y = omega arith in
    let below : y - to.rect.y < to.rect.height = omega arith in
    record {
      on = row_more to rows.top rows.count c.args.from numbers y (y - to.rect.y) (y - rows.top) own there below old new c.copy_row.ensures.on c.copy_row.ensures.off c.loop-y.invariant.on;
      off = others_more to rows.top rows.count c.args.from numbers y (y - to.rect.y) (y - rows.top) own there below old new c.copy_row.ensures.on c.copy_row.ensures.off c.args.cells.now c.loop-y.invariant.off;
      length = c.copy_row.ensures.length ∙ c.loop-y.invariant.length;
    }

pub returns-clause-on : goal.returns-clause-on
returns-clause-on c = λ j m h within is.
    rows_all c.args.to.now c.args.rows.top c.args.rows.count c.args.from (line_of c.args.numbers.now) c.loop-y.y c.loop-y.cells (λ row at low same inside. omega (arith, low, same, inside)) c.loop-y.invariant.on j m h (omega (arith, within, c.requires.cells)) is
