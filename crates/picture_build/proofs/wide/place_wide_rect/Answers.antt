use Rattle.std.proofs.Common.{arith, ◌≤◌, ◌+◌, ◌∙◌}
use Rattle.std.proofs.Math.Nat.{mul-le-mul_right}
use Rattle.vc_types.specs.Lifting.{line_of}
use Rattle.vc_geometry.proofs.FilledRows.{rows_more, others_more, rows_all}
use Rattle.picture_build.proofs.wide.place_wide_rect.Goals as goal

pub put_wide_row-requires-clause-range : goal.put_wide_row-requires-clause-range
put_wide_row-requires-clause-range c =
    let to = c.args.to.now in
    let below : to.rect.y + c.loop-row.row + 1 ≤ 8192 = omega (arith, to.sides) in
    let rows = mul-le-mul_right to.stride below in
    omega (arith, rows, to.sides, to.across)

pub loop-row-preserved : goal.loop-row-preserved
loop-row-preserved c =
    let coeffs = line_of c.args.coeffs.now in
    record {
      on = rows_more c.args.to.now c.args.from coeffs c.loop-row.row c.loop-row-test.true c.loop-row.cells c.put_wide_row.new.cells c.put_wide_row.ensures.on c.put_wide_row.ensures.off c.loop-row.invariant.on;
      off = others_more c.args.to.now c.args.from coeffs c.loop-row.row c.loop-row-test.true c.loop-row.cells c.put_wide_row.new.cells c.put_wide_row.ensures.on c.put_wide_row.ensures.off c.args.cells.now c.loop-row.invariant.off;
      length = c.put_wide_row.ensures.length ∙ c.loop-row.invariant.length;
    }

pub returns-clause-on : goal.returns-clause-on
returns-clause-on c = rows_all c.args.to.now c.args.from (line_of c.args.coeffs.now) c.loop-row.cells (λ x y h lt. c.loop-row.invariant.on x y h (omega arith))
