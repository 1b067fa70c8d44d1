use Rattle.std.proofs.Common.{arith, ◌≡◌, ◌+◌, ◌*◌, ◌<◌, ◌≤◌, ℕ, unsigned_abs, ap, subst, ◌∙◌}
use Rattle.std.proofs.lemmas.Nat.{mul-add-lt}
use Rattle.vc_types.specs.Lifting.{line_of}
use Rattle.vc_types.specs.Subbands.{area}
use Rattle.vc_geometry.specs.CellRects.{ChangesRow}
use Rattle.vc_slice.specs.Numbers.{coefficient_of}
use Rattle.vc_geometry.proofs.FilledRows.{rows_more, others_more, rows_all}
use Rattle.vc_slice.proofs.rect_numbers.put_rows.Goals as goal

pub put_row-requires-clause-small : goal.put_row-requires-clause-small
put_row-requires-clause-small c = λ x h.
    let r = c.args.to.now.rect in
    let row = c.loop-row.row in
    let column : x < r.width = omega arith in
    let within : row * r.width + x < area r = omega (arith, mul-add-lt row r.width x r.height c.loop-row-test.true column) in
    let place : c.args.from + (row * r.width + x) ≡ c.args.from + row * c.args.width + x = omega (arith, ap (λ w. row * w) c.requires.width) in
    subst (λ k. unsigned_abs (line_of c.args.quantised.numbers.now k) ≤ c.args.quantised.quantiser.now.greatest) place (c.requires.small (row * r.width + x) within)

pub loop-row-preserved : goal.loop-row-preserved
loop-row-preserved c =
    let to = c.args.to.now in
    let row = c.loop-row.row in
    let coeffs = coefficient_of c.args.quantised in
    let at = (to.rect.y + row) * to.stride + to.rect.x in
    let on = subst (λ w. (x : ℕ) → x < w → line_of c.put_row.new.cells (at + x) ≡ coeffs (c.args.from + row * w + x)) c.requires.width c.put_row.ensures.on in
    let off = subst (λ w. ChangesRow w at c.loop-row.cells c.put_row.new.cells) c.requires.width c.put_row.ensures.off in
    record {
      on = rows_more to c.args.from coeffs row c.loop-row-test.true c.loop-row.cells c.put_row.new.cells on off c.loop-row.invariant.on;
      off = others_more to c.args.from coeffs row c.loop-row-test.true c.loop-row.cells c.put_row.new.cells on off c.args.cells.now c.loop-row.invariant.off;
      length = c.put_row.ensures.length ∙ c.loop-row.invariant.length;
    }

pub returns-clause-on : goal.returns-clause-on
returns-clause-on c = rows_all c.args.to.now c.args.from (coefficient_of c.args.quantised) c.loop-row.cells (λ x y h lt. c.loop-row.invariant.on x y h (omega arith))
