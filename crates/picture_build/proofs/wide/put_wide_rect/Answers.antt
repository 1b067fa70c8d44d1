use Rattle.std.proofs.Common.{arith, ◌≡◌, ◌+◌, ◌*◌, ◌<◌, ◌≤◌, ℕ, ℤ, unsigned_abs, subst, ◌∙◌}
use Rattle.std.proofs.lemmas.Nat.{mul-add-lt}
use Rattle.std.proofs.Math.Nat.{mul-le-mul_right}
use Rattle.vc_types.specs.Lifting.{line_of}
use Rattle.vc_types.specs.Quantisation.{dequantised}
use Rattle.vc_types.specs.Subbands.{area}
use Rattle.picture_build.specs.declared.wide.WideNumbers.{WideNumbers}
use Rattle.vc_geometry.proofs.FilledRows.{rows_more, others_more, rows_all}
use Rattle.picture_build.proofs.wide.put_wide_rect.Goals as goal

abbrev coefficients_of : WideNumbers → ℕ → ℤ
coefficients_of quantised i = dequantised (line_of quantised.numbers.now i) quantised.quantiser.now.index

pub put_dequantised_row-requires-clause-small : goal.put_dequantised_row-requires-clause-small
put_dequantised_row-requires-clause-small c = λ x h.
    let r = c.args.to.now.rect in
    let row = c.loop-row.row in
    let column : x < r.width = omega arith in
    let within : row * r.width + x < area r = omega (arith, mul-add-lt row r.width x r.height c.loop-row-test.true column) in
    let place : c.args.from + (row * r.width + x) ≡ c.args.from + row * r.width + x = omega arith in
    subst (λ k. unsigned_abs (line_of c.args.quantised.numbers.now k) ≤ c.args.quantised.greatest) place (c.requires.small (row * r.width + x) within)

pub put_dequantised_row-requires-clause-range : goal.put_dequantised_row-requires-clause-range
put_dequantised_row-requires-clause-range c =
    let to = c.args.to.now in
    let below : to.rect.y + c.loop-row.row + 1 ≤ 8192 = omega (arith, to.sides) in
    let rows = mul-le-mul_right to.stride below in
    omega (arith, rows, to.sides, to.across)

pub loop-row-preserved : goal.loop-row-preserved
loop-row-preserved c =
    let coeffs = coefficients_of c.args.quantised in
    record {
      on = rows_more c.args.to.now c.args.from coeffs c.loop-row.row c.loop-row-test.true c.loop-row.cells c.put_dequantised_row.new.cells c.put_dequantised_row.ensures.on c.put_dequantised_row.ensures.off c.loop-row.invariant.on;
      off = others_more c.args.to.now c.args.from coeffs c.loop-row.row c.loop-row-test.true c.loop-row.cells c.put_dequantised_row.new.cells c.put_dequantised_row.ensures.on c.put_dequantised_row.ensures.off c.args.cells.now c.loop-row.invariant.off;
      length = c.put_dequantised_row.ensures.length ∙ c.loop-row.invariant.length;
    }

pub returns-clause-on : goal.returns-clause-on
returns-clause-on c = rows_all c.args.to.now c.args.from (coefficients_of c.args.quantised) c.loop-row.cells (λ x y h lt. c.loop-row.invariant.on x y h (omega arith))
