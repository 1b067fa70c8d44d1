use Rattle.std.proofs.Common.{◌+◌, ◌*◌, ◌≤◌, inr, arith, ◌∙◌}
use Rattle.std.proofs.Math.Nat.{mul-le-mul_right}
use Rattle.vc_types.specs.Planes.{output_sample}
use Rattle.vc_types.specs.Wavelets.{is_shifted}
use Rattle.vc_wave.specs.declared.pass.Direction.TheVariants.{Synthesis}
use Rattle.vc_wave.specs.NarrowBounds.{rows_bound}
use Rattle.vc_wave.specs.Remade.{remade}
use Rattle.vc_wave.proofs.OutputRows.{rows_put, rows_above, left_bound}
use Rattle.vc_wave.proofs.Weaving.{remade_pass}
use Rattle.vc_wave.proofs.output.put_rows.Goals as goal

pub put_row-requires-clause-at : goal.put_row-requires-clause-at
put_row-requires-clause-at c =
    let past : (c.args.span.at + (c.loop-y.y + 1)) * c.args.format.columns
    ≤ (c.args.span.at + c.args.span.count) * c.args.format.columns =
    mul-le-mul_right c.args.format.columns (omega (arith, c.loop-y-test.true)) in
    omega (arith, past, c.requires.to, c.loop-y.auto.samples)

pub put_row-requires-clause-inside : goal.put_row-requires-clause-inside
put_row-requires-clause-inside c =
    let past : (c.args.span.first + (c.loop-y.y + 1)) * c.args.rows.pitch
    ≤ (c.args.span.first + c.args.span.count) * c.args.rows.pitch =
    mul-le-mul_right c.args.rows.pitch (omega (arith, c.loop-y-test.true)) in
    omega (arith, past, c.requires.across, c.requires.from, c.loop-y.auto.cells)

pub put_row-requires-clause-bound : goal.put_row-requires-clause-bound
put_row-requires-clause-bound c =
    left_bound (rows_bound c.args.rows.wavelet) ((c.args.span.first + c.loop-y.y) * c.args.rows.pitch)
    (2 * c.args.rows.half) c.args.cells.now c.loop-y.cells c.loop-y.invariant.left c.requires.bound

pub loop-y-preserved : goal.loop-y-preserved
loop-y-preserved c =
    let rows = c.args.rows in
    let span = c.args.span in
    let columns = c.args.format.columns in
    let f = remade Synthesis rows.wavelet (is_shifted rows.wavelet) rows.half in
    let y = c.loop-y.y in
    let reads = (remade_pass Synthesis rows.wavelet (is_shifted rows.wavelet) rows.half).reads in
    record {
      put =
          rows_put 0 (output_sample c.args.format.depth) f rows.pitch (2 * rows.half) columns span.first span.at y
          reads c.requires.width c.requires.across c.args.cells.now c.loop-y.cells c.loop-y.samples
          c.put_row.new.samples c.loop-y.invariant.left c.put_row.ensures.on c.put_row.ensures.off
          c.loop-y.invariant.put;
      left = λ i h. c.put_row.ensures.beside i (inr (omega (arith, h, c.requires.across)))
          ∙ c.loop-y.invariant.left i (omega (arith, h));
      above =
          rows_above 0 (output_sample c.args.format.depth) f rows.pitch (2 * rows.half) columns span.first span.at y
          reads c.requires.width c.requires.across c.args.cells.now c.loop-y.cells c.loop-y.samples
          c.put_row.new.samples c.loop-y.invariant.left c.put_row.ensures.on c.put_row.ensures.off
          c.args.samples.now c.loop-y.invariant.above;
    }

pub returns-clause-on : goal.returns-clause-on
returns-clause-on c = λ x y h lt. c.loop-y.invariant.put x y h (omega (arith, lt))
