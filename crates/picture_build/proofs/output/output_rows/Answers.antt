use Rattle.std.proofs.Common.{◌+◌, ◌*◌, arith, ap, ◌∙◌}
use Rattle.vc_types.specs.Lifting.{line_of}
use Rattle.vc_types.specs.Planes.{output_sample}
use Rattle.picture_build.proofs.GridCells.{output_more}
use Rattle.picture_build.proofs.output.output_rows.Goals as goal

pub loop-y-preserved : goal.loop-y-preserved
loop-y-preserved c =
    let g = c.args.grid.now in
    let y = c.loop-y.y in
    output_more g c.args.columns c.args.depth y c.requires.columns (omega arith) c.loop-y.samples c.output_row.new.samples
    (λ x h. c.output_row.ensures.on x h ∙ ap (λ xs. output_sample c.args.depth (line_of xs (y * c.width-stride.result + x))) c.cells-cells.ensures.value ∙ ap (λ n. output_sample c.args.depth (line_of g.cells (y * n + x))) c.width-stride.ensures)
    c.output_row.ensures.off c.loop-y.invariant
