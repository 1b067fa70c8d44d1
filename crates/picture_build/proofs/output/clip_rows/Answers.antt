use Rattle.picture_build.proofs.GridCells.{clipped_more}
use Rattle.picture_build.proofs.output.clip_rows.Goals as goal

pub loop-y-preserved : goal.loop-y-preserved
loop-y-preserved c =
    clipped_more c.args.cells.now c.args.stride c.args.format.columns c.args.format.depth c.loop-y.y c.requires.columns c.loop-y.samples c.clip_row.new.samples
    c.clip_row.ensures.on c.clip_row.ensures.off c.loop-y.invariant
