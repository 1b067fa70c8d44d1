use Rattle.std.proofs.lemmas.Grind.{common_steps}
use Rattle.std.proofs.Common.{arith}
use Rattle.std.proofs.lemmas.Int.{to_z-of_z}
use Rattle.std.proofs.lemmas.Nat.{mul-add-lt}
use Rattle.vc_wave.specs.Samples.{padded_sample}
use Rattle.vc_wave.proofs.Fills.{above_kept, row_more, rows_filled, sample_read}
use Rattle.vc_wave.proofs.analysis.fill.Goals as goal

pub loop-x-preserved : goal.loop-x-preserved
loop-x-preserved c = grind (arith, common_steps, mul-add-lt, sample_read, to_z-of_z, above_kept, row_more)

pub loop-y-preserved : goal.loop-y-preserved
loop-y-preserved c =
    rows_filled c.args.columns c.loop-y.y c.loop-x.cells
    (padded_sample c.args.plane.now c.args.depth) c.loop-x.invariant.above
    (λ u h. c.loop-x.invariant.row u (omega arith))
