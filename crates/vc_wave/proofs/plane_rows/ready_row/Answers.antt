use Rattle.std.proofs.Common.{rules, arith}
use Rattle.std.proofs.lemmas.Int.{to_z-of_z}
use Rattle.vc_wave.specs.Samples.{centred_row}
use Rattle.vc_wave.proofs.RowHalves.{low_more, high_more, halves_off, unwoven}
use Rattle.vc_wave.proofs.plane_rows.ready_row.Goals as goal

pub loop-k-preserved : goal.loop-k-preserved
loop-k-preserved c = search (rules, to_z-of_z, low_more, high_more, halves_off)

pub loop-k-2-preserved : goal.loop-k-2-preserved
loop-k-2-preserved c = search (rules, to_z-of_z, low_more, high_more, halves_off)

pub returns-clause-on : goal.returns-clause-on
returns-clause-on c =
    unwoven c.args.at c.args.half c.args.how.shifted (centred_row c.args.samples.now c.args.how.middle) c.loop-k-2.cells
    (λ k h. c.loop-k-2.invariant.even k (omega arith)) (λ k h. c.loop-k-2.invariant.odd k (omega arith))
