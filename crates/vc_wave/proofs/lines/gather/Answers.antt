use Rattle.std.proofs.Common.{length, arith}
use Rattle.vc_wave.specs.Lines.{line_at}
use Rattle.vc_wave.specs.Remade.{sample_place}
use Rattle.vc_wave.proofs.Copies.{placed_inside, gathered_more}
use Rattle.vc_wave.proofs.lines.gather.Goals as goal

pub overflow_add-start : goal.overflow_add-start
overflow_add-start c =
    let place = c.sample_place.ensures in
    let within = rw (← place) at
    (placed_inside c.args.lines.now
    (length c.args.cells.now) c.requires.inside c.args.apart c.loop-k.k c.loop-k-test.true) in
    omega (arith, within)

pub copy-requires-clause-start : goal.copy-requires-clause-start
copy-requires-clause-start c =
    rw c.sample_place.ensures
    (placed_inside c.args.lines.now
    (length c.args.cells.now) c.requires.inside c.args.apart c.loop-k.k c.loop-k-test.true)

pub loop-k-preserved : goal.loop-k-preserved
loop-k-preserved c =
    let lines = c.args.lines.now in
    gathered_more lines.width c.loop-k.k c.loop-k.block c.copy.new.to
    (λ x j. line_at c.args.cells.now lines x (sample_place c.args.apart lines.half j))
    (rw c.sample_place.ensures at c.copy.ensures.on) c.copy.ensures.off c.loop-k.invariant
