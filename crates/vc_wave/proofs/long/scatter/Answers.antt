use Rattle.std.proofs.Common.{length, arith, false}
use Rattle.vc_wave.proofs.Copies.{placed_inside, scattered_on, scattered_off}
use Rattle.vc_wave.proofs.long.scatter.Goals as goal

pub overflow_mul-at : goal.overflow_mul-at
overflow_mul-at c =
    let within = placed_inside c.args.lines.now
    (length c.args.cells.now) c.requires.inside false c.loop-k.k c.loop-k-test.true in
    omega (arith, within)

pub overflow_add-at : goal.overflow_add-at
overflow_add-at c =
    let within = placed_inside c.args.lines.now
    (length c.args.cells.now) c.requires.inside false c.loop-k.k c.loop-k-test.true in
    omega (arith, within)

pub copy_out-requires-clause-at : goal.copy_out-requires-clause-at
copy_out-requires-clause-at c =
    let within = placed_inside c.args.lines.now
    (length c.args.cells.now) c.requires.inside false c.loop-k.k c.loop-k-test.true in
    rw c.loop-k.auto.cells within

pub loop-k-preserved : goal.loop-k-preserved
loop-k-preserved c =
    let lines = c.args.lines.now in
    let wide = c.requires.inside.apart in
    let on = c.copy_out.ensures.on c.if-not-copy_out.false in
    let off = c.copy_out.ensures.off in
    record {
      on = scattered_on lines.start lines.step lines.width lines.half false wide c.loop-k.k
          c.loop-k-test.true
          c.loop-k.cells c.copy_out.new.cells c.args.block.now on off c.loop-k.invariant.on;
      off = scattered_off lines.start lines.step lines.width lines.half false wide c.loop-k.k
          c.loop-k-test.true
          c.loop-k.cells c.copy_out.new.cells c.args.block.now on off c.args.cells.now c.loop-k.invariant.off;
    }
