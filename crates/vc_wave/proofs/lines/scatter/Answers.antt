use Rattle.std.proofs.Common.{length, arith}
use Rattle.vc_wave.proofs.Copies.{placed_inside, scattered_on, scattered_off}
use Rattle.vc_wave.proofs.lines.scatter.Goals as goal

pub overflow_add-at : goal.overflow_add-at
overflow_add-at c =
    let place = c.sample_place.ensures in
    let within = rw (← place) at
    (placed_inside c.args.lines.now
    (length c.args.cells.now) c.requires.inside c.args.apart c.loop-k.k c.loop-k-test.true) in
    omega (arith, within)

pub copy-requires-clause-at : goal.copy-requires-clause-at
copy-requires-clause-at c =
    let within = placed_inside c.args.lines.now
    (length c.args.cells.now) c.requires.inside c.args.apart c.loop-k.k c.loop-k-test.true in
    rw (c.sample_place.ensures, c.loop-k.auto.cells) within

pub loop-k-preserved : goal.loop-k-preserved
loop-k-preserved c =
    let lines = c.args.lines.now in
    let wide = c.requires.inside.apart in
    let on = rw c.sample_place.ensures at c.copy.ensures.on in
    let off = rw c.sample_place.ensures at c.copy.ensures.off in
    record {
      on = scattered_on lines.start lines.step lines.width lines.half c.args.apart wide c.loop-k.k
          c.loop-k-test.true
          c.loop-k.cells c.copy.new.to c.args.block.now on off c.loop-k.invariant.on;
      off = scattered_off lines.start lines.step lines.width lines.half c.args.apart wide c.loop-k.k
          c.loop-k-test.true
          c.loop-k.cells c.copy.new.to c.args.block.now on off c.args.cells.now c.loop-k.invariant.off;
    }
