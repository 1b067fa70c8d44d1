use Rattle.std.proofs.Common.{arith, unsigned_abs, pos, ap, refl}
use Rattle.std.proofs.lemmas.List.Sums.{sum_by_more, sum_by-take-le}
use Rattle.vc_lift.proofs.Sums.{tap_read}
use Rattle.vc_lift.proofs.ranges.weight.Goals as goal

pub overflow_add-sum : goal.overflow_add-sum
overflow_add-sum c =
    omega (
      arith,
      sum_by-take-le unsigned_abs c.args.step.now.taps.now c.loop-j.j,
      c.args.step.now.plain.light,
    )

pub loop-j-preserved : goal.loop-j-preserved
loop-j-preserved c =
    let taps = c.args.step.now.taps.now in
    omega (
      arith,
      sum_by_more unsigned_abs taps c.loop-j.j (pos 0) c.loop-j-test.true,
      ap unsigned_abs (tap_read taps c.loop-j.j _ refl c.loop-j-test.true c.args.step.now.plain.light),
    )
