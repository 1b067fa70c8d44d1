use Rattle.std.proofs.Common.{arith, ap, length}
use Rattle.picture_build.proofs.TwoParts.{length_seen}
use Rattle.picture_build.proofs.cells.CoefficientCells.touch.Goals as goal

pub touch_rect-requires : goal.touch_rect-requires
touch_rect-requires c =
    let same = ap length c.deref.ensures.value in
    let long = length_seen c.self.inside.is_wide c.self.inside.high.items c.self.inside.low.items c.args.self.now c.self.view_is c.self.invariant.even in
    omega (arith, same, long, c.requires)
