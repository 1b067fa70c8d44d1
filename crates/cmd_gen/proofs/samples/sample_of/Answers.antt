use Rattle.std.proofs.Common.{◌≤◌, ◌<◌, ◌-◌, ◌/◌, ◌^◌, arith}
use Rattle.std.proofs.Math.Nat.{pow-le-pow_right}
use Rattle.cmd_gen.proofs.States.{upper_below}
use Rattle.cmd_gen.proofs.samples.sample_of.Goals as goal

pub overflow_cast-result-2 : goal.overflow_cast-result-2
overflow_cast-result-2 c =
    let depth = c.args.depth in
    let upper : c.args.state / 2 ^ (64 - depth) < 2 ^ depth = upper_below depth c.args.state (omega (arith, c.requires.few)) c.ranges.state.fits in
    let most : 2 ^ depth ≤ 2 ^ 16 = pow-le-pow_right {n = 2} (omega arith) c.requires.few in
    let is = c.from.ensures in
    rw is (omega (arith, upper, most))
