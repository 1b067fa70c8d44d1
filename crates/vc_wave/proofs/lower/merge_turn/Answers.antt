use Rattle.std.proofs.Common.{◌+◌, arith}
use Rattle.vc_wave.proofs.LowCells.{held_even, held_odd}
use Rattle.vc_wave.proofs.lower.merge_turn.Goals as goal

pub returns-then-n-eq0 : goal.returns-then-n-eq0
returns-then-n-eq0 c =
    rw (
      held_even c.args.n c.args.first.now c.args.second.now (omega arith),
      held_odd (c.args.n + 1) c.args.first.now c.merge_level.new.out (omega arith),
    )
    c.merge_level.ensures

pub returns-else-n-eq0 : goal.returns-else-n-eq0
returns-else-n-eq0 c =
    rw (
      held_odd c.args.n c.args.first.now c.args.second.now (omega arith),
      held_even (c.args.n + 1) c.merge_level-else-n-eq0.new.out c.args.second.now (omega arith),
    )
    c.merge_level-else-n-eq0.ensures
