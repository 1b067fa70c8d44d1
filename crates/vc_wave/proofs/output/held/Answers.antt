use Rattle.std.proofs.Common.{sym, arith}
use Rattle.vc_wave.proofs.LowCells.{held_even, held_odd}
use Rattle.vc_wave.proofs.output.held.Goals as goal

pub returns-then-level-eq0 : goal.returns-then-level-eq0
returns-then-level-eq0 c = sym (held_even c.args.level c.args.first.now c.args.second.now (omega arith))

pub returns-else-level-eq0 : goal.returns-else-level-eq0
returns-else-level-eq0 c = sym (held_odd c.args.level c.args.first.now c.args.second.now (omega arith))
