use Rattle.std.proofs.Common.{arith}
use Rattle.vc_wave.proofs.Levels.{level_fits}
use Rattle.vc_wave.proofs.Turns.{one_level, all_turned}
use Rattle.vc_wave.proofs.turn.row_in_turn.Goals as goal

pub side_at-w-requires-clause-fits : goal.side_at-w-requires-clause-fits
side_at-w-requires-clause-fits c = grind (arith, level_fits)

pub side_at-h-requires-clause-fits : goal.side_at-h-requires-clause-fits
side_at-h-requires-clause-fits c = grind (arith, level_fits)

pub row_of_level-row-requires : goal.row_of_level-row-requires
row_of_level-row-requires c = grind (arith, level_fits)

pub loop-level-preserved : goal.loop-level-preserved
loop-level-preserved c = grind (arith, one_level)

pub returns : goal.returns
returns c =
    let n = c.args.nesting in
    all_turned n.levels c.loop-level.level n.w n.h c.args.x c.loop-level.row _
    (omega arith) c.loop-level.invariant
