use Rattle.std.proofs.Common.{arith}
use Rattle.vc_wave.proofs.Levels.{level_fits, level_some}
use Rattle.vc_wave.proofs.extents.Levels.level.Goals as goal

pub side_at-requires-clause-fits : goal.side_at-requires-clause-fits
side_at-requires-clause-fits c =
    let l = c.args.self in
    omega (arith, level_fits l.nesting.w c.args.n l.nesting.levels c.requires, l.narrow)

pub side_at-requires-2-clause-fits : goal.side_at-requires-2-clause-fits
side_at-requires-2-clause-fits c =
    let l = c.args.self in
    omega (arith, level_fits l.nesting.h c.args.n l.nesting.levels c.requires, l.low)

pub invariant_of-result : goal.invariant_of-result
invariant_of-result c =
    let l = c.args.self in
    let n = c.args.n in
    let wide = level_fits l.nesting.w n l.nesting.levels c.requires in
    let high = level_fits l.nesting.h n l.nesting.levels c.requires in
    record {
      some_columns = omega (arith, level_some l.nesting.w n l.some_columns, c.side_at.ensures);
      some_rows = omega (arith, level_some l.nesting.h n l.some_rows, c.side_at-2.ensures);
      narrow = omega (arith, wide, c.side_at.ensures, l.narrow);
      low = omega (arith, high, c.side_at-2.ensures, l.low);
    }
