use Rattle.std.proofs.Common.{rules, ◌*◌}
use Rattle.vc_types.specs.Wavelets.{analysed}
use Rattle.vc_wave.proofs.NarrowColumns.{column_lines, column_narrow, columns_made}
use Rattle.vc_wave.proofs.Weaving.{analysis_pass}
use Rattle.vc_wave.proofs.narrow_analysis.part_columns.Goals as goal

pub analyse_narrow-requires-clause-lines : goal.analyse_narrow-requires-clause-lines
analyse_narrow-requires-clause-lines c = search (rules, column_lines)

pub analyse_narrow-requires-clause-narrow : goal.analyse_narrow-requires-clause-narrow
analyse_narrow-requires-clause-narrow c = search (rules, column_narrow)

pub returns : goal.returns
returns c =
    let l = c.args.level in
    columns_made (analysed l.wavelets.down (2 * l.h)) l.pitch (2 * l.w) l.h
    (analysis_pass l.wavelets.down l.h).past c.args.cells.now
    c.analyse_narrow.new.cells c.requires.across
    (record { on = c.analyse_narrow.ensures.on; off = c.analyse_narrow.ensures.off })
