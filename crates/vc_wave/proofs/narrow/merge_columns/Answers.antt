use Rattle.std.proofs.Common.{rules, ◌*◌}
use Rattle.vc_types.specs.Wavelets.{synthesised}
use Rattle.vc_wave.proofs.NarrowColumns.{column_lines, column_narrow, columns_made}
use Rattle.vc_wave.proofs.Weaving.{synthesis_pass}
use Rattle.vc_wave.proofs.narrow.merge_columns.Goals as goal

pub synth_narrow-requires-clause-lines : goal.synth_narrow-requires-clause-lines
synth_narrow-requires-clause-lines c = search (rules, column_lines)

pub synth_narrow-requires-clause-narrow : goal.synth_narrow-requires-clause-narrow
synth_narrow-requires-clause-narrow c = search (rules, column_narrow)

pub returns : goal.returns
returns c =
    let l = c.args.level in
    columns_made (synthesised l.wavelets.down (2 * l.h)) l.pitch (2 * l.w) l.h
    (synthesis_pass l.wavelets.down l.h).past c.args.cells.now
    c.synth_narrow.new.cells c.requires.across
    (record { on = c.synth_narrow.ensures.on; off = c.synth_narrow.ensures.off })
