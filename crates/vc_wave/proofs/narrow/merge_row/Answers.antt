use Rattle.std.proofs.Common.{rules, sym, ◌∙◌}
use Rattle.vc_wave.proofs.RowHalves.{synthesis_narrow, shift_room, row_merged}
use Rattle.vc_wave.proofs.narrow.merge_row.Goals as goal

pub synth_narrow-requires-clause-narrow : goal.synth_narrow-requires-clause-narrow
synth_narrow-requires-clause-narrow c = search (rules, synthesis_narrow)

pub weave-requires-clause-small : goal.weave-requires-clause-small
weave-requires-clause-small c = λ h.
    shift_room c.args.start c.args.half c.args.wavelet c.requires.some.0 c.args.cells.now c.requires.bound
    c.synth_narrow.new.cells c.synth_narrow.ensures.on (sym c.is_shifted.ensures ∙ h)

pub returns : goal.returns
returns c =
    row_merged c.args.start c.args.half c.args.wavelet c.requires.some.0 c.args.cells.now c.requires.bound
    c.synth_narrow.new.cells c.synth_narrow.ensures.on _ c.weave.new.cells c.synth_narrow.ensures.off
    (rw c.is_shifted.ensures at c.weave.ensures)
