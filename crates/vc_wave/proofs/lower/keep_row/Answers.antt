use Rattle.std.proofs.Common.{rules, sym, ◌∙◌}
use Rattle.vc_wave.proofs.RowHalves.{synthesis_narrow, shift_room, sample_value, row_beside}
use Rattle.vc_wave.proofs.lower.keep_row.Goals as goal

pub synth_narrow-requires-clause-narrow : goal.synth_narrow-requires-clause-narrow
synth_narrow-requires-clause-narrow c = search (rules, synthesis_narrow)

pub weave_over-requires-clause-small : goal.weave_over-requires-clause-small
weave_over-requires-clause-small c = λ h.
    shift_room c.args.start c.args.half c.args.wavelet c.requires.some.0 c.args.cells.now c.requires.bound
    c.synth_narrow.new.cells c.synth_narrow.ensures.on (sym c.is_shifted.ensures ∙ h)

pub returns-clause-on : goal.returns-clause-on
returns-clause-on c = λ k h.
    c.weave_over.ensures.on k h
    ∙ (rw c.is_shifted.ensures
    (sample_value c.args.start c.args.half c.args.wavelet c.requires.some.0 c.args.cells.now c.requires.bound
    c.synth_narrow.new.cells c.synth_narrow.ensures.on k h))

pub returns-clause-beside : goal.returns-clause-beside
returns-clause-beside c =
    row_beside c.args.start c.args.half c.args.cells.now c.synth_narrow.new.cells c.synth_narrow.ensures.off
