use Rattle.std.proofs.Common.{sym, ◌∙◌}
use Rattle.vc_wave.specs.Lines.{row_from}
use Rattle.vc_wave.proofs.RowHalves.{double_room, analysis_narrow, row_parted, row_beside}
use Rattle.vc_wave.proofs.narrow_analysis.part_row.Goals as goal

pub unweave-requires-clause-small : goal.unweave-requires-clause-small
unweave-requires-clause-small c = λ h.
    let b = c.requires.bound in
    double_room c.args.start c.args.half c.args.wavelet c.requires.some.0 (row_from c.args.cells.now c.args.start)
    b.most b.after b.fits b.small (sym c.is_shifted.ensures ∙ h)

pub analyse_narrow-requires-clause-narrow : goal.analyse_narrow-requires-clause-narrow
analyse_narrow-requires-clause-narrow c =
    let b = c.requires.bound in
    analysis_narrow c.args.start c.args.half c.args.wavelet c.requires.some.0
    (row_from c.args.cells.now c.args.start) b.most b.after b.fits b.small c.unweave.new.cells
    (rw c.is_shifted.ensures at c.unweave.ensures.on)

pub returns : goal.returns
returns c =
    let b = c.requires.bound in
    record {
      on = row_parted c.args.start c.args.half c.args.wavelet c.requires.some.0
          (row_from c.args.cells.now c.args.start) b.most b.after b.fits b.small c.unweave.new.cells
          (rw c.is_shifted.ensures at c.unweave.ensures.on) c.analyse_narrow.new.cells c.analyse_narrow.ensures.on;
      off = λ i out.
          row_beside c.args.start c.args.half c.unweave.new.cells c.analyse_narrow.new.cells
          c.analyse_narrow.ensures.off i out
          ∙ c.unweave.ensures.off i out;
    }
