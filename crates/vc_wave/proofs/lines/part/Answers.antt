use Rattle.std.proofs.Common.{◌*◌, ◌^◌, arith, ap, sym, ◌∙◌}
use Rattle.vc_types.specs.Transforms.{source_of, doubled}
use Rattle.vc_types.specs.Wavelets.{analysed}
use Rattle.vc_wave.specs.Lines.{line_at}
use Rattle.vc_wave.specs.Remade.{on_samples}
use Rattle.vc_wave.proofs.PlaneLines.{rearranged_in}
use Rattle.vc_wave.proofs.Weaving.{half_place-source_of, source_below}
use Rattle.vc_wave.proofs.Copies.{all_of_block, parted_column, doubled_small}
use Rattle.vc_wave.proofs.lines.part.Goals as goal

pub double-requires : goal.double-requires
double-requires c =
    let lines = c.args.lines.now in
    all_of_block (2 ^ 126) lines.half lines.width c.gather.new.block (omega arith)
    (λ x k h lt. rw (c.gather.ensures x k h lt)
    (let small = c.requires.small x k h lt in omega (arith, small)))

pub analyse_columns-requires-clause-small : goal.analyse_columns-requires-clause-small
analyse_columns-requires-clause-small c =
    let lines = c.args.lines.now in
    all_of_block (2 ^ 108) lines.half lines.width c.double.new.samples (omega arith)
    (λ x k h lt. doubled_small lines.half lines.width c.args.pass.shifted
    (line_at c.args.cells.now lines x) c.gather.new.block c.double.new.samples x h (omega arith)
    (λ j. c.gather.ensures x j h) c.double.ensures (2 ^ 107) (λ j. c.requires.small x j h) k lt)

pub returns : goal.returns
returns c = record {
  on = λ x k h lt.
      let lines = c.args.lines.now in
      let half = lines.half in
      let line = line_at c.args.cells.now lines x in
      let j = source_of half k in
      let below = source_below half k lt in
      ap (line_at c.scatter.new.cells lines x) (sym (half_place-source_of half k lt))
      ∙ c.scatter.ensures.on x j h below
      ∙ parted_column half lines.width c.args.pass.shifted line c.gather.new.block c.double.new.samples x h
      (omega arith) (λ i. c.gather.ensures x i h) c.double.ensures
      c.args.pass.wavelet c.analyse_columns.new.cells (c.analyse_columns.ensures.value x h) j below
      ∙ sym (rearranged_in (2 * half) (source_of half)
      (analysed c.args.pass.wavelet (2 * half)
      (on_samples doubled c.args.pass.shifted (2 * half) line)) k lt);
  off = c.scatter.ensures.off;
}
