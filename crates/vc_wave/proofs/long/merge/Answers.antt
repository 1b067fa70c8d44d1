use Rattle.std.proofs.Common.{◌+◌, ◌*◌, ◌^◌, ◌<◌, length, arith, ap, sym, ◌∙◌}
use Rattle.std.specs.Prelude.{if◌then◌else◌}
use Rattle.vc_types.specs.Transforms.{halved}
use Rattle.vc_wave.specs.Lines.{line_at}
use Rattle.vc_wave.specs.Remade.{merged}
use Rattle.vc_wave.proofs.Copies.{block_inside, all_of_block, merged_column, made_within}
use Rattle.vc_wave.proofs.PlaneLines.{on_samples_in}
use Rattle.vc_wave.proofs.long.merge.Goals as goal

pub synth_columns-requires-clause-small : goal.synth_columns-requires-clause-small
synth_columns-requires-clause-small c =
    let lines = c.args.lines.now in
    all_of_block (2 ^ 108) lines.half lines.width c.gather.new.block (omega arith)
    (λ x k h lt. rw (c.gather.ensures.value x k h lt)
    (let small = c.gather.ensures.small x k h lt in omega (arith, small)))

pub halve-requires : goal.halve-requires
halve-requires c =
    let lines = c.args.lines.now in
    all_of_block (2 ^ 126) lines.half lines.width c.synth_columns.new.cells (omega arith)
    (λ x k h lt. (let small = made_within c.args.wavelet lines.half lines.width
    (line_at c.args.cells.now lines x) c.gather.new.block c.synth_columns.new.cells x
    (λ j. c.gather.ensures.value x j h) (c.synth_columns.ensures.value x h) (2 ^ 64) (omega arith)
    (λ j. c.gather.ensures.small x j h) k lt in omega (arith, small)))

pub returns : goal.returns
returns c = λ fits. record {
  on = λ x k h lt.
      let lines = c.args.lines.now in
      let within : k * lines.width + x < length c.synth_columns.new.cells =
      (let inside = block_inside lines.half lines.width k (length c.synth_columns.new.cells) lt
      (omega arith) in omega (arith, inside)) in
      c.scatter.ensures.on fits x k h lt
      ∙ c.halve.ensures (k * lines.width + x) within
      ∙ ap (λ z. if c.args.shifted then halved z else z)
      (merged_column c.args.wavelet lines.half lines.width
      (line_at c.args.cells.now lines x) c.gather.new.block c.synth_columns.new.cells x
      (λ j. c.gather.ensures.value x j h) (c.synth_columns.ensures.value x h) k lt)
      ∙ sym (on_samples_in halved c.args.shifted (2 * lines.half)
      (merged c.args.wavelet lines.half (line_at c.args.cells.now lines x)) k lt);
  off = c.scatter.ensures.off fits;
}
