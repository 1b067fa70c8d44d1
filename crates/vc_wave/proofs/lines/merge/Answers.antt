use Rattle.std.proofs.Common.{◌+◌, ◌*◌, ◌^◌, ◌<◌, length, arith, ap, sym, ◌∙◌}
use Rattle.std.specs.Prelude.{if◌then◌else◌}
use Rattle.vc_types.specs.Transforms.{halved}
use Rattle.vc_wave.proofs.Weaving.{half_place_below}
use Rattle.vc_wave.specs.Lines.{line_at}
use Rattle.vc_wave.specs.Remade.{half_place, merged}
use Rattle.vc_wave.proofs.Copies.{block_inside, all_of_block, merged_column, made_below}
use Rattle.vc_wave.proofs.PlaneLines.{on_samples_in}
use Rattle.vc_wave.proofs.lines.merge.Goals as goal

pub synth_columns-requires-clause-small : goal.synth_columns-requires-clause-small
synth_columns-requires-clause-small c =
    let lines = c.args.lines.now in
    all_of_block (2 ^ 108) lines.half lines.width c.gather.new.block (omega arith)
    (λ x k h lt. rw (c.gather.ensures x k h lt)
    (let small = c.requires.small x (half_place lines.half k) h (half_place_below lines.half k lt) in
    omega (arith, small)))

pub halve-requires : goal.halve-requires
halve-requires c =
    let lines = c.args.lines.now in
    all_of_block (2 ^ 126) lines.half lines.width c.synth_columns.new.cells (omega arith)
    (λ x k h lt. (let small = made_below c.args.pass.wavelet lines.half lines.width
    (line_at c.args.cells.now lines x) c.gather.new.block c.synth_columns.new.cells x
    (λ j. c.gather.ensures x j h) (c.synth_columns.ensures.value x h) (2 ^ 107) (omega arith)
    (λ j. c.requires.small x j h) k lt in omega (arith, small)))

pub returns : goal.returns
returns c = record {
  on = λ x k h lt.
      let lines = c.args.lines.now in
      let within : k * lines.width + x < length c.synth_columns.new.cells =
      (let inside = block_inside lines.half lines.width k (length c.synth_columns.new.cells) lt
      (omega arith) in omega (arith, inside)) in
      c.scatter.ensures.on x k h lt
      ∙ c.halve.ensures (k * lines.width + x) within
      ∙ ap (λ z. if c.args.pass.shifted then halved z else z)
      (merged_column c.args.pass.wavelet lines.half lines.width
      (line_at c.args.cells.now lines x) c.gather.new.block c.synth_columns.new.cells x
      (λ j. c.gather.ensures x j h) (c.synth_columns.ensures.value x h) k lt)
      ∙ sym (on_samples_in halved c.args.pass.shifted (2 * lines.half)
      (merged c.args.pass.wavelet lines.half (line_at c.args.cells.now lines x)) k lt);
  off = c.scatter.ensures.off;
}
