use Rattle.std.proofs.Common.{rules, ◌+◌, ◌*◌, ℤ, arith, ap, ◌∙◌}
use Rattle.std.specs.Prelude.{if◌then◌else◌}
use Rattle.std.proofs.lemmas.Int.{to_z-of_z}
use Rattle.vc_types.specs.Transforms.{doubled}
use Rattle.vc_wave.specs.Lines.{row_from}
use Rattle.vc_wave.proofs.RowHalves.{low_more, high_more, halves_off, unwoven}
use Rattle.vc_wave.proofs.narrow_analysis.unweave.Goals as goal

pub loop-k-preserved : goal.loop-k-preserved
loop-k-preserved c = search (rules, to_z-of_z, low_more, high_more, halves_off)

pub returns : goal.returns
returns c =
    let ready = λ (z : ℤ). if c.args.shifted then doubled z else z in
    record {
      on = unwoven c.args.start c.args.half c.args.shifted (row_from c.args.cells.now c.args.start) c.loop-k.cells
          (λ k h. c.loop-k.invariant.even k (omega arith) ∙ ap ready (c.copy_row.ensures (2 * k) (omega arith)))
          (λ k h.
          c.loop-k.invariant.odd k (omega arith) ∙ ap ready (c.copy_row.ensures (2 * k + 1) (omega arith)));
      off = c.loop-k.invariant.off;
    }
