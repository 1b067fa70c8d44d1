use Rattle.std.proofs.Common.{arith}
use Rattle.vc_wave.proofs.LowCells.{corner_across}
use Rattle.vc_wave.proofs.lower.corner_across.Goals as goal

pub merge_across-requires-clause-room : goal.merge_across-requires-clause-room
merge_across-requires-clause-room c = record {
  across = omega (arith, c.requires.pitch);
  down = omega (arith, c.requires.cells, c.copy_corner.auto.cells);
  row = omega (arith, c.requires.pitch, c.requires.line);
  side_by_side = omega arith;
}

pub merge_across-requires-clause-within : goal.merge_across-requires-clause-within
merge_across-requires-clause-within c = λ i. omega (arith, c.greatest.ensures i, c.from-most.ensures)

pub returns : goal.returns
returns c = λ whole.
    let rows = c.args.rows in
    corner_across rows.wavelet c.args.levels rows.half rows.count c.args.stride rows.pitch c.merge_across.new.cells
    c.copy_corner.new.cells c.args.nested.now c.requires.pitch c.copy_corner.ensures
    (rw c.in-Some.is at c.merge_across.ensures.made)
