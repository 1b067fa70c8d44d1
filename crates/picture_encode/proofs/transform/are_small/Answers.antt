use Rattle.std.proofs.Common.{ℤ, pos, w32, FitsSigned, slice_index_or, ◌<◌, ◌^◌, unsigned_abs, rules, arith}
use Rattle.std.proofs.lemmas.List.Elements.{All-from_get_or}
use Rattle.vc_types.specs.Lifting.{line_of}
use borrow.Author.Count.{below_more}
use Rattle.picture_encode.proofs.PushedNumbers.{small_number}
use Rattle.picture_encode.proofs.transform.are_small.Goals as goal

pub loop-cell-preserved : goal.loop-cell-preserved
loop-cell-preserved c =
    let cells = c.args.cells.now in
    let at = c.loop-cell.cell-index in
    let fits : FitsSigned w32 (slice_index_or cells at (pos 0)) = search rules in
    below_more (λ i. unsigned_abs (line_of cells i) < 2 ^ 60) at c.loop-cell.invariant (small_number _ fits)

pub returns : goal.returns
returns c =
    All-from_get_or (λ (z : ℤ). unsigned_abs z < 2 ^ 60) c.args.cells.now (pos 0)
    (λ i h. c.loop-cell.invariant i (omega arith))
