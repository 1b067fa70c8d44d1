use Rattle.std.proofs.Common.{pos, slice_index_or, ◌++◌, ◌∙◌, ap}
use Rattle.std.proofs.lemmas.List.{take_all}
use Rattle.picture_encode.proofs.PushedNumbers.{pushed_more, small_cast, small_fits}
use Rattle.picture_encode.proofs.gathering.push_row.Goals as goal

pub overflow_cast-cell : goal.overflow_cast-cell
overflow_cast-cell c = small_fits (slice_index_or c.args.cells.now c.loop-cell.cell-index (pos 0))
    (c.requires.small c.loop-cell.cell-index (pos 0) c.loop-cell-test.true)

pub loop-cell-preserved : goal.loop-cell-preserved
loop-cell-preserved c =
    let at = c.loop-cell.cell-index in
    pushed_more c.args.coeffs.now.items c.args.cells.now _ _ at _ c.loop-cell-test.true c.loop-cell.invariant
    c.in_ok-push.ensures.items (small_cast _ (c.requires.small at (pos 0) c.loop-cell-test.true))

pub returns : goal.returns
returns c =
    c.loop-cell.invariant
    ∙ ap (λ l. c.args.coeffs.now.items ++ l) (take_all c.loop-cell.cell-index c.args.cells.now c.loop-cell-test.false)
