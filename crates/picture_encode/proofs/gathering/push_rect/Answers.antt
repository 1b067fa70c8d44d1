use Rattle.std.proofs.Common.{◌∙◌, ap, sym, length}
use Rattle.picture_encode.proofs.Gathered.{pushed}
use Rattle.picture_encode.proofs.gathering.push_rect.Goals as goal

pub loop-row-preserved : goal.loop-row-preserved
loop-row-preserved c =
    let whole = ap length (sym c.cells-cells.ensures.value) ∙ c.cells-cells.ensures.whole in
    pushed c.args.grid.now c.args.rect.now whole c.requires.across c.requires.down c.width.result c.loop-row.row c.cells-cells.result.now _ _ _ c.width.ensures c.cells-cells.ensures.value c.loop-row-test.true c.loop-row.invariant c.in_ok-push_row.ensures
