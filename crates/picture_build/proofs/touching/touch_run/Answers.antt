use Rattle.std.proofs.Common.{◌+◌, length, refl}
use Rattle.picture_build.proofs.RowsWithin.{rows_within}
use Rattle.picture_build.proofs.touching.touch_run.Goals as goal

pub touch-seen-requires : goal.touch-seen-requires
touch-seen-requires c =
    let r = c.rect-rect.result in
    rows_within (r.y + r.height) c.padded-width.result.0 _ _ (length c.args.cells.now) (length c.args.cells.now)
    c.rect-rect.ensures.bottom c.padded-width.ensures.width c.requires refl
