use Rattle.std.proofs.Common.{◌≡◌}
use Rattle.vc_types.specs.Rasters.{raster}
use Rattle.field_pairs.proofs.Fields.{chosen}
use Rattle.field_pairs.proofs.splitting.every_other_row.Given as goal

abbrev pub invariant-loop-row : goal.invariant-loop-row
invariant-loop-row l = l.samples.items ≡ raster l.frame.width l.row (chosen l.frame l.first)
