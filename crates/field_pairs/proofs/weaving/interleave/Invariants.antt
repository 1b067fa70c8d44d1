use Rattle.std.proofs.Common.{◌≡◌, ◌*◌}
use Rattle.vc_types.specs.Rasters.{raster}
use Rattle.field_pairs.proofs.Fields.{field_row}
use Rattle.field_pairs.proofs.weaving.interleave.Given as goal

abbrev pub invariant-loop-row : goal.invariant-loop-row
invariant-loop-row l = l.samples.items ≡ raster l.even.width (2 * l.row) (field_row l.even l.odd)
