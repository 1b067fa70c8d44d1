use Rattle.std.proofs.Common.{◌≡◌, ◌+◌, ◌*◌, ◌<◌, ℕ, slice_index_or}
use Rattle.vc_types.specs.Planes.{output_sample}
use Rattle.vc_types.specs.Rasters.{cell_at}
use Rattle.picture_build.proofs.output.output_rows.Given as goal

abbrev pub invariant-loop-y : goal.invariant-loop-y
invariant-loop-y l = (x y : ℕ) → x < l.columns → y < l.y → slice_index_or l.samples (y * l.columns + x) 0 ≡ output_sample l.depth (cell_at l.grid x y)
