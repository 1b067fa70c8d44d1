use Rattle.std.proofs.Common.{◌≡◌, ◌+◌, ◌*◌, ◌<◌, ℕ, slice_index_or}
use Rattle.vc_types.specs.Planes.{output_sample}
use Rattle.vc_wave.specs.Planes.{plane_of}
use Rattle.picture_build.proofs.output.clip_rows.Given as goal

abbrev pub invariant-loop-y : goal.invariant-loop-y
invariant-loop-y l = (x y : ℕ) → x < l.format.columns → y < l.y → slice_index_or l.samples (y * l.format.columns + x) 0 ≡ output_sample l.format.depth (plane_of l.stride l.cells x y)
