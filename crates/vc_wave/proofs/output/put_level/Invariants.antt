use Rattle.std.proofs.Common.{◌≡◌, ◌+◌, ◌-◌, ◌*◌, ◌<◌, ◌≤◌, ℕ, slice_index_or}
use Rattle.vc_types.specs.Planes.{output_sample}
use Rattle.vc_types.specs.Transforms.{inverse_level}
use Rattle.vc_wave.specs.Parts.{subbands_of}
use Rattle.vc_wave.proofs.output.put_level.Given as goal

abbrev pub invariant-loop-pair : goal.invariant-loop-pair
invariant-loop-pair l = record {
  put : (x y : ℕ) → x < l.format.columns → y < 2 * (l.pair - l.above) → y < l.format.rows
      → slice_index_or l.samples (y * l.format.columns + x) 0
      ≡ output_sample l.format.depth (inverse_level l.level.wavelets.down l.level.wavelets.across l.level.w
      l.level.h (subbands_of l.subbands) x (2 * l.above + y));
  inside : l.pair ≤ l.level.h;
  below : l.above ≤ l.pair;
}

abbrev pub decreases-loop-pair : goal.decreases-loop-pair
decreases-loop-pair l = 2 * l.above + l.format.rows - 2 * l.pair
