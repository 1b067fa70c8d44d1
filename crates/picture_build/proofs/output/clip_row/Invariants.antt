use Rattle.std.proofs.Common.{◌≡◌, ◌+◌, ◌<◌, ◌≤◌, ◌⊎◌, ℕ, slice_index_or}
use Rattle.vc_types.specs.Lifting.{line_of}
use Rattle.vc_types.specs.Planes.{output_sample}
use Rattle.picture_build.proofs.output.clip_row.Given as goal

abbrev pub invariant-loop-x : goal.invariant-loop-x
invariant-loop-x l = record {
  on : (i : ℕ) → i < l.x → slice_index_or l.samples (l.at + i) 0 ≡ output_sample l.format.depth (line_of l.cells (l.from + i));
  off : (i : ℕ) → (i < l.at) ⊎ (l.at + l.format.columns ≤ i) → slice_index_or l.samples i 0 ≡ slice_index_or l.initial.samples i 0;
}
