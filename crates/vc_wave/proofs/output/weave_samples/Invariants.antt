use Rattle.std.proofs.Common.{◌≡◌, ◌+◌, ◌*◌, ◌<◌, ◌≤◌, ◌⊎◌, ℕ, slice_index_or}
use Rattle.vc_types.specs.Lifting.{line_of}
use Rattle.vc_types.specs.Planes.{output_sample}
use Rattle.vc_wave.specs.Remade.{shifted_down}
use Rattle.vc_wave.proofs.output.weave_samples.Given as goal

abbrev pub invariant-loop-k : goal.invariant-loop-k
invariant-loop-k l = record {
  even : (i : ℕ) → i < l.k
      → slice_index_or l.samples (l.at + 2 * i) 0
      ≡ output_sample l.format.depth (shifted_down l.shifted (line_of l.cells (l.start + i)));
  odd : (i : ℕ) → i < l.k
      → slice_index_or l.samples (l.at + (2 * i + 1)) 0
      ≡ output_sample l.format.depth (shifted_down l.shifted (line_of l.cells (l.start + (l.half + i))));
  off : (i : ℕ) → (i < l.at) ⊎ (l.at + 2 * l.k ≤ i)
      → slice_index_or l.samples i 0 ≡ slice_index_or l.initial.samples i 0;
}
