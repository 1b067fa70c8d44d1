use Rattle.std.proofs.Common.{◌≡◌, ◌+◌, ◌*◌, ◌<◌, ◌≤◌, ℕ, slice_index_or}
use Rattle.vc_types.specs.Lifting.{line_of}
use Rattle.vc_types.specs.Planes.{output_sample}
use Rattle.vc_types.specs.Wavelets.{is_shifted}
use Rattle.vc_wave.specs.declared.pass.Direction.TheVariants.{Synthesis}
use Rattle.vc_wave.specs.Planes.{plane_of}
use Rattle.vc_wave.specs.Remade.{remade}
use Rattle.vc_wave.proofs.output.put_rows.Given as goal

abbrev pub invariant-loop-y : goal.invariant-loop-y
invariant-loop-y l = record {
  put : (x t : ℕ) → x < l.format.columns → t < l.y
      → slice_index_or l.samples ((l.span.at + t) * l.format.columns + x) 0
      ≡ output_sample l.format.depth
      (remade Synthesis l.rows.wavelet (is_shifted l.rows.wavelet) l.rows.half
      (λ k. plane_of l.rows.pitch l.initial.cells k (l.span.first + t)) x);
  left : (i : ℕ) → (l.span.first + l.y) * l.rows.pitch ≤ i → line_of l.cells i ≡ line_of l.initial.cells i;
  above : (i : ℕ) → i < l.span.at * l.format.columns
      → slice_index_or l.samples i 0 ≡ slice_index_or l.initial.samples i 0;
}
