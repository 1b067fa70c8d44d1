use Rattle.std.proofs.Common.{◌≡◌, ◌+◌, ◌*◌, ◌<◌, ◌≤◌, ℕ}
use Rattle.vc_types.specs.Lifting.{line_of}
use Rattle.vc_types.specs.Wavelets.{is_shifted}
use Rattle.vc_wave.specs.declared.pass.Direction.TheVariants.{Synthesis}
use Rattle.vc_wave.specs.Planes.{plane_of}
use Rattle.vc_wave.specs.Remade.{remade}
use Rattle.vc_wave.proofs.lower.keep_rows.Given as goal

abbrev pub invariant-loop-y : goal.invariant-loop-y
invariant-loop-y l = record {
  kept : (x t : ℕ) → x < 2 * l.rows.half → t < l.y
      → line_of l.out ((l.span.at + t) * (2 * l.rows.half) + x)
      ≡ remade Synthesis l.rows.wavelet (is_shifted l.rows.wavelet) l.rows.half
      (λ k. plane_of l.rows.pitch l.initial.cells k (l.span.first + t)) x;
  left : (i : ℕ) → (l.span.first + l.y) * l.rows.pitch ≤ i → line_of l.cells i ≡ line_of l.initial.cells i;
  above : (i : ℕ) → i < l.span.at * (2 * l.rows.half) → line_of l.out i ≡ line_of l.initial.out i;
}
