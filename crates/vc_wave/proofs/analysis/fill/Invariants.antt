use Rattle.std.proofs.Common.{◌≡◌, ◌+◌, ◌*◌, ◌<◌, ℕ}
use Rattle.vc_types.specs.Lifting.{line_of}
use Rattle.vc_wave.specs.Samples.{padded_sample}
use Rattle.vc_wave.proofs.analysis.fill.Given as goal

abbrev pub invariant-loop-y : goal.invariant-loop-y
invariant-loop-y l = (x y : ℕ) → x < l.columns → y < l.y
    → line_of l.cells (y * l.columns + x) ≡ padded_sample l.plane l.depth x y

abbrev pub invariant-loop-x : goal.invariant-loop-x
invariant-loop-x l = record {
  above : (x y : ℕ) → x < l.columns → y < l.y
      → line_of l.cells (y * l.columns + x) ≡ padded_sample l.plane l.depth x y;
  row : (x : ℕ) → x < l.x → line_of l.cells (l.y * l.columns + x) ≡ padded_sample l.plane l.depth x l.y;
}
