use Rattle.std.proofs.Common.{◌≡◌, ◌≢◌, ◌+◌, ◌*◌, ◌<◌, ℕ}
use Rattle.vc_types.specs.Lifting.{line_of}
use Rattle.vc_lift.specs.Columns.{column_of}
use Rattle.vc_wave.specs.Lines.{line_at}
use Rattle.vc_wave.proofs.long.scatter.Given as goal

abbrev pub invariant-loop-k : goal.invariant-loop-k
invariant-loop-k l = record {
  on : (x j : ℕ) → x < l.lines.width → j < l.k
      → line_at l.cells l.lines x j ≡ column_of l.lines.width l.block x j;
  off : (i : ℕ) → ((x j : ℕ) → x < l.lines.width → j < 2 * l.lines.half
      → i ≢ l.lines.start + j * l.lines.step + x) → line_of l.cells i ≡ line_of l.initial.cells i;
}
