use Rattle.std.proofs.Common.{◌≡◌, ◌^◌, ◌<◌, ℕ, unsigned_abs}
use Rattle.vc_lift.specs.Columns.{column_of}
use Rattle.vc_wave.specs.Lines.{line_at}
use Rattle.vc_wave.specs.Remade.{half_place}
use Rattle.vc_wave.proofs.long.gather.Given as goal

abbrev pub invariant-loop-k : goal.invariant-loop-k
invariant-loop-k l = record {
  value : (x j : ℕ) → x < l.lines.width → j < l.k
      → column_of l.lines.width l.block x j ≡ line_at l.cells l.lines x (half_place l.lines.half j);
  small : (x j : ℕ) → x < l.lines.width → j < l.k
      → unsigned_abs (line_at l.cells l.lines x (half_place l.lines.half j)) < 2 ^ 64;
}
