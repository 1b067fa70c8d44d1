use Rattle.std.proofs.Common.{◌≡◌, ◌<◌, ℕ}
use Rattle.vc_lift.specs.Columns.{column_of}
use Rattle.vc_wave.specs.Lines.{line_at}
use Rattle.vc_wave.specs.Remade.{sample_place}
use Rattle.vc_wave.proofs.lines.gather.Given as goal

abbrev pub invariant-loop-k : goal.invariant-loop-k
invariant-loop-k l = (x j : ℕ) → x < l.lines.width → j < l.k
    → column_of l.lines.width l.block x j ≡ line_at l.cells l.lines x (sample_place l.apart l.lines.half j)
