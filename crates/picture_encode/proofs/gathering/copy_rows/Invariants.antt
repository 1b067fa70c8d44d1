use Rattle.std.proofs.Common.{◌≡◌, ◌+◌, ◌*◌, ◌<◌, ◌≤◌, ◌⊎◌, ℕ}
use Rattle.vc_types.specs.Lifting.{line_of}
use Rattle.picture_encode.proofs.CopiedSlices.{cell_there}
use Rattle.picture_encode.proofs.gathering.copy_rows.Given as goal

abbrev pub invariant-loop-row : goal.invariant-loop-row
invariant-loop-row l = record {
  on : (t x : ℕ) → t < l.row → x < l.source.rect.width → line_of l.coeffs (l.from + t * l.source.rect.width + x) ≡ cell_there l.source.cells.now l.source.stride l.from l.source.rows.first l.source.rows.step l.source.rect t x;
  off : (i : ℕ) → (i < l.from) ⊎ (l.from + l.row * l.source.rect.width ≤ i) → line_of l.coeffs i ≡ line_of l.initial.coeffs i;
}
