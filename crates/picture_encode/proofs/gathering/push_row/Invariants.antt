use Rattle.std.proofs.Common.{◌≡◌, ◌++◌, take}
use Rattle.picture_encode.proofs.gathering.push_row.Given as goal

abbrev pub invariant-loop-cell : goal.invariant-loop-cell
invariant-loop-cell l = l.coeffs.items ≡ l.initial.coeffs.items ++ take l.cell-index l.cells
