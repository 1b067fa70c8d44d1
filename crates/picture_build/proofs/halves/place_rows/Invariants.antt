use Rattle.std.proofs.Common.{◌≡◌, length}
use Rattle.vc_types.specs.Lifting.{line_of}
use Rattle.picture_build.proofs.RectRows.{RowsBefore, OthersStay}
use Rattle.picture_build.proofs.halves.place_rows.Given as goal

abbrev pub invariant-loop-y : goal.invariant-loop-y
invariant-loop-y l = record {
  on : RowsBefore l.to l.rows.top l.rows.count l.from (line_of l.numbers) l.y l.cells;
  off : OthersStay l.to l.rows.top l.rows.count l.from (line_of l.numbers) l.initial.cells l.cells;
  length : length l.cells ≡ length l.initial.cells;
}
