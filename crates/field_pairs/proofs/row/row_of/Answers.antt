use Rattle.std.proofs.Common.{arith}
use Rattle.field_pairs.proofs.RowsOfRasters.{row_at}
use Rattle.field_pairs.proofs.row.row_of.Goals as goal

pub returns-clause-value : goal.returns-clause-value
returns-clause-value c = grind (arith, row_at)
