use Rattle.std.proofs.Common.{arith}
use Rattle.std.proofs.lemmas.Int.{ints}
use Rattle.worked_parts.proofs.reports.write_block.Goals as goal

pub write_rr-requires-clause-loss : goal.write_rr-requires-clause-loss
write_rr-requires-clause-loss c = record { least = omega (arith, ints); most = omega (arith, ints) }
