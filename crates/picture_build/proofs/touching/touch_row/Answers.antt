use Rattle.std.proofs.Common.{arith}
use Rattle.picture_build.proofs.touching.touch_row.Goals as goal

pub new-run-requires-clause-run : goal.new-run-requires-clause-run
new-run-requires-clause-run c = record { in_plan = c.requires.slice; in_row = omega (arith, c.if-index-plan-gt0.false) }
