use Rattle.std.proofs.Common.{take}
use Rattle.picture_build.specs.Marks.{MarksRuns}
use Rattle.picture_build.proofs.marking.mark_runs.Given as goal

abbrev pub invariant-loop-run : goal.invariant-loop-run
invariant-loop-run l = MarksRuns (take l.run-index l.runs) l.initial.came.items l.came.items
