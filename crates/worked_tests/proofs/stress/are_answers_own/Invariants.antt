use Rattle.std.proofs.Common.{◌≡◌}
use Rattle.worked_tests.proofs.stress.are_answers_own.Given as goal

abbrev pub invariant-loop-number : goal.invariant-loop-number
invariant-loop-number g l = g.P.Places.bound l.places ≡ 256
