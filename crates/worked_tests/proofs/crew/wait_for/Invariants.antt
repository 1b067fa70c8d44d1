use Rattle.std.proofs.Common.{◌≡◌}
use Rattle.worked_tests.proofs.crew.wait_for.Given as goal

abbrev pub invariant-loop-turn : goal.invariant-loop-turn
invariant-loop-turn g l = g.P.Places.bound l.places ≡ g.P.Places.bound l.fn.places
