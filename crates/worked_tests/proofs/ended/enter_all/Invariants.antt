use Rattle.link_slices.specs.Calls.{PlacesAreBelow}
use Rattle.worked_tests.proofs.ended.enter_all.Given as goal

abbrev pub invariant-loop-payload : goal.invariant-loop-payload
invariant-loop-payload g l = PlacesAreBelow 1 l.receiver.reception.out
