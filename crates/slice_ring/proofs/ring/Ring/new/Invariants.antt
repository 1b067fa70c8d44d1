use Rattle.std.proofs.Common.{◌≡◌}
use Rattle.machine_model.specs.Places.{unused_places}
use Rattle.slice_ring.proofs.ring.Ring.new.Given as goal

abbrev pub invariant-loop : goal.invariant-loop
invariant-loop l = l.made.items ≡ unused_places l.counter
