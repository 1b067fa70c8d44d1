use Rattle.std.proofs.Common.{◌≡◌, take}
use Rattle.picture_build.proofs.finishing.widened.Given as goal

abbrev pub invariant-loop-at : goal.invariant-loop-at
invariant-loop-at l = l.wide.items ≡ take l.at l.cells
