use Rattle.std.proofs.Common.{◌≡◌, take}
use Rattle.picture_build.proofs.long.numbers_of.Given as goal

abbrev pub invariant-loop-at : goal.invariant-loop-at
invariant-loop-at l = l.numbers.items ≡ take l.at l.cells
