use Rattle.std.proofs.Common.{◌≡◌, ◌<◌, ℕ, true}
use Rattle.std.specs.Option.{is_some}
use Rattle.picture_build.specs.Kept.{slice_that_came}
use Rattle.worked_tests.proofs.building.all_came.Given as goal

abbrev pub invariant-loop-index : goal.invariant-loop-index
invariant-loop-index l = (n : ℕ) → n < l.index → is_some (slice_that_came l.builder n) ≡ true
