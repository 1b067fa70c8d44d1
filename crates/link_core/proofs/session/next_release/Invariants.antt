use Rattle.std.proofs.Common.{◌≡◌}
use Rattle.machine_model.specs.Feeders.{not_released}
use Rattle.link_model.specs.Windows.{WindowPast, StandsForPast, releasable_numbers}
use Rattle.link_core.proofs.NextReleases.{room}
use Rattle.link_core.proofs.session.next_release.Given as goal

-- what the window has released since is among those that were released
abbrev pub invariant-loop-next : goal.invariant-loop-next
invariant-loop-next l = (p : WindowPast) → StandsForPast l.fn.window p
    → (q : WindowPast) × StandsForPast l.window q
    × (not_released l.released (releasable_numbers p) ≡ not_released l.released (releasable_numbers q))

abbrev pub decreases-loop-next : goal.decreases-loop-next
decreases-loop-next l = room l.window.last_released
