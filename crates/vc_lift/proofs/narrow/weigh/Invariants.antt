use Rattle.std.proofs.Common.{◌≡◌, ◌*◌, ◌<◌, ◌≤◌, ℕ, length, take, unsigned_abs, pos, ◌*ℤ◌, slice_index_or}
use Rattle.std.specs.List.{sum_by}
use Rattle.vc_lift.specs.CountedSteps.{place_met, sum_below}
use Rattle.vc_lift.specs.Halves.{line_in}
use Rattle.vc_lift.specs.Steps.{counted_of}
use Rattle.vc_lift.proofs.narrow.weigh.Given as goal

abbrev pub invariant-loop-j : goal.invariant-loop-j
invariant-loop-j l = record {
  value : l.sum ≡ sum_below l.j
      (λ j. slice_index_or l.step.taps.now j (pos 0) *ℤ line_in l.halves l.cells l.x
      (place_met (counted_of l.step) l.halves.half l.n j));
  bound : (m : ℕ) → ((j : ℕ) → j < length l.step.taps.now
      → unsigned_abs (line_in l.halves l.cells l.x (place_met (counted_of l.step) l.halves.half l.n j)) ≤ m)
      → unsigned_abs l.sum ≤ sum_by unsigned_abs (take l.j l.step.taps.now) * m;
}
