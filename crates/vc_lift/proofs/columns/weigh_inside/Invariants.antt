use Rattle.std.proofs.Common.{◌≡◌, ◌*◌, ◌^◌, ◌≤◌, take, unsigned_abs, pos, ◌*ℤ◌, slice_index_or}
use Rattle.std.specs.List.{sum_by}
use Rattle.vc_lift.specs.CountedSteps.{place_met, sum_below}
use Rattle.vc_lift.specs.Columns.{column_of}
use Rattle.vc_lift.specs.Steps.{counted_of}
use Rattle.vc_lift.proofs.columns.weigh_inside.Given as goal

abbrev pub invariant-loop-j : goal.invariant-loop-j
invariant-loop-j l = record {
  value : l.sum ≡ sum_below l.j
      (λ j. slice_index_or l.step.taps.now j (pos 0) *ℤ column_of l.columns.width l.cells l.x
      (place_met (counted_of l.step) l.columns.half l.n j));
  bound : unsigned_abs l.sum ≤ sum_by unsigned_abs (take l.j l.step.taps.now) * 2 ^ 112;
}
