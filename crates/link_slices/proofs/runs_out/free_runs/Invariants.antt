use Rattle.std.proofs.Common.{◌≡◌, take}
use Rattle.link_slices.specs.Calls.{places_of_picture, freeing}
use Rattle.vc_slice.specs.Asked.{Grows}
use Rattle.link_slices.proofs.runs_out.free_runs.Given as goal

abbrev pub invariant-loop-run : goal.invariant-loop-run
invariant-loop-run g l = record {
  told : Grows (g.P.Places.told l.fn.places) (g.P.Places.told l.places)
      (freeing (places_of_picture l.number (take l.run-index l.runs)));
  bound : g.P.Places.bound l.places ≡ g.P.Places.bound l.fn.places;
}
