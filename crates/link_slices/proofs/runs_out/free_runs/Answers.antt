use Rattle.std.proofs.Common.{◌∙◌, refl, sym}
use Rattle.link_slices.proofs.Growing.{grows_none, grows_twice}
use Rattle.link_slices.proofs.OutSlices.{below_at, places_same, places_more}
use Rattle.link_slices.proofs.runs_out.free_runs.Goals as goal
use Rattle.link_slices.proofs.runs_out.free_runs.Goals.{then-not-is_of_other, else-not-is_of_other}

pub loop-run-init : goal.loop-run-init
loop-run-init g c = record { told = grows_none _; bound = refl }

pub loop-run-preserved : goal.loop-run-preserved
loop-run-preserved g c = elim c.if-not-is_of_other.branch [
  | then-not-is_of_other w ↦
      let more = places_more c.args.number c.args.runs.now c.loop-run.run-index
      c.run-item.result c.loop-run-test.true c.run-item.is
      (sym c.is_of_other.ensures ∙ w.if-not-is_of_other.true) in
      rw (w.places-is, more) (record {
        told = grows_twice _ _ _ _ _ c.loop-run.invariant.told
            (rw (sym w.place.ensures) w.free_place.ensures.told);
        bound = w.free_place.ensures.bound ∙ c.loop-run.invariant.bound;
      })
  | else-not-is_of_other w ↦
      let same = places_same c.args.number c.args.runs.now c.loop-run.run-index
      c.run-item.result c.loop-run-test.true c.run-item.is
      (sym c.is_of_other.ensures ∙ w.if-not-is_of_other.false) in
      rw (w.places-is, same) c.loop-run.invariant
]

pub free_place-requires : goal.free_place-requires
free_place-requires g c =
    let below = below_at (g.P.Places.bound c.args.places.now) c.args.runs.now
    c.loop-run.run-index c.run-item.result c.requires.below c.loop-run-test.true in
    rw (c.place.ensures, c.loop-run.invariant.bound, c.run-item.is) below
