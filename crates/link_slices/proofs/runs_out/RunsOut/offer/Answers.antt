use Rattle.std.proofs.Common.{◌<◌, subst, sym}
use Rattle.receiver_model.specs.Receptions.{RunOut}
use Rattle.link_slices.proofs.OutSlices.{below_push}
use Rattle.link_slices.proofs.runs_out.RunsOut.offer.Goals as goal

pub returns-in-Ok-clause-below : goal.returns-in-Ok-clause-below
returns-in-Ok-clause-below g c =
    let bound = g.P.Places.bound c.args.places.now in
    let below : c.with_place.result.place < bound =
    subst (λ (run : RunOut). run.place < bound) (sym c.with_place.ensures) c.in-Ok.ensures.place in
    rw (c.push_reserved.ensures.items, c.reserve.ensures.items, c.self.view_is, c.put.ensures.bound)
    (below_push bound c.args.self.now c.with_place.result c.requires.below below)
