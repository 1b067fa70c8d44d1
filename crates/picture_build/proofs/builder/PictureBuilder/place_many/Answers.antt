use Rattle.picture_build.proofs.WaitingRuns.{all-placed, seen-all}
use Rattle.picture_build.proofs.builder.PictureBuilder.place_many.Goals as goal

pub invariant_of-self : goal.invariant_of-self
invariant_of-self g c =
    let s = c.self.inside in
    all-placed s.placed s.runs s.came.items c.self.invariant c.args.self.now c.self.view_is
    c.place_waiting_joined.new.placed c.place_waiting_joined.ensures.placed c.place_waiting_joined.new.runs c.place_waiting_joined.ensures.none

pub returns : goal.returns
returns g c =
    let s = c.self.inside in
    record {
      unchanged = seen-all s.placed s.runs s.came.items c.self.invariant c.args.self.now c.self.view_is
          c.place_waiting_joined.new.placed c.place_waiting_joined.ensures.placed c.place_waiting_joined.new.runs c.place_waiting_joined.ensures.none;
    }
