use Rattle.std.proofs.Common.{rules, ◌<◌, length}
use Rattle.std.proofs.lemmas.List.{get_or_read}
use Rattle.machine_model.specs.Places.{unused_place}
use Rattle.slice_ring.proofs.RingSteps.{freed_ring}
use Rattle.slice_ring.proofs.ring.Ring.withdraw.Goals as goal

pub invariant_of-self : goal.invariant_of-self
invariant_of-self c =
    let inside : c.args.place < length c.self.inside.places.items = search rules in
    let read = get_or_read _ _ _ inside c.index_mut.ensures.value unused_place in
    freed_ring c.self.inside.places.items c.self.invariant c.withdraw.result c.args.place c.index_mut.result.now c.withdraw.new.self read c.withdraw.ensures.free c.withdraw.ensures.unchanged
