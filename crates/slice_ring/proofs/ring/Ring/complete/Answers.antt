use Rattle.std.proofs.Common.{rules, ◌<◌, length, sym}
use Rattle.std.proofs.lemmas.List.{get_or_read}
use Rattle.machine_model.specs.Places.{unused_place}
use Rattle.slice_ring.proofs.RingSteps.{complete_done, complete_same, complete_stale, completed_ring}
use Rattle.slice_ring.proofs.ring.Ring.complete.Goals as goal

pub invariant_of-self : goal.invariant_of-self
invariant_of-self c =
    let inside : c.args.place < length c.self.inside.places.items = search rules in
    let read = get_or_read _ _ _ inside c.index_mut.ensures.value unused_place in
    completed_ring c.self.inside.places.items c.args.place c.args.serial c.args.done c.complete.result c.index_mut.result.now c.complete.new.self read c.complete.ensures.answer c.complete.ensures.done c.complete.ensures.unchanged c.self.invariant

pub returns-clause-completed : goal.returns-clause-completed
returns-clause-completed c =
    let inside : c.args.place < length c.self.inside.places.items = search rules in
    let read = get_or_read _ _ _ inside c.index_mut.ensures.value unused_place in
    rw (sym c.self.view_is) (complete_done c.self.inside.places.items c.args.place c.args.serial c.args.done c.complete.result c.index_mut.result.now c.complete.new.self read c.complete.ensures.answer c.complete.ensures.done c.complete.ensures.unchanged)

pub returns-clause-stale : goal.returns-clause-stale
returns-clause-stale c =
    let inside : c.args.place < length c.self.inside.places.items = search rules in
    let read = get_or_read _ _ _ inside c.index_mut.ensures.value unused_place in
    rw (sym c.self.view_is) (complete_stale c.self.inside.places.items c.args.place c.args.serial c.args.done c.complete.result c.index_mut.result.now c.complete.new.self read c.complete.ensures.answer c.complete.ensures.done c.complete.ensures.unchanged)

pub returns-clause-unchanged : goal.returns-clause-unchanged
returns-clause-unchanged c =
    let inside : c.args.place < length c.self.inside.places.items = search rules in
    let read = get_or_read _ _ _ inside c.index_mut.ensures.value unused_place in
    rw (sym c.self.view_is) (complete_same c.self.inside.places.items c.args.place c.args.serial c.args.done c.complete.result c.index_mut.result.now c.complete.new.self read c.complete.ensures.answer c.complete.ensures.done c.complete.ensures.unchanged)
