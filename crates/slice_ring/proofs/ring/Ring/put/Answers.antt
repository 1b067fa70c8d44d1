use Rattle.std.proofs.Common.{rules, ◌+◌, ◌≡◌, ◌∙◌, ap, sym, subst, slice_set, position, Some, None}
use Rattle.std.proofs.lemmas.List.{get_or_read}
use Rattle.machine_model.specs.Places.{Offered, JobPlace, is_free, has_slice, unused_place}
use Rattle.slice_ring.proofs.RingSteps.{put_free, put_ring, put_legal, free_inside}
use Rattle.link_slices.specs.Jobs.{job_of}
use Rattle.slice_ring.specs.Rings.{IsRing}
use Rattle.slice_ring.proofs.ring.Ring.put.Goals as goal

pub put-requires : goal.put-requires
put-requires c =
    let free : position is_free c.self.inside.places.items ≡ Some c.in-Some-free_place.place = search rules in
    let read = get_or_read _ _ _ (free_inside _ _ free) c.index_mut.ensures.value unused_place in
    record { free = ap is_free read ∙ put_free c.self.inside.places.items c.in-Some-free_place.place free }

pub invariant_of-self : goal.invariant_of-self
invariant_of-self c =
    let free : position is_free c.self.inside.places.items ≡ Some c.in-Some-free_place.place = search rules in
    let nowhere : position (has_slice c.args.job.number c.args.job.index) c.self.inside.places.items ≡ None = search rules in
    let read = get_or_read _ _ _ (free_inside _ _ free) c.index_mut.ensures.value unused_place in
    subst (λ (p : JobPlace). IsRing (slice_set c.self.inside.places.items c.in-Some-free_place.place p))
    (sym (c.put.ensures ∙ ap (λ (p : JobPlace). (let q : JobPlace = record { serial = p.serial + 1; content = Offered (job_of c.args.job) } in q)) read))
    (put_ring _ c.self.invariant (job_of c.args.job) _ nowhere)

pub returns-clause-legal : goal.returns-clause-legal
returns-clause-legal c =
    let free : position is_free c.self.inside.places.items ≡ Some c.in-Some-free_place.place = search rules in
    let nowhere : position (has_slice c.args.job.number c.args.job.index) c.self.inside.places.items ≡ None = search rules in
    rw (sym c.self.view_is) (put_legal _ (job_of c.args.job) nowhere _ free)
