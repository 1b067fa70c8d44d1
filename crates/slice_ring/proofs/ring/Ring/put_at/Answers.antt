use Rattle.std.proofs.Common.{rules, ◌≡◌, ◌<◌, ◌+◌, ◌∙◌, ap, sym, subst, false, length, slice_set}
use Rattle.std.proofs.lemmas.List.{get_or_read}
use Rattle.machine_model.specs.Places.{JobPlace, Offered, stands_in, unused_place}
use Rattle.slice_ring.proofs.RingSteps.{put_ring_at}
use Rattle.link_slices.specs.Jobs.{job_of}
use Rattle.slice_ring.specs.Rings.{IsRing}
use Rattle.slice_ring.proofs.ring.Ring.put_at.Goals as goal

pub invariant_of-self : goal.invariant_of-self
invariant_of-self c =
    let inside : c.args.place < length c.self.inside.places.items = search rules in
    let nowhere : stands_in c.self.inside.places.items c.args.job.number c.args.job.index ≡ false = search rules in
    let read = get_or_read _ _ _ inside c.index_mut.ensures.value unused_place in
    subst (λ (p : JobPlace). IsRing (slice_set c.self.inside.places.items c.args.place p))
    (sym (c.put.ensures ∙ ap (λ (p : JobPlace). (let q : JobPlace = record { serial = p.serial + 1; content = Offered (job_of c.args.job) } in q)) read))
    (put_ring_at _ c.self.invariant (job_of c.args.job) _ nowhere)
