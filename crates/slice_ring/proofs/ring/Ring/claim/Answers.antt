use Rattle.std.proofs.Common.{arith, ℕ, length, List, ◌<◌, ◌≡◌, ◌∙◌, ap, sym, subst, slice_set, position, Some}
use Rattle.std.proofs.lemmas.List.{get_or_read}
use Rattle.machine_model.specs.Places.{JobPlace, Offered, place_at, is_in, claimed_by, unused_place}
use Rattle.machine_model.specs.declared.place_state.PlaceState.TheVariants.{Waiting}
use Rattle.slice_ring.proofs.RingSteps.{same_ring, waiting_inside, waiting_there, same_places, place_is, claim_ring}
use Rattle.vc_types.proofs.Failures.{on_err}
use Rattle.link_slices.specs.Jobs.{job_of}
use Rattle.slice_ring.specs.Rings.{IsRing}
use Rattle.slice_ring.proofs.ring.Ring.claim.Goals as goal

-- what was found in the slice that was read stands there in the ring's own list
found_inside : (read places : List JobPlace) (place : ℕ) → read ≡ places → Some place ≡ position (is_in Waiting) read → position (is_in Waiting) places ≡ Some place
found_inside read places place same found = sym (found ∙ ap (λ (l : List JobPlace). position (is_in Waiting) l) same)

pub claim-requires : goal.claim-requires
claim-requires c =
    let found : position (is_in Waiting) c.self.inside.places.items ≡ Some c.in-Some.place = found_inside _ _ _ c.deref.ensures.value c.in-Some.ensures in
    let read = get_or_read _ _ _ (waiting_inside _ _ found) c.index_mut.ensures.value unused_place in
    record { waiting = ap (is_in Waiting) read ∙ waiting_there c.self.inside.places.items c.in-Some.place found }

pub returns-in_err-job-clause-unchanged : goal.returns-in_err-job-clause-unchanged
returns-in_err-job-clause-unchanged c =
    let found : position (is_in Waiting) c.self.inside.places.items ≡ Some c.in-Some.place = found_inside _ _ _ c.deref.ensures.value c.in-Some.ensures in
    let read = get_or_read _ _ _ (waiting_inside _ _ found) c.index_mut.ensures.value unused_place in
    let same : c.claim.new.self ≡ c.index_mut.result.now = c.in_err-job.ensures.unchanged in
    on_err _ _ (same_places c.self.inside.places.items c.in-Some.place c.claim.new.self (same ∙ read) ∙ c.self.view_is)

pub invariant_of-self-2 : goal.invariant_of-self-2
invariant_of-self-2 c =
    let found : position (is_in Waiting) c.self.inside.places.items ≡ Some c.in-Some.place = found_inside _ _ _ c.deref.ensures.value c.in-Some.ensures in
    let read = get_or_read _ _ _ (waiting_inside _ _ found) c.index_mut.ensures.value unused_place in
    subst (λ (p : JobPlace). IsRing (slice_set c.self.inside.places.items c.in-Some.place p))
    (sym (c.in_ok-job.ensures.held ∙ ap (λ (p : JobPlace). (let q : JobPlace = record p { content = claimed_by c.args.worker p.content } in q)) read))
    (claim_ring c.self.inside.places.items c.self.invariant c.args.worker c.in-Some.place)

pub returns-clause-job : goal.returns-clause-job
returns-clause-job c =
    let found : position (is_in Waiting) c.self.inside.places.items ≡ Some c.in-Some.place = found_inside _ _ _ c.deref.ensures.value c.in-Some.ensures in
    let read = get_or_read _ _ _ (waiting_inside _ _ found) c.index_mut.ensures.value unused_place in
    let first = get_or_read _ _ _ (waiting_inside _ _ found) c.index.ensures unused_place in
    rw (sym c.self.view_is) (place_is (place_at c.self.inside.places.items c.in-Some.place) c.serial-serial.result (Offered (job_of c.in_ok-job.job))
    (c.serial-serial.ensures ∙ ap (λ (p : JobPlace). p.serial) first)
    (ap (λ (p : JobPlace). p.content) (sym read) ∙ c.in_ok-job.ensures.job))

pub returns-clause-claimed : goal.returns-clause-claimed
returns-clause-claimed c =
    let found : position (is_in Waiting) c.self.inside.places.items ≡ Some c.in-Some.place = found_inside _ _ _ c.deref.ensures.value c.in-Some.ensures in
    let read = get_or_read _ _ _ (waiting_inside _ _ found) c.index_mut.ensures.value unused_place in
    rw (sym c.self.view_is) (ap (slice_set c.self.inside.places.items c.in-Some.place)
    (c.in_ok-job.ensures.held ∙ ap (λ (p : JobPlace). (let q : JobPlace = record p { content = claimed_by c.args.worker p.content } in q)) read))

pub returns-clause-legal : goal.returns-clause-legal
returns-clause-legal c =
    let found : position (is_in Waiting) c.self.inside.places.items ≡ Some c.in-Some.place = found_inside _ _ _ c.deref.ensures.value c.in-Some.ensures in
    rw (sym c.self.view_is) (waiting_there c.self.inside.places.items c.in-Some.place found)

pub returns-in_default-clause-place : goal.returns-in_default-clause-place
returns-in_default-clause-place c = c.in_default.ensures ∙ ap (λ (l : List JobPlace). position (is_in Waiting) l) (c.deref.ensures.value ∙ c.self.view_is)

pub index-requires : goal.index-requires
index-requires c =
    let found : position (is_in Waiting) c.self.inside.places.items ≡ Some c.in-Some.place = found_inside _ _ _ c.deref.ensures.value c.in-Some.ensures in
    let inside : c.in-Some.place < length c.self.inside.places.items = waiting_inside _ _ found in
    omega arith

pub index_mut-requires : goal.index_mut-requires
index_mut-requires c =
    let found : position (is_in Waiting) c.self.inside.places.items ≡ Some c.in-Some.place = found_inside _ _ _ c.deref.ensures.value c.in-Some.ensures in
    let inside : c.in-Some.place < length c.self.inside.places.items = waiting_inside _ _ found in
    omega arith

pub invariant_of-self : goal.invariant_of-self
invariant_of-self c =
    let found : position (is_in Waiting) c.self.inside.places.items ≡ Some c.in-Some.place = found_inside _ _ _ c.deref.ensures.value c.in-Some.ensures in
    let read = get_or_read _ _ _ (waiting_inside _ _ found) c.index_mut.ensures.value unused_place in
    let same : c.claim.new.self ≡ c.index_mut.result.now = c.in_err-job.ensures.unchanged in
    same_ring c.self.inside.places.items c.self.invariant c.in-Some.place c.claim.new.self (same ∙ read)

pub overflow_cast-result : goal.overflow_cast-result
overflow_cast-result c =
    let found : position (is_in Waiting) c.self.inside.places.items ≡ Some c.in-Some.place = found_inside _ _ _ c.deref.ensures.value c.in-Some.ensures in
    let inside : c.in-Some.place < length c.self.inside.places.items = waiting_inside _ _ found in
    let few = c.self.invariant.few in
    omega arith

pub returns-clause-place : goal.returns-clause-place
returns-clause-place c =
    let found : position (is_in Waiting) c.self.inside.places.items ≡ Some c.in-Some.place = found_inside _ _ _ c.deref.ensures.value c.in-Some.ensures in
    sym found ∙ ap (λ (l : List JobPlace). position (is_in Waiting) l) c.self.view_is
