use Rattle.std.proofs.Common.{◌≡◌, ◌<◌, ◌∙◌, ap, arith, length, subst, true, List, ℕ}
use Rattle.std.specs.Prelude.{IfOk, OnErr, OnOk, slice_set}
use Rattle.machine_model.specs.Places.{JobPlace, Offered, claims_job, is_in, place_at}
use Rattle.machine_model.specs.declared.place_state.PlaceState.TheVariants.{Waiting}
use Rattle.link_slices.specs.Jobs.{job_of}
use Rattle.vc_slice.specs.declared.job.SliceJob.{SliceJob}
use Rattle.slice_ring.proofs.RingSteps.{claimed_ring, claimed_there, kept_there, reads_waiting, waiting_within}
use Rattle.slice_ring.proofs.ring.Ring.claim_at.Goals as goal

-- what waits in the list that a contract sees waits in the ring's own
waits_inside : (places seen : List JobPlace) (place : ℕ) → places ≡ seen → is_in Waiting (place_at seen place) ≡ true → is_in Waiting (place_at places place) ≡ true
waits_inside places seen place same waits = ap (λ (l : List JobPlace). is_in Waiting (place_at l place)) same ∙ waits

pub index_mut-requires : goal.index_mut-requires
index_mut-requires c =
    let inside : c.args.place < length c.self.inside.places.items = waiting_within c.self.inside.places.items c.args.place (waits_inside _ _ c.args.place c.self.view_is c.requires.waiting) in
    omega arith

pub claim-requires : goal.claim-requires
claim-requires c =
    let waits = waits_inside c.self.inside.places.items c.args.self.now c.args.place c.self.view_is c.requires.waiting in
    record { waiting = ap (is_in Waiting) (reads_waiting c.self.inside.places.items c.args.place c.index_mut.result.now waits c.index_mut.ensures.value) ∙ waits }

pub invariant_of-self : goal.invariant_of-self
invariant_of-self c =
    let waits = waits_inside c.self.inside.places.items c.args.self.now c.args.place c.self.view_is c.requires.waiting in
    let read = reads_waiting c.self.inside.places.items c.args.place c.index_mut.result.now waits c.index_mut.ensures.value in
    claimed_ring c.self.inside.places.items c.self.invariant c.claim.result c.args.worker c.args.place c.index_mut.result.now c.claim.new.self read c.claim.ensures.held c.claim.ensures.unchanged

pub returns-clause-job : goal.returns-clause-job
returns-clause-job c =
    let waits = waits_inside c.self.inside.places.items c.args.self.now c.args.place c.self.view_is c.requires.waiting in
    let read = reads_waiting c.self.inside.places.items c.args.place c.index_mut.result.now waits c.index_mut.ensures.value in
    subst (λ (p : JobPlace). IfOk c.claim.result (λ (job : SliceJob). p.content ≡ Offered (job_of job))) (read ∙ ap (λ (l : List JobPlace). place_at l c.args.place) c.self.view_is) c.claim.ensures.job

pub returns-clause-claimed : goal.returns-clause-claimed
returns-clause-claimed c =
    let places : List JobPlace = c.self.inside.places.items in
    let waits = waits_inside places c.args.self.now c.args.place c.self.view_is c.requires.waiting in
    let read = reads_waiting places c.args.place c.index_mut.result.now waits c.index_mut.ensures.value in
    subst (λ (l : List JobPlace). OnOk c.claim.result (slice_set places c.args.place c.claim.new.self ≡ claims_job l c.args.worker c.args.place)) c.self.view_is
    (claimed_there places c.args.place c.claim.result c.args.worker c.index_mut.result.now c.claim.new.self read c.claim.ensures.held)

pub returns-clause-unchanged : goal.returns-clause-unchanged
returns-clause-unchanged c =
    let places : List JobPlace = c.self.inside.places.items in
    let waits = waits_inside places c.args.self.now c.args.place c.self.view_is c.requires.waiting in
    let read = reads_waiting places c.args.place c.index_mut.result.now waits c.index_mut.ensures.value in
    subst (λ (l : List JobPlace). OnErr c.claim.result (slice_set places c.args.place c.claim.new.self ≡ l)) c.self.view_is
    (kept_there places c.args.place c.claim.result c.index_mut.result.now c.claim.new.self read c.claim.ensures.unchanged)
