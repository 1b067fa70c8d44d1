-- A job that a datagram offers is of a picture that isn't let go before it, so that this wasn't
-- released, and its slice has no answer.
use Rattle.std.proofs.Common.{◌≡◌, ℕ, ◌≤◌, Bool, true, false, refl, ap, sym, subst, ◌∙◌}
use Rattle.std.proofs.Common.{List, [], ◌∷◌, ◌++◌, Option, Some, None, cond, inl, inr, arith}
use Rattle.std.specs.Prelude.{is_some}
use Rattle.std.specs.Option.{option_and_then}
use Rattle.std.proofs.lemmas.Bool.{both_ways, false≢true, false_from_ne_true}
use Rattle.std.proofs.lemmas.Option.{none-some, same_Some}
use Rattle.link_model.specs.Complete.{has_all_slices, all_bytes, whole_of, whole_picture}
use Rattle.machine_model.specs.Feeders.{Feeder, EnteredSession, session_opening, keeps_of, job_by}
use Rattle.machine_model.specs.Feeders.{kept_job, picture_keeps, let_go_pictures, is_among}
use Rattle.machine_model.specs.Feeders.{has_released}
use Rattle.link_model.specs.Kept.{Own, KeptParameters, own, own_slice}
use Rattle.link_model.specs.Numbers.{parts_of}
use Rattle.link_model.specs.Output.{complete_at, is_opened_in}
use Rattle.machine_model.specs.Places.{Job}
use Rattle.link_model.specs.Session.{HeardSession, Part, hears, sessions_of}
use Rattle.link_model.proofs.Hearing.{sessions_of_more}
use Rattle.machine_model.proofs.MachineKept.{opened_session}
use Rattle.machine_model.proofs.PicturesHeard.{let_go_in_sessions}
use Rattle.machine_model.proofs.PicturesStay.{Gone, IsSettled, Stays, stays}
use Rattle.link_model.proofs.Releasing.{all_at}
use Rattle.machine_model.proofs.RisingLists.{among_each}
use Rattle.vc_types.specs.Subbands.{slice_count}
use Rattle.receiver_model.specs.Entering.{datagram_jobs}
use Rattle.receiver_model.specs.Exchanging.{is_job_among}
use Rattle.receiver_model.specs.Receptions.{Reception, kept_answer}
use Rattle.receiver_model.specs.Standing.{StandsFor, StandsForHeard}
use Rattle.receiver_model.proofs.DatagramJobs.{only_jobs}
use Rattle.receiver_model.proofs.KeptJobs.{session_job}
use Rattle.receiver_model.proofs.Redone.{kept_job_there, own_answer_of}
use Rattle.receiver_model.proofs.SessionPictures.{picture_keeps_on}
use Rattle.receiver_model.proofs.SliceJobs.{kept_job_is}

-- ---- a picture that is let go keeps no new slice

module _ (size : ℕ) (small : size ≤ 8) (hs : List HeardSession) (d : List ℕ) (n i : ℕ) (job : Job)
    (none : kept_job size hs n i ≡ None) (is : kept_job size (hears hs d) n i ≡ Some job) where
  -- it isn't complete
  misses_slice : (kept : Own) → picture_keeps size hs n ≡ Some kept
      → has_all_slices kept ≡ true → ⊥
  unfolding has_all_slices
  misses_slice kept keeps all =
      let later = picture_keeps_on size small n kept hs d keeps in
      let its = kept_job_is size (hears hs d) n i job is in
      let same : later.0 ≡ its.0 = same_Some later.0 its.0 (sym later.1 ∙ its.1) in
      let count : slice_count its.0.plan.parameters ≡ slice_count kept.plan.parameters =
      ap (λ (k : Own). slice_count k.plan.parameters) (sym same)
      ∙ ap (λ (plan : KeptParameters). slice_count plan.parameters) later.2.plan in
      let there : is_some (own_slice kept i) ≡ true =
      all_at (λ k. is_some (own_slice kept k)) 0 (slice_count kept.plan.parameters) i all
      (omega arith) (omega (arith, its.3, count)) in
      both_ways (is_some (kept_job size hs n i)) (ap (λ (o : Option Job). is_some o) none)
      (kept_job_there size hs n i kept keeps there)

  of_gone : (e : EnteredSession) → session_opening size hs n ≡ Some e
      → Gone size (hears hs d) n e → ⊥
  unfolding complete_at whole_picture
  of_gone e found gone = by_settled gone.settled
    where
      by_all : (kept : Own) → own e.sequence (parts_of n e.entries) ≡ Some kept
          → (b : Bool) → has_all_slices kept ≡ b
          → is_some (cond b (Some (all_bytes kept)) None) ≡ true → ⊥
      by_all kept at false all e = false≢true e
      by_all kept at true all e2 = misses_slice kept
          (ap (option_and_then (λ (e : EnteredSession). keeps_of e n)) found ∙ at) all

      by_own : (o : Option Own) → own e.sequence (parts_of n e.entries) ≡ o
          → is_some (option_and_then whole_of o) ≡ true → ⊥
      by_own None at complete = false≢true complete
      by_own (Some kept) at complete = by_all kept at (has_all_slices kept) refl complete

      by_settled : IsSettled e gone.entries n → ⊥
      by_settled (inl same) = none-some job (sym none
          ∙ session_job size n i hs e found
          ∙ ap (λ (l : List Part). option_and_then (λ kept. job_by kept n i) (own e.sequence l))
          (sym same)
          ∙ sym (session_job size n i (hears hs d)
          (record { sequence = e.sequence; entries = gone.entries }) gone.session)
          ∙ is)
      by_settled (inr complete) = by_own (own e.sequence (parts_of n e.entries)) refl complete

  pub not_let_go : is_among (let_go_pictures size false hs) n ≡ false
  not_let_go = false_from_ne_true (is_among (let_go_pictures size false hs) n) (λ there.
      let opened = among_each (λ k. is_opened_in size hs k ≡ true)
      (let_go_pictures size false hs) n (let_go_in_sessions size false hs) there in
      let e = opened_session size hs n opened in
      let gone = among_each (Stays size hs (hears hs d)) (let_go_pictures size false hs) n
      (stays size small hs d) there in
      of_gone e.0 e.1 (gone e.0 e.1))

-- ---- of a receiver

module _ (r : Reception) (size : ℕ) (f : Feeder) (small : size ≤ 8) (stands : StandsFor r size f)
    (runs : f.has_ended ≡ false) (d : List ℕ) (job : Job)
    (there : is_job_among (datagram_jobs r d) job ≡ true) where
  its_jobs : (kept_job size (sessions_of (f.heard ++ d ∷ [])) job.number job.index ≡ Some job)
      × (kept_job size (sessions_of f.heard) job.number job.index ≡ None)
  its_jobs = only_jobs r size f.heard d
      (subst (StandsForHeard r size f.heard) runs stands.heard) small job there

  pub offered_unreleased : has_released f job.number ≡ false
  offered_unreleased = grind (arith, its_jobs, not_let_go, sessions_of_more)

  pub offered_unanswered : kept_answer r.answers job.number job.index ≡ None
  offered_unanswered = grind (arith, its_jobs, offered_unreleased, own_answer_of)
