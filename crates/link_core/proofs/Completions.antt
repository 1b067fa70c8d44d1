-- A completion with the job that is held isn't refused.
use Rattle.std.proofs.Common.{◌≡◌, ℕ, List, Some, Ok, Err, arith}
use Rattle.std.proofs.Common.{sym, ◌∙◌}
use Rattle.machine_model.specs.Places.{Job, JobPlace, place_at}
use Rattle.machine_model.proofs.SameJobs.{same_itself}
use Rattle.slice_ring.specs.Calls.{Completed, complete_answer}
use Rattle.slice_ring.specs.Calls.{held_with}
use Rattle.slice_ring.specs.declared.answers.CompleteRefusal.{CompleteRefusal}
use Rattle.link_slices.specs.Jobs.{job_of}
use Rattle.vc_slice.specs.declared.done.SliceDone.{SliceDone}

module _ (places : List JobPlace) (place serial : ℕ) (done : SliceDone) (job : Job) where
  abbrev there : JobPlace
  there = place_at places place

  pub accepts : Some job ≡ held_with there serial → job_of done.job ≡ job → complete_answer places place serial done ≡ Ok tt
  accepts held same = grind (arith, same_itself)

abbrev accepted : Completed
accepted = Ok tt

pub not_refused : (e : CompleteRefusal) (r : Completed) → r ≡ Err e → r ≡ Ok tt → ⊥
not_refused e r is ok = (let same : Err e ≡ accepted = sym is ∙ ok in absurd cc)
