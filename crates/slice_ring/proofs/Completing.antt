-- Completions that are refused at a place that is held.
use Rattle.std.proofs.Common.{◌≡◌, ◌≢◌, ℕ, false, Err, refl, sym, subst, ne_eqb, eq-eqb}
use Rattle.machine_model.specs.Feeding.{is_same_job}
use Rattle.machine_model.specs.Places.{JobPlace}
use Rattle.slice_ring.specs.Calls.{completing, stale}
use Rattle.slice_ring.specs.Stages.{content_of}
use Rattle.link_slices.specs.Jobs.{job_of}
use Rattle.slice_ring.specs.declared.answers.CompleteRefusal.TheVariants.{Other}
use Rattle.slice_ring.specs.declared.place.Stage.{Stage}
use Rattle.slice_ring.specs.declared.place.Stage.TheVariants.{Held}
use Rattle.vc_slice.specs.declared.done.SliceDone.{SliceDone}
use Rattle.vc_slice.specs.declared.job.SliceJob.{SliceJob}

abbrev shown : ℕ → Stage → JobPlace
shown serial stage = record { serial = serial; content = content_of stage }

module _ (p : JobPlace) (serial given worker : ℕ) (stage : Stage) (job : SliceJob)
    (done : SliceDone) (view : shown serial stage ≡ p) (is : stage ≡ Held worker job) where
  by_view : (P : JobPlace → Type 0) → P (shown serial (Held worker job)) → P p
  by_view P here = subst P view (subst (λ (s : Stage). P (shown serial s)) (sym is) here)

  pub wrong_serial : serial ≢ given → stale p given done ≡ completing p given done
  wrong_serial ne = by_view (λ (p : JobPlace). stale p given done ≡ completing p given done)
      (rw (ne_eqb serial given ne) refl)

  pub wrong_job : serial ≡ given → is_same_job (job_of done.job) (job_of job) ≡ false
      → Err (Other done) ≡ completing p given done
  wrong_job same other = by_view (λ (p : JobPlace). Err (Other done) ≡ completing p given done)
      (rw (eq-eqb serial given same, other) refl)
