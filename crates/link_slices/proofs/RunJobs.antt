-- The jobs of a run, one by one.
use Rattle.std.proofs.Common.{◌≡◌, ℕ, zero, suc, ◌+◌, ◌<◌, List, [], ◌∷◌, ◌++◌, length, arith, ap, refl, sym, ◌∙◌}
use Rattle.std.specs.Prelude.{Some, slice_get, slice_index_or, take}
use Rattle.std.specs.Option.{option_map}
use Rattle.std.proofs.lemmas.List.{length-map, take_more}
use Rattle.std.proofs.lemmas.Option.{get_or_from_slice_get, slice_get-map}
use Rattle.machine_model.specs.Places.{Answered, Job, own_answer}
use Rattle.vc_types.specs.TransformParameters.{Parameters, parameters_of}
use Rattle.vc_slice.specs.declared.run.RunDone.{RunDone}
use Rattle.vc_slice.specs.declared.run.RunJob.{RunJob}
use Rattle.link_slices.specs.Jobs.{answered_run, job_by, job_in_run, jobs_from, jobs_of_run, made_run}
use Rattle.link_slices.proofs.RunAnswers.{answers_are_own}

module _ (p : Parameters) (number : ℕ) where
  pub jobs-length : (n : ℕ) (slices : List (List ℕ)) → length (jobs_from p number n slices) ≡ length slices
  jobs-length n [] = refl
  jobs-length n (bytes ∷ slices) = ap suc (jobs-length (n + 1) slices)

  jobs-at : (n : ℕ) (slices : List (List ℕ)) (k : ℕ) → k < length slices
      → slice_get (jobs_from p number n slices) k ≡ Some (job_by p number (n + k) (slice_index_or slices k []))
  jobs-at n [] k h = absurd (omega arith)
  jobs-at n (bytes ∷ slices) zero h = ap (λ (i : ℕ). Some (job_by p number i bytes)) (omega arith)
  jobs-at n (bytes ∷ slices) (suc k) h =
      jobs-at (n + 1) slices k (omega arith)
      ∙ ap (λ (i : ℕ). Some (job_by p number i (slice_index_or slices k []))) (omega arith)

  -- one slice more
  pub jobs-more : (n : ℕ) (slices : List (List ℕ)) (bytes : List ℕ)
      → jobs_from p number n (slices ++ bytes ∷ []) ≡ jobs_from p number n slices ++ job_by p number (n + length slices) bytes ∷ []
  jobs-more n [] bytes = ap (λ (i : ℕ). job_by p number i bytes ∷ []) (omega arith)
  jobs-more n (first ∷ slices) bytes =
      ap (λ (rest : List Job). job_by p number n first ∷ rest)
      (jobs-more (n + 1) slices bytes ∙ ap (λ (i : ℕ). jobs_from p number (n + 1) slices ++ job_by p number i bytes ∷ []) (omega arith))

pub run-length : (run : RunJob) → length (jobs_of_run run) ≡ length run.slices.items
run-length run = jobs-length (parameters_of run.plan) run.number run.first run.slices.items

pub job-at : (run : RunJob) (k : ℕ) → k < length run.slices.items → slice_get (jobs_of_run run) k ≡ Some (job_in_run run k)
job-at run k h = jobs-at (parameters_of run.plan) run.number run.first run.slices.items k h

pub made-length : (run : RunJob) → length (made_run run) ≡ length run.slices.items
made-length run = length-map (jobs_of_run run) own_answer ∙ run-length run

pub made-at : (run : RunJob) (k : ℕ) → k < length run.slices.items → slice_get (made_run run) k ≡ Some (own_answer (job_in_run run k))
made-at run k h = slice_get-map own_answer (jobs_of_run run) k ∙ ap (option_map own_answer) (job-at run k h)

-- one slice more
pub made-more : (run : RunJob) (k : ℕ) → k < length run.slices.items → take (k + 1) (made_run run) ≡ take k (made_run run) ++ own_answer (job_in_run run k) ∷ []
made-more run k h =
    let one : Answered = own_answer (job_in_run run k) in
    let long = made-length run in
    take_more (made_run run) k one (omega arith)
    ∙ ap (λ (a : Answered). take k (made_run run) ++ a ∷ []) (get_or_from_slice_get (made_run run) k one one (made-at run k h))

pub done-length : (done : RunDone) → length (answered_run done) ≡ length done.job.slices.items
done-length done = ap length (sym (answers_are_own done)) ∙ made-length done.job

pub done-at : (done : RunDone) (k : ℕ) → k < length done.job.slices.items → slice_get (answered_run done) k ≡ Some (own_answer (job_in_run done.job k))
done-at done k h = ap (λ (dones : List Answered). slice_get dones k) (sym (answers_are_own done)) ∙ made-at done.job k h
