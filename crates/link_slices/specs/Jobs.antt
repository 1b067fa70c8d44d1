-- Slices and runs of them as jobs, and what they were decoded to, as plain data.
use Rattle.std.specs.Prelude.{ℕ, ◌+◌, List, [], ◌∷◌, length, map, slice_index_or, Result}
use Rattle.machine_model.specs.Places.{Job, Answered, own_answer}
use Rattle.vc_types.specs.declared.refusal.Unsound.{Unsound}
use Rattle.vc_types.specs.Slices.{Coefficients}
use Rattle.vc_types.specs.TransformParameters.{Parameters, parameters_of}
use Rattle.vc_slice.specs.declared.done.SliceDone.{SliceDone}
use Rattle.vc_slice.specs.declared.job.SliceJob.{SliceJob}
use Rattle.vc_slice.specs.declared.run.RunDone.{RunDone}
use Rattle.vc_slice.specs.declared.run.RunJob.{RunJob}
use Rattle.vc_slice.specs.OfPlan.{run_answers}

abbrev pub job_by : Parameters → ℕ → ℕ → List ℕ → Job
job_by p number index bytes = record { plan = p; number = number; index = index; bytes = bytes }

abbrev pub job_of : SliceJob → Job
job_of j = job_by (parameters_of j.plan) j.number j.index j.bytes

abbrev pub answered : SliceDone → Answered
answered d = record { job = job_of d.job; answer = d.answer }

-- ---- runs

-- slices one after another, from this index on
abbrev pub jobs_from : Parameters → ℕ → ℕ → List (List ℕ) → List Job
jobs_from p number index [] = []
jobs_from p number index (bytes ∷ slices) =
    job_by p number index bytes ∷ jobs_from p number (index + 1) slices

abbrev pub jobs_of_run : RunJob → List Job
jobs_of_run run = jobs_from (parameters_of run.plan) run.number run.first run.slices.items

-- slice number k of a run
abbrev pub job_in_run : RunJob → ℕ → Job
job_in_run run k = job_by
    (parameters_of run.plan) run.number (run.first + k) (slice_index_or run.slices.items k [])

-- each job with its own decoding
abbrev pub made_run : RunJob → List Answered
made_run run = map own_answer (jobs_of_run run)

-- each job with its answer
abbrev pub answered_with : List Job → List (Result Coefficients Unsound) → List Answered
answered_with [] answers = []
answered_with (job ∷ jobs) [] = []
answered_with (job ∷ jobs) (answer ∷ answers) =
    record { job = job; answer = answer } ∷ answered_with jobs answers

abbrev pub answered_run : RunDone → List Answered
answered_run d = answered_with (jobs_of_run d.job)
    (run_answers d.job.plan d.job.first (length d.job.slices.items) d.answer)
