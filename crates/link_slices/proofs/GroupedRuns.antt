-- Slices one after another, as runs.
use Rattle.std.proofs.Common.{◌≡◌, ℕ, ◌+◌, List, [], ◌∷◌, ◌++◌, length, ap, sym, ◌∙◌, append_assoc, append-nil}
use Rattle.std.proofs.lemmas.List.Concat.{flat_map-append}
use Rattle.std.specs.List.{flat_map}
use Rattle.std.specs.Prelude.{Result, Ok, Err, IfOk}
use Rattle.machine_model.specs.Places.{Job}
use Rattle.vc_types.specs.declared.plan.Plan.{Plan}
use Rattle.vc_types.specs.TransformParameters.{Parameters, parameters_of}
use Rattle.vc_types.proofs.SameValues.{parameters_exactly}
use Rattle.vc_types.specs.declared.memory.NoMemory.{NoMemory}
use Rattle.vc_slice.specs.declared.job.SliceJob.{SliceJob}
use Rattle.vc_slice.specs.declared.run.RunJob.{RunJob}
use Rattle.vc_slice.specs.RunJobs.{GoesOn, GrewBy}
use Rattle.link_slices.specs.Jobs.{job_by, job_of, jobs_from, jobs_of_run}
use Rattle.link_slices.proofs.RunJobs.{jobs-more}

-- a run of one slice
pub run_of_one : (run : RunJob) (job : SliceJob) → run.plan ≡ job.plan → run.number ≡ job.number → run.first ≡ job.index → run.slices.items ≡ job.bytes ∷ []
    → jobs_of_run run ≡ job_of job ∷ []
run_of_one run job plan number first slices =
    ap (λ (p : Plan). jobs_from (parameters_of p) run.number run.first run.slices.items) plan
    ∙ ap (λ (n : ℕ). jobs_from (parameters_of job.plan) n run.first run.slices.items) number
    ∙ ap (λ (i : ℕ). jobs_from (parameters_of job.plan) job.number i run.slices.items) first
    ∙ ap (λ (l : List (List ℕ)). jobs_from (parameters_of job.plan) job.number job.index l) slices

-- and one with a slice more
pub run_grew : (old new : RunJob) (job : SliceJob) → GoesOn old job → GrewBy old new job → jobs_of_run new ≡ jobs_of_run old ++ job_of job ∷ []
run_grew old new job goes grew =
    let p : Parameters = parameters_of old.plan in
    let same : p ≡ parameters_of job.plan = (parameters_exactly p (parameters_of job.plan)).0 goes.plan in
    let last : Job = job_by p old.number (old.first + length old.slices.items) job.bytes in
    let is : last ≡ job_of job =
    ap (λ (q : Parameters). job_by q old.number (old.first + length old.slices.items) job.bytes) same
    ∙ ap (λ (n : ℕ). job_by (parameters_of job.plan) n (old.first + length old.slices.items) job.bytes) goes.number
    ∙ ap (λ (i : ℕ). job_by (parameters_of job.plan) job.number i job.bytes) goes.index in
    ap (λ (q : Plan). jobs_from (parameters_of q) new.number new.first new.slices.items) grew.plan
    ∙ ap (λ (n : ℕ). jobs_from p n new.first new.slices.items) grew.number
    ∙ ap (λ (i : ℕ). jobs_from p old.number i new.slices.items) grew.first
    ∙ ap (λ (l : List (List ℕ)). jobs_from p old.number old.first l) grew.slices
    ∙ jobs-more p old.number old.first old.slices.items job.bytes
    ∙ ap (λ (j : Job). jobs_of_run old ++ j ∷ []) is

abbrev jobs_in : List RunJob → List Job
jobs_in runs = flat_map jobs_of_run runs

pub one_run_more : (runs : List RunJob) (run : RunJob) → flat_map jobs_of_run (runs ++ run ∷ []) ≡ flat_map jobs_of_run runs ++ jobs_of_run run
one_run_more runs run = flat_map-append jobs_of_run runs (run ∷ []) ∙ ap (λ (l : List Job). jobs_in runs ++ l) (append-nil (jobs_of_run run))

-- ---- a slice, behind these runs and the last one

module _ (runs : List RunJob) (last : RunJob) (job : SliceJob) where
  -- which it goes on
  pub gone_on : (now : RunJob) → GoesOn last job → GrewBy last now job
      → jobs_in runs ++ jobs_of_run now ≡ (jobs_in runs ++ jobs_of_run last) ++ job_of job ∷ []
  gone_on now goes grew =
      ap (λ (l : List Job). jobs_in runs ++ l) (run_grew last now job goes grew)
      ∙ sym (append_assoc (jobs_in runs) (jobs_of_run last) (job_of job ∷ []))

  -- or begins a run
  pub begun : (all : List RunJob) → all ≡ runs ++ last ∷ [] → (begins : Result RunJob NoMemory)
      → IfOk begins (λ run. (run.plan ≡ job.plan) × (run.number ≡ job.number) × (run.first ≡ job.index) × (run.slices.items ≡ job.bytes ∷ []))
      → IfOk begins (λ run. jobs_in all ++ jobs_of_run run ≡ (jobs_in runs ++ jobs_of_run last) ++ job_of job ∷ [])
  begun all e (Ok run) is =
      ap (λ (l : List Job). jobs_in all ++ l) (run_of_one run job is.0 is.1 is.2 is.3)
      ∙ ap (λ (l : List RunJob). jobs_in l ++ job_of job ∷ []) e
      ∙ ap (λ (l : List Job). l ++ job_of job ∷ []) (one_run_more runs last)
  begun all e (Err why) is = tt
