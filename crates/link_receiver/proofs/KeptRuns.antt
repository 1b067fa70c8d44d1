-- The answers to a run that are the receiver's own are kept where their slices have none.
use Rattle.std.proofs.Common.{◌≡◌, ℕ, ◌+◌, ◌<◌, ◌≤◌, Bool, true, false, List, [], ◌∷◌, length, take, Option, None, Some, refl, sym, ap, subst, ◌∙◌, cond, map, arith}
use Rattle.std.specs.Prelude.{◌&&◌, is_none, is_some}
use Rattle.std.specs.List.{list_all}
use Rattle.std.proofs.lemmas.Bool.{and_parts}
use Rattle.std.proofs.lemmas.List.{take_all}
use Rattle.std.proofs.lemmas.List.Sums.{fold-append}
use Rattle.link_slices.specs.Jobs.{answered_run, job_in_run, jobs_of_run, made_run}
use Rattle.link_slices.proofs.RunAnswers.{answers_are_own}
use Rattle.link_slices.proofs.RunJobs.{made-length, made-more}
use Rattle.vc_slice.specs.declared.run.RunDone.{RunDone}
use Rattle.vc_slice.specs.declared.run.RunJob.{RunJob}
use Rattle.machine_model.specs.Places.{Answered, Job, own_answer}
use Rattle.receiver_model.specs.Exchanging.{is_own, takes_done, takes_dones}
use Rattle.receiver_model.specs.Receptions.{Decoding, PictureAnswers, Reception, kept_answer, keeps_answer, keeps_new}

abbrev pub with_answers : Reception → List PictureAnswers → Reception
with_answers r answers = record r { answers = answers }

pub takes_foreign : (r : Reception) (done : Answered) → is_own r done.job ≡ false → takes_done r done ≡ r
unfolding takes_done
takes_foreign r done none = ap (λ (b : Bool). cond (b && is_none (kept_answer r.answers done.job.number done.job.index)) (with_answers r (keeps_answer r.answers done)) r) none

pub takes_one : (r : Reception) (done : Answered) → is_own r done.job ≡ true → takes_done r done ≡ with_answers r (keeps_new r.answers (done ∷ []))
unfolding takes_done
takes_one r done own =
    ap (λ (b : Bool). cond (b && is_none (kept_answer r.answers done.job.number done.job.index)) (with_answers r (keeps_answer r.answers done)) r) own
    ∙ by_answer (kept_answer r.answers done.job.number done.job.index)
  where
    by_answer : (o : Option Decoding) → cond (is_none o) (with_answers r (keeps_answer r.answers done)) r ≡ with_answers r (cond (is_some o) r.answers (keeps_answer r.answers done))
    by_answer None = refl
    by_answer (Some answer) = refl

pub takes_own : (jobs : List Job) (r : Reception) → list_all (is_own r) jobs ≡ true
    → takes_dones r (map own_answer jobs) ≡ with_answers r (keeps_new r.answers (map own_answer jobs))
takes_own [] r own = refl
takes_own (job ∷ jobs) r own =
    let both = and_parts (is_own r job) (list_all (is_own r) jobs) own in
    let done : Answered = own_answer job in
    ap (λ (v : Reception). takes_dones v (map own_answer jobs)) (takes_one r done both.0)
    ∙ takes_own jobs (with_answers r (keeps_new r.answers (done ∷ []))) both.1

-- so it is of a run whose slices are all the receiver's own
pub takes_run : (r : Reception) (done : RunDone) → list_all (is_own r) (jobs_of_run done.job) ≡ true
    → takes_dones r (answered_run done) ≡ with_answers r (keeps_new r.answers (answered_run done))
takes_run r done own =
    subst (λ (dones : List Answered).
    takes_dones r dones ≡ with_answers r (keeps_new r.answers dones))
    (answers_are_own done) (takes_own (jobs_of_run done.job) r own)

-- ---- where the answers are kept, of a receiver as its fields are and as it is seen

module _ {inside now : Reception} (is : inside ≡ now) (answers : List PictureAnswers) where
  pub made_slice : (job : Job) → is_own now job ≡ true
      → answers ≡ keeps_new inside.answers (own_answer job ∷ [])
      → with_answers inside answers ≡ takes_done now (own_answer job)
  made_slice job own value =
      ap (λ (r : Reception). with_answers r answers) is
      ∙ ap (with_answers now)
      (value ∙ ap (λ (r : Reception). keeps_new r.answers (own_answer job ∷ [])) is)
      ∙ sym (takes_one now (own_answer job) own)

  pub kept_run : (done : RunDone) → list_all (is_own now) (jobs_of_run done.job) ≡ true
      → answers ≡ keeps_new inside.answers (answered_run done)
      → with_answers inside answers ≡ takes_dones now (answered_run done)
  kept_run done own value =
      ap (λ (r : Reception). with_answers r answers) is
      ∙ ap (with_answers now)
      (value ∙ ap (λ (r : Reception). keeps_new r.answers (answered_run done)) is)
      ∙ sym (takes_run now done own)

-- ---- a run's slices, one after another

pub takes_more : (old now new : Reception) (run : RunJob) (k : ℕ) → k < length run.slices.items → now ≡ takes_dones old (take k (made_run run))
    → new ≡ takes_done now (own_answer (job_in_run run k)) → new ≡ takes_dones old (take (k + 1) (made_run run))
takes_more old now new run k h before one =
    one
    ∙ ap (λ (r : Reception). takes_done r (own_answer (job_in_run run k))) before
    ∙ sym (fold-append takes_done old (take k (made_run run)) (own_answer (job_in_run run k) ∷ []))
    ∙ ap (takes_dones old) (sym (made-more run k h))

pub takes_all : (old now : Reception) (run : RunJob) (k : ℕ) → length run.slices.items ≤ k → now ≡ takes_dones old (take k (made_run run)) → now ≡ takes_dones old (made_run run)
takes_all old now run k all before =
    let long : length (made_run run) ≡ length run.slices.items = made-length run in
    before ∙ ap (takes_dones old) (take_all k (made_run run) (omega arith))
