-- Whether something is true of the jobs of all slices of a run.
use Rattle.std.proofs.Common.{◌≡◌, ℕ, ◌+◌, ◌<◌, ◌≤◌, Bool, true, false, ◌&&◌, if◌then◌else◌, List, [], ◌∷◌, Option, Some, None, length, take, get_or, refl, ap, sym, ◌∙◌, arith}
use Rattle.std.specs.List.{list_all}
use Rattle.std.specs.Option.{option_and_then, option_map_or}
use Rattle.std.proofs.lemmas.List.{take_all}
use Rattle.std.proofs.lemmas.List.Folds.{list_all_at, list_all_more}
use Rattle.std.proofs.lemmas.Bool.{and_from}
use Rattle.std.proofs.lemmas.Option.{get_or_from_slice_get}
use Rattle.link_model.specs.Books.{Book, Gathered, slot_at}
use Rattle.machine_model.specs.Feeding.{is_same_job}
use Rattle.machine_model.specs.Places.{Job}
use Rattle.link_model.specs.Windows.{book_at, released_up_to}
use Rattle.receiver_model.specs.Exchanging.{book_job, unreleased_job}
use Rattle.receiver_model.specs.Receptions.{StandingSession}
use Rattle.link_slices.specs.Jobs.{job_by, job_in_run, jobs_from, jobs_of_run}
use Rattle.link_slices.proofs.RunJobs.{job-at, run-length}
use Rattle.link_window.specs.PictureJobs.{has_job_of, has_parameters}
use Rattle.vc_slice.specs.declared.run.RunJob.{RunJob}
use Rattle.vc_types.specs.TransformParameters.{Parameters, parameters_of}

abbrev pub is_own : StandingSession → Job → Bool
is_own st job = option_map_or (is_same_job job) (unreleased_job st job.number job.index) false

module _ (holds : Job → Bool) (run : RunJob) where
  its_job : (k : ℕ) → k < length run.slices.items → get_or (jobs_of_run run) k (job_in_run run k) ≡ job_in_run run k
  its_job k h = get_or_from_slice_get (jobs_of_run run) k (job_in_run run k) (job_in_run run k) (job-at run k h)

  pub own_more : (k : ℕ) → k < length run.slices.items → list_all holds (take k (jobs_of_run run)) ≡ true → holds (job_in_run run k) ≡ true
      → list_all holds (take (k + 1) (jobs_of_run run)) ≡ true
  own_more k h before one =
      list_all_more holds (jobs_of_run run) k (job_in_run run k) (let long = run-length run in omega arith)
      ∙ and_from _ _ before (ap holds (its_job k h) ∙ one)

  pub own_fails : (k : ℕ) → k < length run.slices.items → holds (job_in_run run k) ≡ false → list_all holds (jobs_of_run run) ≡ false
  own_fails k h one = list_all_at holds (jobs_of_run run) k (job_in_run run k) (let long = run-length run in omega arith) (ap holds (its_job k h) ∙ one)

  pub own_all : (k : ℕ) → length run.slices.items ≤ k → list_all holds (take k (jobs_of_run run)) ≡ true → list_all holds (jobs_of_run run) ≡ true
  own_all k all before = ap (list_all holds) (sym (take_all k (jobs_of_run run) (let long = run-length run in omega arith))) ∙ before

-- two that agree on each slice of the picture
alike_from : (f g : Job → Bool) (p : Parameters) (number index : ℕ) (slices : List (List ℕ)) → ((i : ℕ) (bytes : List ℕ) → f (job_by p number i bytes) ≡ g (job_by p number i bytes))
    → list_all f (jobs_from p number index slices) ≡ list_all g (jobs_from p number index slices)
alike_from f g p number index [] same = refl
alike_from f g p number index (bytes ∷ slices) same =
    ap (λ (b : Bool). b && list_all f (jobs_from p number (index + 1) slices)) (same index bytes)
    ∙ ap (λ (b : Bool). g (job_by p number index bytes) && b) (alike_from f g p number (index + 1) slices same)

pub alike : (f g : Job → Bool) (run : RunJob) → ((i : ℕ) (bytes : List ℕ) → f (job_by (parameters_of run.plan) run.number i bytes) ≡ g (job_by (parameters_of run.plan) run.number i bytes))
    → list_all f (jobs_of_run run) ≡ list_all g (jobs_of_run run)
alike f g run same = alike_from f g (parameters_of run.plan) run.number run.first run.slices.items same

-- the picture has another plan
pub other_plan : (book : Book) (p : Parameters) (number index : ℕ) (bytes : List ℕ) → has_parameters book p ≡ false → has_job_of book (job_by p number index bytes) ≡ false
other_plan book p number index bytes other = by book.gathered other
  where
    has_in : Option Gathered → Bool
    has_in gathered = has_job_of (record book { gathered = gathered }) (job_by p number index bytes)

    slot : (g : Gathered) (kept : Option (List ℕ)) → slot_at g.slots index ≡ kept → has_parameters (record book { gathered = Some g }) p ≡ false → has_in (Some g) ≡ false
    slot g None e h = cc
    slot g (Some own) e h = cc

    by : (gathered : Option Gathered) → has_parameters (record book { gathered = gathered }) p ≡ false → has_in gathered ≡ false
    by None h = refl
    by (Some g) h = slot g (slot_at g.slots index) refl h

-- ---- by the picture's book

own_by : Bool → Option Book → Job → Bool
own_by released book job = option_map_or (is_same_job job) (if released then None else option_and_then (λ (b : Book). book_job b job.number job.index) book) false

module _ (st : StandingSession) (run : RunJob) where
  abbrev released : Bool
  released = released_up_to st.window.last_released run.number

  abbrev book : Option Book
  book = book_at st.window.books run.number

  its_own : (i : ℕ) (bytes : List ℕ) → is_own st (job_by (parameters_of run.plan) run.number i bytes) ≡ own_by released book (job_by (parameters_of run.plan) run.number i bytes)
  unfolding own_by
  its_own i bytes = refl

  pub run_released : released ≡ true → list_all (is_own st) (jobs_of_run run) ≡ false
  unfolding own_by
  run_released e = own_fails (is_own st) run 0 run.some (its_own _ _ ∙ ap (λ (b : Bool). own_by b book (job_in_run run 0)) e)

  pub run_unknown : released ≡ false → book ≡ None → list_all (is_own st) (jobs_of_run run) ≡ false
  unfolding own_by
  run_unknown e none = own_fails (is_own st) run 0 run.some (its_own _ _ ∙ ap (λ (b : Bool). own_by b book (job_in_run run 0)) e ∙ ap (λ (o : Option Book). own_by false o (job_in_run run 0)) none)

  pub run_known : (known : Book) → released ≡ false → book ≡ Some known → list_all (has_job_of known) (jobs_of_run run) ≡ list_all (is_own st) (jobs_of_run run)
  unfolding own_by
  run_known known e is = alike (has_job_of known) (is_own st) run (λ i bytes.
      sym (its_own i bytes ∙ ap (λ (b : Bool). own_by b book (job_by (parameters_of run.plan) run.number i bytes)) e ∙ ap (λ (o : Option Book). own_by false o (job_by (parameters_of run.plan) run.number i bytes)) is))
