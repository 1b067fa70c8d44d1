-- Each job of a datagram is among the jobs that places were told of, and each of these is one of
-- it.
use Rattle.std.proofs.Common.{◌≡◌, ℕ, ◌+◌, Bool, true, false, List, [], ◌∷◌, ◌++◌, refl, ap, subst, sym, ◌∙◌, inl, inr, append-nil, eq-eqb}
use Rattle.std.specs.Prelude.{◌||◌}
use Rattle.std.proofs.lemmas.Bool.{and_from, or_left, or_right}
use Rattle.std.proofs.lemmas.Grind.{flat_map-append}
use Rattle.std.proofs.lemmas.List.Folds.{list_any-append}
use Rattle.std.specs.List.{flat_map, list_all}
use Rattle.machine_model.specs.Feeding.{is_same_job}
use Rattle.machine_model.specs.Places.{Job}
use Rattle.receiver_model.specs.Exchanging.{Exchange, Proposed, Fetched, Withdrawn, Made, is_job_among, jobs_number}
use Rattle.receiver_model.specs.Offered.{HasJobs}
use Rattle.receiver_model.specs.SlicesOut.{ArePutsOf, is_put_of}
use Rattle.machine_model.proofs.SameJobs.{same_itself}
use Rattle.link_receiver.specs.HeardLists.{told_jobs}
use Rattle.link_receiver.specs.Offers.{AreOffersOf, AreRunOffers, IsOfferOf, proposed_in}
use Rattle.link_slices.specs.Calls.{PlaceCall, Puts, Takes, Withdraws, Makes, told_of, exchanges_of, freeing}
use Rattle.link_slices.specs.Jobs.{job_by, jobs_from, jobs_of_run}
use Rattle.link_slices.proofs.OutRuns.{run_number}
use Rattle.vc_slice.specs.declared.run.RunJob.{RunJob}
use Rattle.vc_types.specs.TransformParameters.{Parameters, parameters_of}
use Rattle.vc_slice.specs.Asked.{Offer, told_more}

-- the jobs of an offer
abbrev pub jobs_by : Exchange → List Job
jobs_by (Proposed jobs place) = jobs
jobs_by (Fetched place given) = []
jobs_by (Withdrawn place) = []
jobs_by (Made dones) = []

abbrev pub jobs_in : List Exchange → List Job
jobs_in exchanges = flat_map jobs_by exchanges

jobs_proposed : (exchanges : List Exchange) → jobs_in (proposed_in exchanges) ≡ jobs_in exchanges
jobs_proposed [] = refl
jobs_proposed (Proposed jobs place ∷ rest) = ap (λ (l : List Job). jobs ++ l) (jobs_proposed rest)
jobs_proposed (Fetched place given ∷ rest) = jobs_proposed rest
jobs_proposed (Withdrawn place ∷ rest) = jobs_proposed rest
jobs_proposed (Made dones ∷ rest) = jobs_proposed rest

-- whether a job is one of the offers
abbrev is_offered : List Exchange → Job → Bool
is_offered offers job = is_job_among (jobs_in offers) job

offered_split : (a b : List Exchange) (job : Job)
    → is_offered (a ++ b) job ≡ is_offered a job || is_offered b job
offered_split a b job = ap (λ (l : List Job). is_job_among l job) (flat_map-append jobs_by a b)
    ∙ list_any-append (is_same_job job) (jobs_in a) (jobs_in b)

-- one of two lists has a job
either_has : (a b : List Job) (job : Job)
    → is_job_among (a ++ b) job ≡ is_job_among a job || is_job_among b job
either_has a b job = list_any-append (is_same_job job) a b

-- an offer has its jobs, and no others
offer_jobs : (jobs : List Job) (offers : List Exchange) → IsOfferOf jobs offers → (job : Job)
    → is_offered offers job ≡ is_job_among jobs job
offer_jobs jobs offers (inl once) job = rw once.1 (ap (λ (l : List Job). is_job_among l job) (append-nil jobs))
offer_jobs jobs offers (inr twice) job =
    rw twice.1 (either_has jobs (jobs ++ []) job
    ∙ ap (λ (b : Bool). is_job_among jobs job || b) (ap (λ (l : List Job). is_job_among l job) (append-nil jobs))
    ∙ or_same (is_job_among jobs job))
  where
    or_same : (b : Bool) → b || b ≡ b
    or_same true = refl
    or_same false = refl

-- the offers of runs have their jobs, and no others
runs_jobs : (runs : List RunJob) (offers : List Exchange) → AreRunOffers runs offers → (job : Job)
    → is_offered offers job ≡ is_job_among (flat_map jobs_of_run runs) job
runs_jobs [] offers p job = ap (λ (l : List Exchange). is_offered l job) p
runs_jobs (run ∷ runs) offers p job =
    ap (λ (l : List Exchange). is_offered l job) p.4
    ∙ offered_split p.0 p.1 job
    ∙ ap (λ (b : Bool). b || is_offered p.1 job) (offer_jobs (jobs_of_run run) p.0 p.2 job)
    ∙ ap (λ (b : Bool). is_job_among (jobs_of_run run) job || b) (runs_jobs runs p.1 p.3 job)
    ∙ sym (either_has (jobs_of_run run) (flat_map jobs_of_run runs) job)

-- so it is of the jobs that are offered in runs
offered_are : (jobs : List Job) (offers : List Exchange) → AreOffersOf jobs offers → (job : Job)
    → is_offered offers job ≡ is_job_among jobs job
offered_are jobs offers p job =
    runs_jobs p.0 offers p.2 job ∙ ap (λ (l : List Job). is_job_among l job) p.1

-- the offers of jobs have each of them
pub offers_have : (jobs : List Job) (offers : List Exchange) → AreOffersOf jobs offers
    → HasJobs (jobs_in offers) jobs
offers_have jobs offers p job is = offered_are jobs offers p job ∙ is

-- what places were told of are the offers
told_are_proposed : (calls : List PlaceCall)
    → told_jobs (told_of calls) ≡ jobs_in (exchanges_of calls)
told_are_proposed [] = refl
told_are_proposed (Puts run answer ∷ rest) =
    ap (λ (l : List Job). jobs_of_run run ++ l) (told_are_proposed rest)
told_are_proposed (Takes place answer ∷ rest) = told_are_proposed rest
told_are_proposed (Withdraws place ∷ rest) = told_are_proposed rest
told_are_proposed (Makes dones ∷ rest) = told_are_proposed rest

-- and so they are where places were freed behind
told_behind : (calls : List PlaceCall) (freed : List ℕ)
    → told_jobs (told_more (told_of calls) (freeing freed))
    ≡ jobs_in (proposed_in (exchanges_of calls))
told_behind calls freed =
    ap (λ (l : List Offer). flat_map (λ (offer : Offer). jobs_of_run offer.job) l)
    (append-nil (told_of calls).offered)
    ∙ told_are_proposed calls ∙ sym (jobs_proposed (exchanges_of calls))

pub told_have : (calls : List PlaceCall) (freed : List ℕ) (jobs : List Job)
    → AreOffersOf jobs (proposed_in (exchanges_of calls))
    → HasJobs (told_jobs (told_more (told_of calls) (freeing freed))) jobs
told_have calls freed jobs p job is =
    ap (λ (l : List Job). is_job_among l job) (told_behind calls freed)
    ∙ offers_have jobs (proposed_in (exchanges_of calls)) p job is

-- ---- nothing else is offered

-- the offers of jobs have no other
pub offers_are : (jobs : List Job) (offers : List Exchange) → AreOffersOf jobs offers
    → HasJobs jobs (jobs_in offers)
offers_are jobs offers p job is = sym (offered_are jobs offers p job) ∙ is

-- what places were told of are these jobs alone
pub told_are : (calls : List PlaceCall) (freed : List ℕ) (jobs : List Job)
    → AreOffersOf jobs (proposed_in (exchanges_of calls))
    → HasJobs jobs (told_jobs (told_more (told_of calls) (freeing freed)))
told_are calls freed jobs p job is =
    offers_are jobs (proposed_in (exchanges_of calls)) p job
    (sym (ap (λ (l : List Job). is_job_among l job) (told_behind calls freed)) ∙ is)

-- each job of a run is of its picture
one_picture : (p : Parameters) (number n : ℕ) (slices : List (List ℕ)) (jobs : List Job)
    → HasJobs jobs (jobs_from p number n slices)
    → list_all (is_put_of jobs number) (jobs_from p number n slices) ≡ true
one_picture p number n [] jobs each = refl
one_picture p number n (bytes ∷ slices) jobs each =
    let job : Job = job_by p number n bytes in
    and_from _ _
    (and_from _ _ (each job (or_left (is_same_job job job) _ (same_itself job))) (eq-eqb number number refl))
    (one_picture p number (n + 1) slices jobs (λ other is. each other (or_right (is_same_job other job) _ is)))

-- offers whose runs are each of one picture
abbrev AreRuns : List Exchange → Type 0
AreRuns [] = Unit {0}
AreRuns (Proposed jobs place ∷ rest) = ((run : RunJob) × (jobs ≡ jobs_of_run run)) × AreRuns rest
AreRuns (other ∷ rest) = AreRuns rest

puts_among : (jobs : List Job) (exchanges : List Exchange) → AreRuns exchanges
    → HasJobs jobs (jobs_in exchanges) → ArePutsOf jobs exchanges
puts_among jobs [] are each = tt
puts_among jobs (Proposed own place ∷ rest) are each =
    let run : RunJob = are.0.0 in
    let has : HasJobs jobs own = λ job is. each job (either_has own (jobs_in rest) job ∙ or_left (is_job_among own job) (is_job_among (jobs_in rest) job) is) in
    let all : list_all (is_put_of jobs run.number) (jobs_of_run run) ≡ true =
    one_picture (parameters_of run.plan) run.number run.first run.slices.items jobs (subst (HasJobs jobs) are.0.1 has) in (
      subst (λ (l : List Job). list_all (is_put_of jobs (jobs_number l)) l ≡ true) (sym are.0.1)
          (subst (λ (n : ℕ). list_all (is_put_of jobs n) (jobs_of_run run) ≡ true) (sym (run_number run)) all),
      puts_among jobs rest are.1 (λ job is. each job (either_has own (jobs_in rest) job ∙ or_right (is_job_among own job) (is_job_among (jobs_in rest) job) is)),
    )
puts_among jobs (Fetched place given ∷ rest) are each = puts_among jobs rest are each
puts_among jobs (Withdrawn place ∷ rest) are each = puts_among jobs rest are each
puts_among jobs (Made dones ∷ rest) are each = puts_among jobs rest are each

runs_then : (a b : List Exchange) → AreRuns a → AreRuns b → AreRuns (a ++ b)
runs_then [] b first second = second
runs_then (Proposed jobs place ∷ a) b first second = (first.0, runs_then a b first.1 second)
runs_then (Fetched place given ∷ a) b first second = runs_then a b first second
runs_then (Withdrawn place ∷ a) b first second = runs_then a b first second
runs_then (Made dones ∷ a) b first second = runs_then a b first second

offers_are_runs : (runs : List RunJob) (offers : List Exchange) → AreRunOffers runs offers → AreRuns offers
offers_are_runs [] offers p = subst AreRuns (sym p) tt
offers_are_runs (run ∷ runs) offers p =
    subst AreRuns (sym p.4) (runs_then p.0 p.1 (by_offer p.0 p.2) (offers_are_runs runs p.1 p.3))
  where
    by_offer : (first : List Exchange) → IsOfferOf (jobs_of_run run) first → AreRuns first
    by_offer first (inl once) = subst AreRuns (sym once.1) ((run, refl), tt)
    by_offer first (inr twice) = subst AreRuns (sym twice.1) ((run, refl), ((run, refl), tt))

all_are_runs : (exchanges : List Exchange) → AreRuns (proposed_in exchanges) → AreRuns exchanges
all_are_runs [] are = tt
all_are_runs (Proposed jobs place ∷ rest) are = (are.0, all_are_runs rest are.1)
all_are_runs (Fetched place given ∷ rest) are = all_are_runs rest are
all_are_runs (Withdrawn place ∷ rest) are = all_are_runs rest are
all_are_runs (Made dones ∷ rest) are = all_are_runs rest are

-- what was put into places are these jobs
pub offers_are_puts : (jobs : List Job) (exchanges : List Exchange)
    → AreOffersOf jobs (proposed_in exchanges) → ArePutsOf jobs exchanges
offers_are_puts jobs exchanges p =
    puts_among jobs exchanges (all_are_runs exchanges (offers_are_runs p.0 (proposed_in exchanges) p.2))
    (subst (HasJobs jobs) (jobs_proposed exchanges) (offers_are jobs (proposed_in exchanges) p))
