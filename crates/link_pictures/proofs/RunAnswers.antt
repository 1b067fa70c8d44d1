-- The answers to a run's slices, kept one after another.
use Rattle.std.proofs.Common.{◌≡◌, ℕ, suc, ◌+◌, ◌<◌, ◌≤◌, Bool, true, false, cond, List, [], ◌∷◌, ◌++◌, length, map, Option, Some, None, Ok, Err, refl, sym, ap, subst, ◌∙◌, arith, length-set}
use Rattle.std.specs.Prelude.{is_some, slice_index_or, slice_set, take}
use Rattle.std.proofs.lemmas.List.{take_all}
use Rattle.machine_model.specs.Places.{Answered, Job, decoding, own_answer}
use Rattle.receiver_model.specs.Receptions.{Decoding, PictureAnswers, answer_at, answers_with, takes_new}
use Rattle.picture_build.specs.Kept.{PartPicture, slice_that_came, with_run, with_slice}
use Rattle.picture_build.proofs.KeptRuns.{run-inside, run-length, run-parameters}
use Rattle.link_slices.specs.Jobs.{answered_with, job_by, job_in_run, job_of, jobs_from, made_run}
use Rattle.link_slices.proofs.RunAnswers.{own_answers}
use Rattle.link_slices.proofs.RunJobs.{made-length, made-more}
use Rattle.vc_slice.specs.Strips.{decodings}
use Rattle.vc_slice.specs.declared.job.SliceJob.{SliceJob}
use Rattle.vc_slice.specs.declared.run.RunJob.{RunJob}
use Rattle.link_pictures.specs.SeenAnswers.{HasEntries, part_answer, seen_answers}
use Rattle.link_pictures.proofs.SeenSlots.{kept_sound, kept_unsound, other_sound, seen_at, still_none, unanswered}
use Rattle.vc_types.specs.SameValues.{same_parameters}
use Rattle.vc_types.specs.Slices.{Coefficients, slice_coefficients, slice_length}
use Rattle.vc_types.specs.Subbands.{slice_count}
use Rattle.vc_types.specs.TransformParameters.{Parameters, parameters_of}
use Rattle.vc_types.specs.declared.plan.Plan.{Plan}
use Rattle.vc_types.specs.declared.refusal.Unsound.{Unsound}
use Rattle.vc_types.proofs.SameValues.{parameters_exactly}

-- ---- lists of answers

pub takes_then : (a : PictureAnswers) (first more : List Answered) → takes_new a (first ++ more) ≡ takes_new (takes_new a first) more
takes_then a [] more = refl
takes_then a (done ∷ first) more = takes_then (cond (is_some (answer_at a.slices done.job.index)) a (answers_with a done)) first more

module _ (a : PictureAnswers) (done : Answered) where
  -- the slice has an answer already
  pub one-had : is_some (answer_at a.slices done.job.index) ≡ true → a ≡ takes_new a (done ∷ [])
  one-had had = ap (λ (t : Bool). cond t a (answers_with a done)) (sym had)

  -- the slice has none
  takes_first : (more : List Answered) → answer_at a.slices done.job.index ≡ None → takes_new a (done ∷ more) ≡ takes_new (answers_with a done) more
  takes_first more none = ap (λ (o : Option Decoding). takes_new (cond (is_some o) a (answers_with a done)) more) none

  pub one-new : answer_at a.slices done.job.index ≡ None → answers_with a done ≡ takes_new a (done ∷ [])
  one-new none = sym (takes_first [] none)

  -- none by other parameters is kept
  foreign_first : (more : List Answered) → same_parameters a.parameters done.job.plan ≡ false → takes_new a (done ∷ more) ≡ takes_new a more
  foreign_first more other = ap (λ (x : PictureAnswers). takes_new x more) (by_test (is_some (answer_at a.slices done.job.index)) (rw other refl))
    where
      by_test : (t : Bool) → answers_with a done ≡ a → cond t a (answers_with a done) ≡ a
      by_test true e = refl
      by_test false e = e

  pub one-foreign : same_parameters a.parameters done.job.plan ≡ false → a ≡ takes_new a (done ∷ [])
  one-foreign other = sym (foreign_first [] other)

all_foreign : (a : PictureAnswers) (q : Parameters) (number : ℕ) → same_parameters a.parameters q ≡ false → (first : ℕ) (slices : List (List ℕ))
    → takes_new a (map own_answer (jobs_from q number first slices)) ≡ a
all_foreign a q number other first [] = refl
all_foreign a q number other first (bytes ∷ slices) =
    foreign_first a (own_answer (job_by q number first bytes)) (map own_answer (jobs_from q number (first + 1) slices)) other
    ∙ all_foreign a q number other (first + 1) slices

-- ---- a slice of a run

-- slice number k as a job of its own
pub own-job : (run : RunJob) (k : ℕ) (job : SliceJob)
    → (job.plan ≡ run.plan) × (job.number ≡ run.number) × (job.index ≡ run.first + k) × (job.bytes ≡ slice_index_or run.slices.items k [])
    → job_of job ≡ job_in_run run k
own-job run k job is =
    ap (λ (plan : Plan). job_by (parameters_of plan) job.number job.index job.bytes) is.0
    ∙ ap (λ (n : ℕ). job_by (parameters_of run.plan) n job.index job.bytes) is.1
    ∙ ap (λ (i : ℕ). job_by (parameters_of run.plan) run.number i job.bytes) is.2
    ∙ ap (λ (bytes : List ℕ). job_by (parameters_of run.plan) run.number (run.first + k) bytes) is.3

pub answered-own : (job own : Job) (answer : Decoding) → job ≡ own → answer ≡ decoding own → ◌≡◌ {A = Answered} (record { job = job; answer = answer }) (own_answer own)
answered-own job own answer same decoded =
    ap (λ (j : Job). let a : Answered = record { job = j; answer = answer } in a) same
    ∙ ap (λ (d : Decoding). let a : Answered = record { job = own; answer = d } in a) decoded

-- a slice without answer that is decoded to its place in its picture
module _ (n : ℕ) (part : PartPicture) (unsound : List (Option Unsound)) (has : HasEntries part unsound) (a : PictureAnswers) (view : seen_answers n part unsound ≡ a)
    (run : RunJob) (k : ℕ) (below : k < length run.slices.items) (same : same_parameters part.parameters (parameters_of run.plan) ≡ true) (none : answer_at a.slices (run.first + k) ≡ None) where
  abbrev bytes : List ℕ
  bytes = slice_index_or run.slices.items k []

  abbrev own : part.parameters ≡ parameters_of run.plan
  own = (parameters_exactly part.parameters (parameters_of run.plan)).0 same

  abbrev one : Answered
  one = own_answer (job_in_run run k)

  still : part_answer part unsound (run.first + k) ≡ None
  still = still_none part unsound has n (run.first + k) a view none

  pub slice-inside : run.first + k < slice_count part.parameters
  slice-inside = subst (λ (q : Parameters). run.first + k < slice_count q) (sym own) (let inside = run-inside (parameters_of run.plan) run.first (length run.slices.items) run.run in omega (arith, inside, below))

  pub slice-free : slice_that_came part (run.first + k) ≡ None
  slice-free = (unanswered part unsound (run.first + k) still).0

  pub slice-whole : slice_length part.parameters.prefix part.parameters.scaler (slice_index_or run.slices.items k []) ≡ Some (length (slice_index_or run.slices.items k []))
  slice-whole = subst (λ (q : Parameters). slice_length q.prefix q.scaler bytes ≡ Some (length bytes)) (sym own) (run.whole k [] below)

  decoded : (answer : Decoding) → slice_coefficients part.parameters (run.first + k) bytes ≡ answer → one.answer ≡ answer
  decoded answer is = ap (λ (q : Parameters). slice_coefficients q (run.first + k) bytes) (sym own) ∙ is

  pub slice-sound : (s : Coefficients) → slice_coefficients part.parameters (run.first + k) (slice_index_or run.slices.items k []) ≡ Ok s
      → seen_answers n (with_slice part (run.first + k) s) unsound ≡ takes_new a (own_answer (job_in_run run k) ∷ [])
  slice-sound s is = kept_sound n part unsound has (run.first + k) slice-inside still a view one refl same s (decoded (Ok s) is) ∙ one-new a one none

  pub slice-unsound : (why : Unsound) → slice_coefficients part.parameters (run.first + k) (slice_index_or run.slices.items k []) ≡ Err why
      → seen_answers n part (slice_set unsound (run.first + k) (Some why)) ≡ takes_new a (own_answer (job_in_run run k) ∷ [])
  slice-unsound why is = kept_unsound n part unsound has (run.first + k) slice-inside still a view one refl same why (decoded (Err why) is) ∙ one-new a one none

-- ---- the slices of a run that are decoded here

pub takes_more : (old now new : PictureAnswers) (run : RunJob) (k : ℕ) → k < length run.slices.items → now ≡ takes_new old (take k (made_run run))
    → new ≡ takes_new now (own_answer (job_in_run run k) ∷ []) → new ≡ takes_new old (take (k + 1) (made_run run))
takes_more old now new run k h before one =
    one
    ∙ ap (λ (a : PictureAnswers). takes_new a (own_answer (job_in_run run k) ∷ [])) before
    ∙ sym (takes_then old (take k (made_run run)) (own_answer (job_in_run run k) ∷ []))
    ∙ ap (takes_new old) (sym (made-more run k h))

pub takes_all : (old now : PictureAnswers) (run : RunJob) (k : ℕ) → length run.slices.items ≤ k → now ≡ takes_new old (take k (made_run run)) → now ≡ takes_new old (made_run run)
takes_all old now run k all before =
    let long : length (made_run run) ≡ length run.slices.items = made-length run in
    before ∙ ap (takes_new old) (take_all k (made_run run) (omega arith))

-- a run by other parameters
pub foreign_run : (a : PictureAnswers) (run : RunJob) → same_parameters a.parameters (parameters_of run.plan) ≡ false → takes_new a (made_run run) ≡ a
foreign_run a run other = all_foreign a (parameters_of run.plan) run.number other run.first run.slices.items

-- ---- the slices of a strip

module _ (n number : ℕ) (q : Parameters) (unsound : List (Option Unsound)) where
  -- what is seen of a picture with a run more is what the answers to its slices leave, one after another
  pub seen_run : (part : PartPicture) (first : ℕ) (bytes : List (List ℕ)) (cuts : List Coefficients) → length bytes ≡ length cuts
      → HasEntries part unsound → same_parameters part.parameters q ≡ true → first + length cuts ≤ slice_count part.parameters
      → ((k : ℕ) → k < length cuts → part_answer part unsound (first + k) ≡ None)
      → seen_answers n (with_run part first cuts) unsound ≡ takes_new (seen_answers n part unsound) (answered_with (jobs_from q number first bytes) (map (λ (s : Coefficients). Ok s) cuts))
  unfolding with_run
  seen_run part first [] [] long has same inside none = refl
  seen_run part first [] (s ∷ cuts) long has same inside none = absurd (omega (arith, long))
  seen_run part first (b ∷ bytes) [] long has same inside none = absurd (omega (arith, long))
  seen_run part first (b ∷ bytes) (s ∷ cuts) long has same inside none =
      let a : PictureAnswers = seen_answers n part unsound in
      let done : Answered = record { job = job_by q number first b; answer = Ok s } in
      let rest : List Answered = answered_with (jobs_from q number (first + 1) bytes) (map (λ (x : Coefficients). Ok x) cuts) in
      let next : PartPicture = with_slice part first s in
      let lt : first < slice_count part.parameters = omega (arith, inside) in
      let here : part_answer part unsound first ≡ None = subst (λ (i : ℕ). part_answer part unsound i ≡ None) (omega arith) (none 0 (omega arith)) in
      let entries : HasEntries next unsound = record {
        sound_entries = length-set part.slices first (Some s) ∙ has.sound_entries;
        unsound_entries = has.unsound_entries;
      } in
      let later : (k : ℕ) → k < length cuts → part_answer next unsound (first + 1 + k) ≡ None =
      λ k h. (
      let number_is : first + suc k ≡ first + 1 + k = omega arith in
      other_sound part unsound first (first + 1 + k) s (λ e. omega arith)
      ∙ subst (λ (i : ℕ). part_answer part unsound i ≡ None) number_is (none (suc k) (omega arith))) in
      seen_run next (first + 1) bytes cuts (omega (arith, long)) entries same (omega (arith, inside)) later
      ∙ ap (λ (x : PictureAnswers). takes_new x rest) (kept_sound n part unsound has first lt here a refl done refl same s refl)
      ∙ sym (takes_first a done rest (seen_at part unsound has n first ∙ here))

-- what holds of a picture's entries holds of them with a run more
pub run_entries : (part : PartPicture) (unsound : List (Option Unsound)) (first : ℕ) (cuts : List Coefficients) → HasEntries part unsound → HasEntries (with_run part first cuts) unsound
run_entries part unsound first cuts has =
    let count : slice_count part.parameters ≡ slice_count (with_run part first cuts).parameters = ap slice_count (sym (run-parameters part first cuts)) in
    record {
      sound_entries = run-length part first cuts ∙ has.sound_entries ∙ count;
      unsound_entries = has.unsound_entries ∙ count;
    }

-- a run in a strip
pub strip_run : (n : ℕ) (unsound : List (Option Unsound)) (part : PartPicture) (run : RunJob) (cuts : List Coefficients) → length cuts ≡ length run.slices.items
    → map (λ (s : Coefficients). Ok s) cuts ≡ decodings (parameters_of run.plan) run.first run.slices.items
    → HasEntries part unsound → same_parameters part.parameters (parameters_of run.plan) ≡ true → run.first + length cuts ≤ slice_count part.parameters
    → ((k : ℕ) → k < length cuts → part_answer part unsound (run.first + k) ≡ None)
    → seen_answers n (with_run part run.first cuts) unsound ≡ takes_new (seen_answers n part unsound) (made_run run)
strip_run n unsound part run cuts long decoded has same inside none =
    let p = parameters_of run.plan in
    seen_run n run.number p unsound part run.first run.slices.items cuts (sym long) has same inside none
    ∙ ap (λ (answers : List Decoding). takes_new (seen_answers n part unsound) (answered_with (jobs_from p run.number run.first run.slices.items) answers)) decoded
    ∙ ap (takes_new (seen_answers n part unsound)) (sym (own_answers p run.number run.first run.slices.items))
