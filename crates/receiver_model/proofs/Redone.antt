-- The feeder decodes slices of a picture by itself.
use Rattle.std.proofs.Common.{◌≡◌, ℕ, true, refl, ap, sym, ◌∙◌, map}
use Rattle.std.proofs.Common.{List, [], ◌∷◌, Option, Some, None, arith}
use Rattle.std.specs.Prelude.{is_some, unwrap_or}
use Rattle.std.specs.Option.{option_and_then, option_map_or}
use Rattle.std.proofs.lemmas.Bool.{false≢true}
use Rattle.std.proofs.lemmas.Option.{none-some}
use Rattle.machine_model.specs.Feeders.{Feeder, SliceAnswer, answer_in, kept_job, picture_keeps}
use Rattle.machine_model.specs.Feeders.{job_by, job_with, is_among}
use Rattle.link_model.specs.Kept.{Own, own_slice}
use Rattle.machine_model.specs.Machine.{Redo}
use Rattle.machine_model.specs.Next.{feeder_run}
use Rattle.machine_model.specs.Places.{Job, decoding}
use Rattle.link_model.specs.Session.{HeardSession, sessions_of}
use Rattle.vc_types.specs.Slices.{slice_coefficients}
use Rattle.receiver_model.specs.Receptions.{Decoding}
use Rattle.machine_model.specs.Interleavings.{AreOwnAnswers}
use Rattle.receiver_model.proofs.SliceJobs.{other_answer}

-- ---- jobs

module _ (size : ℕ) (hs : List HeardSession) (n i : ℕ) where
  -- the job of a slice of what the picture keeps
  pub kept_job_by : (kept : Own) → picture_keeps size hs n ≡ Some kept → (job : Job)
      → kept_job size hs n i ≡ Some job
      → (bytes : List ℕ) × (own_slice kept i ≡ Some bytes) × (job_with kept n i bytes ≡ job)
  unfolding kept_job
  kept_job_by kept keeps job is = grind arith

  pub kept_job_there : (kept : Own) → picture_keeps size hs n ≡ Some kept
      → is_some (own_slice kept i) ≡ true → is_some (kept_job size hs n i) ≡ true
  unfolding kept_job
  kept_job_there kept keeps there = grind arith

  no_job : picture_keeps size hs n ≡ None → kept_job size hs n i ≡ None
  unfolding kept_job
  no_job none = ap (option_and_then (λ (kept : Own). job_by kept n i)) none

  pub kept_job_numbers : (job : Job) → kept_job size hs n i ≡ Some job
      → (job.number ≡ n) × (job.index ≡ i)
  kept_job_numbers job is = by_kept (picture_keeps size hs n) refl
    where
      by_kept : (o : Option Own) → picture_keeps size hs n ≡ o → (job.number ≡ n) × (job.index ≡ i)
      by_kept None at = absurd (none-some job (sym (no_job at) ∙ is))
      by_kept (Some kept) at = let found = kept_job_by kept at job is in (
        sym (ap (λ (j : Job). j.number) found.2),
        sym (ap (λ (j : Job). j.index) found.2),
      )

-- ---- answers

module _ (size : ℕ) (hs : List HeardSession) where
  pub own_answer_of : (decoded : List SliceAnswer) → AreOwnAnswers size hs decoded → (n k : ℕ)
      (d : Decoding) → answer_in decoded n k ≡ Some d
      → (job : Job) × (kept_job size hs n k ≡ Some job) × (d ≡ decoding job)
  own_answer_of [] own n k d is = absurd (none-some d is)
  own_answer_of (a ∷ rest) own n k d is = grind (arith, own_answer_of rest own.1 n k d)

  -- each is the decoding of a slice that its picture keeps
  pub answers_of_kept : (decoded : List SliceAnswer) → AreOwnAnswers size hs decoded → (n : ℕ)
      (kept : Own) → picture_keeps size hs n ≡ Some kept → (k : ℕ) (d : Decoding)
      → answer_in decoded n k ≡ Some d
      → (is_some (own_slice kept k) ≡ true)
      × (d ≡ slice_coefficients kept.plan.parameters k (unwrap_or (own_slice kept k) []))
  answers_of_kept decoded own n kept keeps k d is = grind (arith, kept_job_by, own_answer_of)

  -- ---- slices that are decoded again

  module _ (n : ℕ) where
    abbrev pub answer_by : Job → SliceAnswer
    answer_by job = record { number = job.number; index = job.index; answer = decoding job }

    abbrev pub with_own : List SliceAnswer → Option Job → List SliceAnswer
    with_own decoded o = option_map_or (λ job. answer_by job ∷ decoded) o decoded

    abbrev pub redone : List ℕ → List SliceAnswer → List SliceAnswer
    redone [] decoded = decoded
    redone (i ∷ is) decoded = redone is (with_own decoded (kept_job size hs n i))

    one_own : (i : ℕ) (decoded : List SliceAnswer) → AreOwnAnswers size hs decoded
        → AreOwnAnswers size hs (with_own decoded (kept_job size hs n i))
    one_own i decoded own = grind (arith, kept_job_numbers)

    pub redone_own : (is : List ℕ) (decoded : List SliceAnswer) → AreOwnAnswers size hs decoded
        → AreOwnAnswers size hs (redone is decoded)
    redone_own [] decoded own = own
    redone_own (i ∷ is) decoded own =
        redone_own is (with_own decoded (kept_job size hs n i)) (one_own i decoded own)

    one_other : (i m k : ℕ) (decoded : List SliceAnswer) → (n ≡ m → ⊥)
        → answer_in (with_own decoded (kept_job size hs n i)) m k ≡ answer_in decoded m k
    one_other i m k decoded other = grind (arith, kept_job_numbers, other_answer)

    pub redone_others : (is : List ℕ) (decoded : List SliceAnswer) (m : ℕ) → (n ≡ m → ⊥)
        → (k : ℕ) → answer_in (redone is decoded) m k ≡ answer_in decoded m k
    redone_others [] decoded m other k = refl
    redone_others (i ∷ is) decoded m other k =
        grind (arith, one_other, redone_others is (with_own decoded (kept_job size hs n i)) m other k)

    one_stays : (k : ℕ) (decoded : List SliceAnswer) (o : Option Job)
        → is_some (answer_in decoded n k) ≡ true
        → is_some (answer_in (with_own decoded o) n k) ≡ true
    one_stays k decoded None there = there
    one_stays k decoded (Some job) there = grind arith

    pub redone_stays : (is : List ℕ) (decoded : List SliceAnswer) (k : ℕ)
        → is_some (answer_in decoded n k) ≡ true
        → is_some (answer_in (redone is decoded) n k) ≡ true
    redone_stays [] decoded k there = there
    redone_stays (i ∷ is) decoded k there =
        redone_stays is (with_own decoded (kept_job size hs n i)) k
        (one_stays k decoded (kept_job size hs n i) there)

    one_there : (k : ℕ) (decoded : List SliceAnswer) → is_some (kept_job size hs n k) ≡ true
        → is_some (answer_in (with_own decoded (kept_job size hs n k)) n k) ≡ true
    one_there k decoded there = grind (arith, kept_job_numbers)

    pub redone_there : (is : List ℕ) (decoded : List SliceAnswer) (k : ℕ)
        → is_some (kept_job size hs n k) ≡ true → is_among is k ≡ true
        → is_some (answer_in (redone is decoded) n k) ≡ true
    redone_there [] decoded k there among = absurd (false≢true among)
    redone_there (i ∷ is) decoded k there among =
        grind (arith, redone_stays, one_there, redone_there is (with_own decoded (kept_job size hs n i)) k there)

-- the feeder's events
pub redo_run : (size n : ℕ) (is : List ℕ) (f : Feeder)
    → feeder_run size f (map (Redo n) is)
    ≡ record f { decoded = redone size (sessions_of f.heard) n is f.decoded }
redo_run size n [] f = refl
redo_run size n (i ∷ is) f = grind (arith, redo_run size n is)
