-- A run that goes out, by its jobs; and runs that are out no longer.
use Rattle.std.proofs.Common.{◌≡◌, ℕ, zero, suc, ◌+◌, ◌<◌, ◌≤◌, Bool, true, false, cond, List, [], ◌∷◌, length, get_or, map, Some, None, arith, refl, sym, ap, ◌∙◌}
use Rattle.std.specs.List.{prefix_len, range_with_len, remove}
use Rattle.std.specs.Prelude.{◌==◌, filter, nat_lt, not, position}
use Rattle.std.proofs.lemmas.Bool.Decides.{nat_tests}
use Rattle.std.proofs.lemmas.List.Quantifiers.{position-Some}
use Rattle.machine_model.specs.Places.{Job}
use Rattle.receiver_model.specs.Exchanging.{jobs_number, not_at, out_at}
use Rattle.receiver_model.specs.Receptions.{RunOut}
use Rattle.vc_types.specs.TransformParameters.{Parameters, parameters_of}
use Rattle.vc_slice.specs.declared.run.RunJob.{RunJob}
use Rattle.link_slices.specs.Jobs.{jobs_from, jobs_of_run}

module _ (p : Parameters) (number : ℕ) where
  number_is : (n : ℕ) (slices : List (List ℕ)) → 0 < length slices → jobs_number (jobs_from p number n slices) ≡ number
  number_is n [] some = absurd (omega arith)
  number_is n (bytes ∷ slices) some = refl

  indices_are : (n : ℕ) (slices : List (List ℕ)) → map (λ (job : Job). job.index) (jobs_from p number n slices) ≡ range_with_len n (length slices)
  indices_are n [] = refl
  indices_are n (bytes ∷ slices) = ap (λ (l : List ℕ). n ∷ l) (indices_are (n + 1) slices)

pub run_number : (run : RunJob) → jobs_number (jobs_of_run run) ≡ run.number
run_number run = number_is (parameters_of run.plan) run.number run.first run.slices.items run.some

abbrev pub out_with : ℕ → List ℕ → ℕ → RunOut
out_with number indices place = record { number = number; indices = indices; place = place }

pub run_out : (run : RunJob) (place : ℕ) → out_at (jobs_of_run run) place ≡ out_with run.number (range_with_len run.first (length run.slices.items)) place
run_out run place =
    ap (λ (n : ℕ). out_with n (map (λ (job : Job). job.index) (jobs_of_run run)) place) (run_number run)
    ∙ ap (λ (is : List ℕ). out_with run.number is place) (indices_are (parameters_of run.plan) run.number run.first run.slices.items)

-- ---- the runs of a place are taken out, one after another

filter_remove : (p : RunOut → Bool) (out : List RunOut) (i : ℕ) (d : RunOut) → i < length out → p (get_or out i d) ≡ false
    → filter p (remove out i) ≡ filter p out
filter_remove p [] i d inside fails = absurd (omega arith)
filter_remove p (x ∷ out) zero d inside fails = sym (ap (λ (b : Bool). cond b (x ∷ filter p out) (filter p out)) fails)
filter_remove p (x ∷ out) (suc i) d inside fails =
    ap (λ (rest : List RunOut). cond (p x) (x ∷ rest) rest) (filter_remove p out i d (omega arith) fails)

filter_all : (p : RunOut → Bool) (out : List RunOut) → length out ≤ prefix_len p out → filter p out ≡ out
filter_all p [] all = refl
filter_all p (x ∷ out) all = by_test (p x) (filter_all p out) all
  where
    by_test : (b : Bool) → (length out ≤ prefix_len p out → filter p out ≡ out)
        → length (x ∷ out) ≤ cond b (1 + prefix_len p out) 0 → cond b (x ∷ filter p out) (filter p out) ≡ x ∷ out
    by_test true rest h = ap (λ (l : List RunOut). x ∷ l) (rest (omega arith))
    by_test false rest h = absurd (omega arith)

none_before : (n m : ℕ) → cond (nat_lt n m) (Some n) None ≡ None → m ≤ n
none_before n m e = grind (arith, nat_tests)

module _ (place : ℕ) (out : List RunOut) where
  pub forgets_one : (i : ℕ) (d : RunOut) → position (λ (run : RunOut). run.place == place) out ≡ Some i
      → filter (not_at place) (remove out i) ≡ filter (not_at place) out
  forgets_one i d e =
      let at = position-Some (λ (run : RunOut). run.place == place) out i d e in
      filter_remove (not_at place) out i d at.0 (ap not at.1)

  pub forgets_all : position (λ (run : RunOut). run.place == place) out ≡ None → filter (not_at place) out ≡ out
  forgets_all e = filter_all (not_at place) out (none_before (prefix_len (not_at place) out) (length out) e)
