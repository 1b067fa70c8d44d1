-- What holds of runs to which slices come.
use Rattle.std.proofs.Common.{◌≡◌, ℕ, ◌+◌, ◌*◌, ◌^◌, ◌<◌, ◌≤◌, Bool, true, false, cond, List, [], ◌∷◌, ◌++◌, length, All, Some, arith, sym, subst}
use Rattle.std.proofs.lemmas.Bool.Decides.{nat_tests}
use Rattle.std.proofs.lemmas.List.{length-append}
use Rattle.std.proofs.lemmas.List.Elements.{All-push}
use Rattle.vc_types.specs.Limits.{slices_fit}
use Rattle.vc_types.specs.Slices.{slice_length}
use Rattle.vc_types.specs.TransformParameters.{Parameters, parameters_of}
use Rattle.vc_types.proofs.SameValues.{parameters_exactly}
use Rattle.vc_geometry.specs.Runs.{IsRun}
use Rattle.vc_slice.specs.declared.job.SliceJob.{SliceJob}
use Rattle.vc_slice.specs.declared.run.RunJob.{RunJob}
use Rattle.vc_slice.specs.RunJobs.{GoesOn}

-- one whole slice by these parameters
abbrev pub IsWholeSlice : Parameters → List ℕ → Type 0
IsWholeSlice p bytes = slice_length p.prefix p.scaler bytes ≡ Some (length bytes)

-- these may be the slices of a run of the same picture, from the same slice on
pub record AreSlicesOf (old : RunJob) (slices : List (List ℕ)) : Type 0 where
  pub whole : All (IsWholeSlice (parameters_of old.plan)) slices
  pub some : 0 < length slices
  pub few : length slices ≤ 32
  pub run : IsRun (parameters_of old.plan) old.first (length slices)

pub same_slices : (run : RunJob) (slices : List (List ℕ)) → slices ≡ run.slices.items → AreSlicesOf run slices
same_slices run slices e = subst (AreSlicesOf run) (sym e) (record { whole = run.whole; some = run.some; few = run.few; run = run.run })

-- ---- of one slice more

module _ (run : RunJob) (job : SliceJob) (goes : GoesOn run job) where
  pub more_whole : All (IsWholeSlice (parameters_of run.plan)) (run.slices.items ++ job.bytes ∷ [])
  more_whole =
      let same : parameters_of run.plan ≡ parameters_of job.plan = (parameters_exactly (parameters_of run.plan) (parameters_of job.plan)).0 goes.plan in
      All-push (IsWholeSlice (parameters_of run.plan)) run.slices.items job.bytes run.whole (subst (λ (p : Parameters). IsWholeSlice p job.bytes) (sym same) job.whole)

  longer : length (run.slices.items ++ job.bytes ∷ []) ≡ length run.slices.items + 1
  longer = length-append run.slices.items (job.bytes ∷ [])

  pub more_some : 0 < length (run.slices.items ++ job.bytes ∷ [])
  more_some = omega (arith, longer)

  pub more_few : length (run.slices.items ++ job.bytes ∷ []) ≤ 32
  more_few = omega (arith, longer, goes.few)

  pub more_run : IsRun (parameters_of run.plan) run.first (length (run.slices.items ++ job.bytes ∷ []))
  more_run = record { in_plan = run.run.in_plan; in_row = omega (arith, longer, goes.in_row) }

  -- whether there was memory for it
  pub or_same : (pushed : Bool) → AreSlicesOf run (cond pushed (run.slices.items ++ job.bytes ∷ []) run.slices.items)
  or_same true = record { whole = more_whole; some = more_some; few = more_few; run = more_run }
  or_same false = record { whole = run.whole; some = run.some; few = run.few; run = run.run }

-- ---- its slices

few_slices : (across down : ℕ) → slices_fit across down ≡ true → across * down ≤ 131072
few_slices across down h = grind (arith, nat_tests)

-- the number of each fits a word
pub index-fits : (run : RunJob) (k : ℕ) → k < length run.slices.items → run.first + k < 2 ^ 32
index-fits run k h =
    let few = few_slices run.plan.slices_x run.plan.slices_y run.plan.slices in
    omega (arith, few, run.few, run.run.in_plan)
