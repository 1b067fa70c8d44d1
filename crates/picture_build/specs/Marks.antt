-- Which slices of a picture came, once the slices of runs are marked.
use Rattle.std.specs.Prelude.{◌≡◌, ◌<◌, ◌≤◌, ◌+◌, ◌⊎◌, ℕ, All, Bool, true, false, List, [], ◌∷◌}
use Rattle.std.specs.Prelude.{length, slice_index_or}
use Rattle.picture_build.specs.declared.waiting.WaitingRun.{WaitingRun}

-- so many slices, from one of them on, came, and the others did as before
pub record MarksRun (first count : ℕ) (old new : List Bool) : Type 0 where
  pub on : (k : ℕ) → k < count → slice_index_or new (first + k) false ≡ true
  pub off : (n : ℕ) → (n < first) ⊎ (first + count ≤ n)
      → slice_index_or new n false ≡ slice_index_or old n false
  pub length : length new ≡ length old

-- and so did those of runs, one after another
unfoldable pub MarksRuns : List WaitingRun → List Bool → List Bool → Type 0
MarksRuns [] old new = new ≡ old
MarksRuns (run ∷ runs) old new =
    (mid : List Bool) × MarksRun run.first run.count old mid × MarksRuns runs mid new

-- each run lies among so many slices
abbrev pub AreInside : ℕ → List WaitingRun → Type 0
AreInside len = All (λ (run : WaitingRun). run.first + run.count ≤ len)
