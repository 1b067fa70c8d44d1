-- What runs leave in some rows of a component's cells.
use Rattle.std.specs.Prelude.{◌≡◌, ◌≢◌, ◌<◌, ◌≤◌, ◌+◌, ◌-◌, ℕ, ℤ, List, [], ◌∷◌, length}
use Rattle.vc_types.specs.declared.video.Component.{Component}
use Rattle.vc_types.specs.Lifting.{line_of}
use Rattle.vc_types.specs.Slices.{coefficients_of}
use Rattle.vc_types.specs.Subbands.{slice_coefficient_count}
use Rattle.vc_types.specs.TransformParameters.{Parameters}
use Rattle.vc_geometry.specs.Runs.{strip_number}
use Rattle.picture_build.specs.declared.waiting.WaitingRun.{WaitingRun}
use Rattle.picture_build.specs.Kept.{kept_at}

-- a cell is one of so many, from a number on
pub record LiesAmong (base count m : ℕ) : Type 0 where
  pub from : base ≤ m
  pub before : m < base + count

-- Of the cells from a number on no others were changed than those of a run's slices, and in those of its
-- slices these coefficients of its strip stand.
pub record FillsRunIn (p : Parameters) (c : Component) (first count base : ℕ)
    (strip old new : List ℤ) : Type 0 where
  pub others : (m : ℕ) → LiesAmong base (length old) m
      → ((k i : ℕ) → k < count → i < slice_coefficient_count p c (first + k)
      → m ≢ kept_at p c (first + k) i) → line_of new (m - base) ≡ line_of old (m - base)
  pub own : (k i : ℕ) → k < count → i < slice_coefficient_count p c (first + k)
      → LiesAmong base (length old) (kept_at p c (first + k) i)
      → line_of new (kept_at p c (first + k) i - base)
      ≡ line_of strip (strip_number p c first count (first + k) i)
  pub length : length new ≡ length old

-- and the same of runs, one after another
unfoldable pub FillsRunsIn : Parameters → Component → ℕ → List WaitingRun → List ℤ → List ℤ → Type 0
FillsRunsIn p c base [] old new = new ≡ old
FillsRunsIn p c base (run ∷ runs) old new = (mid : List ℤ)
    × FillsRunIn p c run.first run.count base (coefficients_of run.strip c) old mid
    × FillsRunsIn p c base runs mid new
