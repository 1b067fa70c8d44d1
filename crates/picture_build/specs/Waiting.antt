-- The runs of a picture that wait for their places: what the picture is with them, and what they leave in
-- its cells.
use Rattle.std.specs.Prelude.{◌≡◌, ◌<◌, ◌+◌, ℕ, ℤ, All, Bool, false, List, [], ◌∷◌, None, fold}
use Rattle.std.specs.Prelude.{length, slice_index_or}
use Rattle.std.specs.Option.{is_some}
use Rattle.vc_types.specs.declared.video.Component.{Component}
use Rattle.vc_types.specs.SliceCoefficients.{AreSliceCoefficients}
use Rattle.vc_types.specs.Slices.{coefficients_of}
use Rattle.vc_types.specs.Subbands.{slice_count}
use Rattle.vc_types.specs.TransformParameters.{Parameters}
use Rattle.vc_geometry.specs.Runs.{IsRun}
use Rattle.vc_slice.specs.Strips.{IsStripOf, strip_slice, strip_slices}
use Rattle.picture_build.specs.declared.waiting.WaitingRun.{WaitingRun}
use Rattle.picture_build.specs.Kept.{FillsRun, PartPicture, slice_that_came, with_run}

-- the picture once a run has come
abbrev pub with_waiting : PartPicture → WaitingRun → PartPicture
with_waiting picture run = with_run picture run.first
    (strip_slices picture.parameters run.first run.count run.strip)

-- and once all of them have, one after another
abbrev pub with_runs : PartPicture → List WaitingRun → PartPicture
with_runs = fold with_waiting

-- a run of some slices, and the coefficients of so many in its strip
pub record IsWaitingRun (p : Parameters) (waiting : WaitingRun) : Type 0 where
  pub run : IsRun p waiting.first waiting.count
  pub some : 0 < waiting.count
  pub whole : IsStripOf p waiting.first waiting.count waiting.strip

abbrev pub AreWaitingRuns : Parameters → List WaitingRun → Type 0
AreWaitingRuns p = All (IsWaitingRun p)

-- a run may come: none of its slices came, and each is sound
pub record MayCome (picture : PartPicture) (run : WaitingRun) : Type 0 where
  pub is_run : IsWaitingRun picture.parameters run
  pub once : (k : ℕ) → k < run.count → slice_that_came picture (run.first + k) ≡ None
  pub sound : (k : ℕ) → k < run.count → AreSliceCoefficients picture.parameters (run.first + k)
      (strip_slice picture.parameters run.first run.count run.strip (run.first + k))

-- and so may each of these, once those before it have come
unfoldable pub MayAllCome : PartPicture → List WaitingRun → Type 0
MayAllCome picture [] = Unit {0}
MayAllCome picture (run ∷ runs) = MayCome picture run × MayAllCome (with_waiting picture run) runs

-- what is true of a picture in whose places some slices are and for which runs wait: these may come, and
-- of each slice it is known whether it came
pub record AreWaiting (placed : PartPicture) (runs : List WaitingRun) (came : List Bool) : Type 0 where
  pub slices : length placed.slices ≡ slice_count placed.parameters
  pub entries : length came ≡ slice_count placed.parameters
  pub may_come : MayAllCome placed runs
  pub marked : (n : ℕ) → slice_index_or came n false
      ≡ is_some (slice_that_came (with_runs placed runs) n)

-- ---- in cells

-- of a component no other cells were changed than those of the runs' slices, and these coefficients of
-- their strips stand in them
unfoldable pub FillsRuns : Parameters → Component → List WaitingRun → List ℤ → List ℤ → Type 0
FillsRuns p c [] old new = new ≡ old
FillsRuns p c (run ∷ runs) old new = (mid : List ℤ)
    × FillsRun p c run.first run.count (coefficients_of run.strip c) old mid
    × FillsRuns p c runs mid new
