-- Runs that slices come to.
use Rattle.std.specs.Prelude.{◌≡◌, ◌<◌, ◌+◌, ◌++◌, ◌∷◌, [], length, true}
use Rattle.vc_types.specs.OfPlan.{slice_column}
use Rattle.vc_types.specs.SameValues.{same_parameters}
use Rattle.vc_types.specs.TransformParameters.{parameters_of}
use Rattle.vc_slice.specs.declared.job.SliceJob.{SliceJob}
use Rattle.vc_slice.specs.declared.run.RunJob.{RunJob}

-- the slice is the next of the run's picture, by the same plan, and in the run's row of slices, and the
-- run has room for it
pub record GoesOn (run : RunJob) (job : SliceJob) : Type 0 where
  pub plan : same_parameters (parameters_of run.plan) (parameters_of job.plan) ≡ true
  pub number : run.number ≡ job.number
  pub index : run.first + length run.slices.items ≡ job.index
  pub few : length run.slices.items < 32
  pub in_row : slice_column run.plan run.first + length run.slices.items < run.plan.slices_x

-- the run has the slice as its last one, and is the same in all else
pub record GrewBy (old new : RunJob) (job : SliceJob) : Type 0 where
  pub plan : new.plan ≡ old.plan
  pub number : new.number ≡ old.number
  pub first : new.first ≡ old.first
  pub slices : new.slices.items ≡ old.slices.items ++ job.bytes ∷ []
