-- The rectangles of a slice of a plan, and of a run of its slices.
use Rattle.std.specs.Prelude.{ℕ, List}
use Rattle.vc_types.specs.declared.plan.Plan.{Plan}
use Rattle.vc_types.specs.declared.rect.Rect.{Rect}
use Rattle.vc_types.specs.declared.video.Component.{Component}
use Rattle.vc_types.specs.Subbands.{subband_at}
use Rattle.vc_types.specs.TransformParameters.{parameters_of}
use Rattle.vc_geometry.specs.Rectangles as rectangles
use Rattle.vc_geometry.specs.Runs as runs

abbrev pub AreSliceRectangles : Plan → Component → ℕ → List Rect → Type 0
AreSliceRectangles plan = rectangles.AreSliceRectangles (parameters_of plan)

-- so many slices, from one of them on, are slices of one row
abbrev pub IsRun : Plan → ℕ → ℕ → Type 0
IsRun plan = runs.IsRun (parameters_of plan)

abbrev pub AreRunRectangles : Plan → Component → ℕ → ℕ → List Rect → Type 0
AreRunRectangles plan = runs.AreRunRectangles (parameters_of plan)

-- the part of subband number b that belongs to a run
abbrev pub run_rectangle : Plan → Component → ℕ → ℕ → ℕ → Rect
run_rectangle plan c first count b =
    runs.run_rectangle (parameters_of plan) c first count (subband_at plan.depth_ho plan.depth b)

-- how many coefficients of a component a run has
abbrev pub run_coefficient_count : Plan → Component → ℕ → ℕ → ℕ
run_coefficient_count plan = runs.run_coefficient_count (parameters_of plan)

-- where coefficient i of slice n stands in the strip of a run
abbrev pub strip_number : Plan → Component → ℕ → ℕ → ℕ → ℕ → ℕ
strip_number plan = runs.strip_number (parameters_of plan)
