-- A slice of a run, and its coefficients in the run's strip.
use Rattle.std.specs.Prelude.{◌≡◌, ℕ, List, ℤ}
use Rattle.vc_types.specs.declared.video.Component.{Component}
use Rattle.vc_types.specs.Slices.{Coefficients}
use Rattle.vc_types.specs.TransformParameters.{parameters_of}
use Rattle.vc_geometry.specs.OfPlan as geometry
use Rattle.vc_geometry.specs.Runs.{IsOfRun}
use Rattle.vc_slice.specs.declared.bands.SliceBands.{SliceBands}
use Rattle.vc_slice.specs.declared.bands.SliceParts.{SliceParts}
use Rattle.vc_slice.specs.declared.run_parts.RunParts.{RunParts}
use Rattle.vc_slice.specs.Bands.{coefficient_count}
use Rattle.vc_slice.specs.FilledCells.{ChangesAt, FillsAt, PutsAt}
use Rattle.vc_slice.specs.Strips as strips

-- the parts of one of the run's slices
pub record ArePartsOfRun (run : RunParts) (parts : SliceParts) : Type 0 where
  pub plan : parts.plan ≡ run.plan
  pub slice : IsOfRun run.first run.count parts.slice

abbrev pub strip_length : RunParts → Component → ℕ
strip_length run c = geometry.run_coefficient_count run.plan c run.first run.count

-- where coefficient i of the slice stands in the strip
abbrev pub place_in_strip : RunParts → SliceParts → Component → ℕ → ℕ
place_in_strip run parts c = geometry.strip_number run.plan c run.first run.count parts.slice

-- in the strip nothing but the slice's coefficients changed
abbrev pub ChangesStrip : RunParts → SliceParts → Component → List ℤ → List ℤ → Type 0
ChangesStrip run parts c = ChangesAt (coefficient_count parts c) (place_in_strip run parts c)

-- and these are the slice's now
abbrev pub FillsStrip : RunParts → SliceParts → Component → List ℤ → List ℤ → List ℤ → Type 0
FillsStrip run parts c = FillsAt (coefficient_count parts c) (place_in_strip run parts c)

-- a component's coefficients stand at their places there, and none of them is wide
abbrev pub PutsStrip : RunParts → SliceBands → Component → (ℕ → ℤ) → List ℤ → List ℤ → Type 0
PutsStrip run bands c =
    PutsAt (coefficient_count bands.parts.now c) (place_in_strip run bands.parts.now c)

-- slice number n, cut out of the strip
abbrev pub slice_of_strip : RunParts → Coefficients → ℕ → Coefficients
slice_of_strip run = strips.strip_slice (parameters_of run.plan) run.first run.count
