-- A slice's parts in the cells of a component.
use Rattle.std.specs.Prelude.{◌≡◌, ◌*◌, ◌^◌, ◌<◌, ℕ, List, ℤ, length, unsigned_abs}
use Rattle.vc_types.specs.declared.video.Component.{Component}
use Rattle.vc_types.specs.Lifting.{line_of}
use Rattle.vc_types.specs.Subbands.{padded_width, padded_height}
use Rattle.vc_types.specs.TransformParameters.{parameters_of}
use Rattle.vc_slice.specs.declared.bands.SliceBands.{SliceBands}
use Rattle.vc_slice.specs.declared.bands.SliceParts.{SliceParts}
use Rattle.vc_slice.specs.Bands.{coefficient_count}
use Rattle.vc_slice.specs.FilledCells.{PutsAt}
use Rattle.picture_build.specs.Kept.{kept_at, ChangesOnly, FillsSlice}

-- the cells are those of the component's padded grid
abbrev pub AreCells : SliceParts → Component → List ℤ → Type 0
AreCells parts c cells =
    length cells ≡ padded_height (parameters_of parts.plan) c * padded_width (parameters_of parts.plan) c

-- where coefficient i is kept
abbrev pub place_kept : SliceParts → Component → ℕ → ℕ
place_kept parts c = kept_at (parameters_of parts.plan) c parts.slice

abbrev pub ChangesPart : SliceParts → Component → List ℤ → List ℤ → Type 0
ChangesPart parts c = ChangesOnly (parameters_of parts.plan) c parts.slice

abbrev pub FillsPart : SliceParts → Component → List ℤ → List ℤ → List ℤ → Type 0
FillsPart parts c = FillsSlice (parameters_of parts.plan) c parts.slice

-- a component's coefficients stand at their places, none of them is wide, and no cell of another
-- slice was changed
abbrev pub PutsCoefficients : SliceBands → Component → (ℕ → ℤ) → List ℤ → List ℤ → Type 0
PutsCoefficients bands c =
    PutsAt (coefficient_count bands.parts.now c) (place_kept bands.parts.now c)

-- the same where they may be wide, though none is large
pub record PutsSound (bands : SliceBands) (c : Component) (coefficients : ℕ → ℤ) (old new : List ℤ)
    : Type 0 where
  pub on : (i : ℕ) → i < coefficient_count bands.parts.now c
      → line_of new (place_kept bands.parts.now c i) ≡ coefficients i
  pub small : (i : ℕ) → i < coefficient_count bands.parts.now c
      → unsigned_abs (coefficients i) < 2 ^ 60
  pub only : ChangesPart bands.parts.now c old new
