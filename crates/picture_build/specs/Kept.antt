-- A picture whose slices come one after another, in any order: a finite map from a slice's number
-- to its coefficients.
use Rattle.std.specs.Prelude.{◌≡◌, ◌≢◌, ◌<◌, ◌≤◌, ◌+◌, ◌*◌, ℕ, length, Bool, true, false, if◌then◌else◌, List}
use Rattle.std.specs.Prelude.{[], ◌∷◌, map, replicate, slice_index_or, slice_set, ℤ, Option, Some, None}
use Rattle.std.specs.List.{range_with_len}
use Rattle.std.specs.Option.{is_some, unwrap_or}
use Rattle.vc_types.specs.declared.video.Component.{Component}
use Rattle.vc_types.specs.declared.video.Component.TheVariants.{Y, C1, C2}
use Rattle.vc_types.specs.Lifting.{line_of}
use Rattle.vc_types.specs.SliceCoefficients.{AreSliceCoefficients}
use Rattle.vc_types.specs.Slices.{Coefficients, coefficients_of}
use Rattle.vc_types.specs.Subbands.{slice_count, slice_coefficient_count}
use Rattle.vc_types.specs.Subbands.{coefficient_place, padded_width, padded_height}
use Rattle.vc_types.specs.TransformParameters.{Parameters}
use Rattle.vc_geometry.specs.CellRects.{cell_number}
use Rattle.vc_geometry.specs.Runs.{strip_number}
use Rattle.vc_slice.specs.FilledCells.{ChangesAt, FillsAt}
use Rattle.picture_build.specs.PictureCoefficients.{ArePictureCoefficients}

-- the transform parameters, and by its number the coefficients of each slice that came
pub record PartPicture : Type 0 where
  pub parameters : Parameters
  pub slices : List (Option Coefficients)

-- no slice came
abbrev pub no_slices : Parameters → PartPicture
no_slices p = record { parameters = p; slices = replicate (slice_count p) None }

-- the slice of this number, if it came
abbrev pub slice_that_came : PartPicture → ℕ → Option Coefficients
slice_that_came picture n = slice_index_or picture.slices n None

-- all these slices came, in raster order
abbrev pub all_slices : Parameters → List Coefficients → PartPicture
all_slices p slices = record { parameters = p; slices = map Some slices }

-- one slice more
abbrev pub with_slice : PartPicture → ℕ → Coefficients → PartPicture
with_slice picture n s =
    record { parameters = picture.parameters; slices = slice_set picture.slices n (Some s) }

-- slices more, one after another from number n on
unfoldable pub with_run : PartPicture → ℕ → List Coefficients → PartPicture
with_run picture n [] = picture
with_run picture n (s ∷ slices) = with_run (with_slice picture n s) (n + 1) slices

-- every slice came
abbrev pub HasAllSlices : PartPicture → Type 0
HasAllSlices picture =
    (n : ℕ) → n < slice_count picture.parameters → is_some (slice_that_came picture n) ≡ true

abbrev pub no_coefficients : Coefficients
no_coefficients = record { y = []; c1 = []; c2 = [] }

-- the coefficients of the slices in raster order
abbrev pub slices_of : PartPicture → List Coefficients
slices_of picture = map (λ s. unwrap_or s no_coefficients) picture.slices

-- ---- in cells

-- where coefficient i of a slice is kept, in a list of cells
abbrev pub kept_at : Parameters → Component → ℕ → ℕ → ℕ
kept_at p c n i = cell_number (padded_width p c) (coefficient_place p c n i)

-- a slice's coefficients of a component
abbrev pub kept_of : Parameters → Component → ℕ → List ℤ → List ℤ
kept_of p c n cells =
    map (λ i. line_of cells (kept_at p c n i)) (range_with_len 0 (slice_coefficient_count p c n))

abbrev pub kept_slice : Parameters → List ℤ → List ℤ → List ℤ → ℕ → Coefficients
kept_slice p y c1 c2 n = record {
  y = kept_of p Y n y;
  c1 = kept_of p C1 n c1;
  c2 = kept_of p C2 n c2;
}

-- the slices that came, by what each component's cells hold
unfoldable pub kept_entry : Parameters → List Bool → List ℤ → List ℤ → List ℤ → ℕ
    → Option Coefficients
kept_entry p came y c1 c2 n =
    if slice_index_or came n false then Some (kept_slice p y c1 c2 n) else None

abbrev pub kept_slices : Parameters → List Bool → List ℤ → List ℤ → List ℤ
    → List (Option Coefficients)
kept_slices p came y c1 c2 = map (kept_entry p came y c1 c2) (range_with_len 0 (slice_count p))

-- what is true of the cells: each slice has its entry, each component its cells, each slice that
-- came its coefficients, and the largest slice has room with eight more
pub record IsKept (p : Parameters) (came : List Bool) (y c1 c2 : List ℤ) (room : ℕ) : Type 0 where
  pub entries : length came ≡ slice_count p
  pub y_cells : length y ≡ padded_height p Y * padded_width p Y
  pub c1_cells : length c1 ≡ padded_height p C1 * padded_width p C1
  pub c2_cells : length c2 ≡ padded_height p C2 * padded_width p C2
  pub sound : (n : ℕ) → slice_index_or came n false ≡ true
      → AreSliceCoefficients p n (kept_slice p y c1 c2 n)
  pub largest : (c : Component) (n : ℕ) → n < slice_count p
      → slice_coefficient_count p c n + 8 ≤ room

-- the cells of no other slice were changed
abbrev pub ChangesOnly : Parameters → Component → ℕ → List ℤ → List ℤ → Type 0
ChangesOnly p c n = ChangesAt (slice_coefficient_count p c n) (kept_at p c n)

-- and these coefficients stand in those of this slice
abbrev pub FillsSlice : Parameters → Component → ℕ → List ℤ → List ℤ → List ℤ → Type 0
FillsSlice p c n = FillsAt (slice_coefficient_count p c n) (kept_at p c n)

-- no other cells were changed than those of a run's slices
pub record ChangesRun (p : Parameters) (c : Component) (first count : ℕ) (old new : List ℤ)
    : Type 0 where
  pub length : length new ≡ length old
  pub others : (m : ℕ) → ((k i : ℕ) → k < count → i < slice_coefficient_count p c (first + k)
      → m ≢ kept_at p c (first + k) i) → line_of new m ≡ line_of old m

-- and these coefficients of the run's strip stand in them
pub record FillsRun (p : Parameters) (c : Component) (first count : ℕ) (strip old new : List ℤ)
    : Type 0 where
  pub only : ChangesRun p c first count old new
  pub own : (k i : ℕ) → k < count → i < slice_coefficient_count p c (first + k)
      → line_of new (kept_at p c (first + k) i)
      ≡ line_of strip (strip_number p c first count (first + k) i)

-- the cells hold a component of all the slices of a picture
pub record AreIn (p : Parameters) (c : Component) (slices : List Coefficients) (cells : List ℤ)
    : Type 0 where
  pub count : length slices ≡ slice_count p
  pub whole : ArePictureCoefficients p slices
  pub length : length cells ≡ padded_height p c * padded_width p c
  pub stand : (n i : ℕ) (none : Coefficients) → n < slice_count p
      → i < slice_coefficient_count p c n
      → line_of cells (kept_at p c n i)
      ≡ line_of (coefficients_of (slice_index_or slices n none) c) i

-- and so do those of all three
pub record AllAreIn (p : Parameters) (slices : List Coefficients) (y c1 c2 : List ℤ) : Type 0 where
  pub luma : AreIn p Y slices y
  pub first_colour : AreIn p C1 slices c1
  pub second_colour : AreIn p C2 slices c2
