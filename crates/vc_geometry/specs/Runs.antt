-- A run: slices one after another, all in one row of slices. The strip of a run has of each subband
-- the rectangle of all its slices row by row, the subbands in order.
use Rattle.std.specs.Prelude.{◌≡◌, ◌<◌, ◌≤◌, ℕ, ◌+◌, ◌-◌, ◌*◌, nat_lt, if◌then◌else◌}
use Rattle.std.specs.Prelude.{List, ◌∷◌, map, slice_index_or}
use Rattle.std.specs.List.{sum_by}
use Rattle.vc_types.specs.declared.rect.Rect.{Rect}
use Rattle.vc_types.specs.declared.video.Component.{Component}
use Rattle.vc_types.specs.Quantisation.{subband_count}
use Rattle.vc_types.specs.Subbands.{Place, Subband, area, padded_height, padded_width, place_in, rect}
use Rattle.vc_types.specs.Subbands.{share_start, slice_column, slice_count, slice_rectangles, slice_row}
use Rattle.vc_types.specs.Subbands.{subband_at, subband_rectangle, subbands}
use Rattle.vc_types.specs.TransformParameters.{Parameters}

-- so many slices, from one of them on, are slices of one row
pub record IsRun (p : Parameters) (first count : ℕ) : Type 0 where
  pub in_plan : first < slice_count p
  pub in_row : slice_column p first + count ≤ p.slices_x

-- slice n is one of them
pub record IsOfRun (first count n : ℕ) : Type 0 where
  pub from : first ≤ n
  pub to : n < first + count

-- the part of a rectangle that belongs to so many columns, from one on, and a row of slices
abbrev pub wide_share : Rect → ℕ → ℕ → ℕ → ℕ → ℕ → Rect
wide_share r across down column count row = rect
    (r.x + share_start r.width across column)
    (r.y + share_start r.height down row)
    (share_start r.width across (column + count) - share_start r.width across column)
    (share_start r.height down (row + 1) - share_start r.height down row)

-- the part of a subband that belongs to a run
unfoldable pub run_rectangle : Parameters → Component → ℕ → ℕ → Subband → Rect
run_rectangle p c first count b = wide_share
    (subband_rectangle p c b) p.slices_x p.slices_y (slice_column p first) count (slice_row p first)

abbrev pub run_rectangles : Parameters → Component → ℕ → ℕ → List Rect
run_rectangles p c first count = map (run_rectangle p c first count) (subbands p.depth_ho p.depth)

-- how many coefficients of a component a run has
unfoldable pub run_coefficient_count : Parameters → Component → ℕ → ℕ → ℕ
run_coefficient_count p c first count = sum_by area (run_rectangles p c first count)

-- the number of a cell in a rectangle, row by row
abbrev pub cell_of : Rect → Place → ℕ
cell_of r place = (place.1 - r.y) * r.width + (place.0 - r.x)

-- cell i of rectangles that are taken one after another, as a cell of others, each of which holds
-- one of these
unfoldable pub cell_among : List Rect → List Rect → ℕ → ℕ
cell_among (whole ∷ wholes) (part ∷ parts) i =
    if nat_lt i (area part) then cell_of whole (place_in part i)
    else area whole + cell_among wholes parts (i - area part)
cell_among wholes parts i = i

-- where coefficient i of slice n stands in the strip of a run
unfoldable pub strip_number : Parameters → Component → ℕ → ℕ → ℕ → ℕ → ℕ
strip_number p c first count n i =
    cell_among (run_rectangles p c first count) (slice_rectangles p c n) i

-- the first rectangles of a list are the parts of the first n subbands that belong to a run, inside
-- the padded grid
pub record AreRunParts (p : Parameters) (c : Component) (first count n : ℕ) (rects : List Rect)
    : Type 0 where
  pub parts : (b : ℕ) (none : Rect) → b < n
      → slice_index_or rects b none ≡ run_rectangle p c first count (subband_at p.depth_ho p.depth b)
  pub right : (b : ℕ) (none : Rect) → b < n
      → (slice_index_or rects b none).x + (slice_index_or rects b none).width ≤ padded_width p c
  pub bottom : (b : ℕ) (none : Rect) → b < n
      → (slice_index_or rects b none).y + (slice_index_or rects b none).height ≤ padded_height p c
  pub small : (b : ℕ) (none : Rect) → b < n
      → ((slice_index_or rects b none).x + (slice_index_or rects b none).width ≤ 8192)
      × ((slice_index_or rects b none).y + (slice_index_or rects b none).height ≤ 8192)

-- the same of all subbands
abbrev pub AreRunRectangles : Parameters → Component → ℕ → ℕ → List Rect → Type 0
AreRunRectangles p c first count = AreRunParts p c first count (subband_count p.depth_ho p.depth)
