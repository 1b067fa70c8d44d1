-- Subbands and slices (ST 2042-1, subband data dimensions and slice coordinates). A component's
-- coefficients stand in a grid of the padded size with the subbands nested: LL at the corner, then
-- H to the right of what stands, level by level across alone, then HL to the right, LH below and HH
-- across, level by level.
use Rattle.std.specs.Prelude.{◌≡◌, ◌<◌, ℕ, zero, suc, ◌+◌, ◌-◌, ◌*◌, ◌/◌, ◌%◌, ◌^◌, min, nat_lt}
use Rattle.std.specs.Prelude.{if◌then◌else◌, List, [], ◌∷◌, ◌++◌, map, slice_index_or}
use Rattle.std.specs.List.{sum_by}
use Rattle.vc_types.specs.declared.rect.Rect.{Rect}
use Rattle.vc_types.specs.declared.shape.Shape.{Shape}
use Rattle.vc_types.specs.declared.video.Component.{Component}
use Rattle.vc_types.specs.declared.video.Component.TheVariants.{Y, C1, C2}
use Rattle.vc_types.specs.Limits.{padded}
use Rattle.vc_types.specs.TransformParameters.{Parameters}

-- ---- planes and their padded sizes

abbrev pub plane_width : Shape → Component → ℕ
plane_width s Y = s.luma_width
plane_width s C1 = s.colour_width
plane_width s C2 = s.colour_width

abbrev pub plane_height : Shape → Component → ℕ
plane_height s Y = s.luma_height
plane_height s C1 = s.colour_height
plane_height s C2 = s.colour_height

abbrev pub plane_depth : Shape → Component → ℕ
plane_depth s Y = s.luma_depth
plane_depth s C1 = s.colour_depth
plane_depth s C2 = s.colour_depth

-- the levels both ways and those across alone
abbrev pub levels : Parameters → ℕ
levels p = p.depth + p.depth_ho

abbrev pub padded_width : Parameters → Component → ℕ
padded_width p c = padded (plane_width p.shape c) (levels p)

abbrev pub padded_height : Parameters → Component → ℕ
padded_height p c = padded (plane_height p.shape c) p.depth

-- ---- subbands

-- Levels across alone have H; LL is the standard's L where there are such levels.
pub data Orientation : Type 0 where
  LL : Orientation
  H : Orientation
  HL : Orientation
  LH : Orientation
  HH : Orientation

-- a level, 0 for LL, and an orientation
pub record Subband : Type 0 where
  pub level : ℕ
  pub orientation : Orientation

abbrev pub subband : ℕ → Orientation → Subband
subband level orientation = record { level = level; orientation = orientation }

-- LL, and H of each level across alone upwards
abbrev pub subbands_across : ℕ → List Subband
subbands_across zero = subband 0 LL ∷ []
subbands_across (suc e) = subbands_across e ++ subband (suc e) H ∷ []

abbrev pub both_ways : ℕ → List Subband
both_ways level = subband level HL ∷ subband level LH ∷ subband level HH ∷ []

-- the subbands of e levels across alone, then HL, LH and HH of each of d further levels upwards
abbrev pub subbands : ℕ → ℕ → List Subband
subbands e zero = subbands_across e
subbands e (suc d) = subbands e d ++ both_ways (e + suc d)

-- subband number b, in this order
abbrev pub subband_at : ℕ → ℕ → ℕ → Subband
subband_at e d b = slice_index_or (subbands e d) b (subband 0 LL)

-- a side of the subbands of a level, of so many levels, `most` of which have halved this side of
-- the padded plane
abbrev pub level_side : ℕ → ℕ → ℕ → ℕ → ℕ
level_side side most levels level = side / 2 ^ min most (levels + 1 - level)

abbrev pub rect : ℕ → ℕ → ℕ → ℕ → Rect
rect x y width height = record { x = x; y = y; width = width; height = height }

-- a subband's rectangle, of these sides
abbrev pub nested : Orientation → ℕ → ℕ → Rect
nested LL w h = rect 0 0 w h
nested H w h = rect w 0 w h
nested HL w h = rect w 0 w h
nested LH w h = rect 0 h w h
nested HH w h = rect w h w h

abbrev pub subband_rectangle : Parameters → Component → Subband → Rect
subband_rectangle p c b = nested b.orientation
    (level_side (padded_width p c) (levels p) (levels p) b.level)
    (level_side (padded_height p c) p.depth (levels p) b.level)

-- ---- slices

-- slices are numbered row by row
abbrev pub slice_column : Parameters → ℕ → ℕ
slice_column p slice = slice % p.slices_x

abbrev pub slice_row : Parameters → ℕ → ℕ
slice_row p slice = slice / p.slices_x

abbrev pub slice_count : Parameters → ℕ
slice_count p = p.slices_x * p.slices_y

-- where share k of n begins, in a length
abbrev pub share_start : ℕ → ℕ → ℕ → ℕ
share_start length n k = length * k / n

-- the part of a rectangle that belongs to a column and a row of slices
abbrev pub share : Rect → ℕ → ℕ → ℕ → ℕ → Rect
share r across down column row = rect
    (r.x + share_start r.width across column)
    (r.y + share_start r.height down row)
    (share_start r.width across (column + 1) - share_start r.width across column)
    (share_start r.height down (row + 1) - share_start r.height down row)

-- the part of a subband that belongs to a slice
unfoldable pub slice_rectangle : Parameters → Component → Subband → ℕ → Rect
slice_rectangle p c b slice =
    share (subband_rectangle p c b) p.slices_x p.slices_y (slice_column p slice) (slice_row p slice)

-- ---- the places of a slice's coefficients: the subbands in order, in each its rectangle by rows

abbrev pub area : Rect → ℕ
area r = r.width * r.height

-- a cell of the grid
abbrev pub Place : Type 0
Place = ℕ × ℕ

-- cell i of a rectangle, row by row
abbrev pub place_in : Rect → ℕ → Place
place_in r i = (r.x + i % r.width, r.y + i / r.width)

-- cell i of rectangles that are taken one after another
unfoldable pub place_among : List Rect → ℕ → Place
place_among [] i = (0, 0)
place_among (r ∷ rs) i = if nat_lt i (area r) then place_in r i else place_among rs (i - area r)

abbrev pub slice_rectangles : Parameters → Component → ℕ → List Rect
slice_rectangles p c slice = map (λ b. slice_rectangle p c b slice) (subbands p.depth_ho p.depth)

-- how many coefficients of a component a slice has
unfoldable pub slice_coefficient_count : Parameters → Component → ℕ → ℕ
slice_coefficient_count p c slice = sum_by area (slice_rectangles p c slice)

-- the place of coefficient i of a component in a slice
unfoldable pub coefficient_place : Parameters → Component → ℕ → ℕ → Place
coefficient_place p c slice i = place_among (slice_rectangles p c slice) i

-- one coefficient of a component, and no other, stands in column x and row y: by its slice, and its
-- number there
pub record IsMetOnce (p : Parameters) (c : Component) (x y : ℕ) : Type 0 where
  pub slice : ℕ
  pub number : ℕ
  pub slice_below : slice < slice_count p
  pub number_below : number < slice_coefficient_count p c slice
  pub place : coefficient_place p c slice number ≡ (x, y)
  pub only : (s i : ℕ) → s < slice_count p → i < slice_coefficient_count p c s
      → coefficient_place p c s i ≡ (x, y) → (s ≡ slice) × (i ≡ number)
