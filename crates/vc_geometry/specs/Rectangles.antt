-- The rectangles of a slice's coefficients.
use Rattle.std.specs.Prelude.{◌≡◌, ◌+◌, ◌<◌, ◌≤◌, ℕ, List, slice_index_or}
use Rattle.vc_types.specs.declared.rect.Rect.{Rect}
use Rattle.vc_types.specs.declared.video.Component.{Component}
use Rattle.vc_types.specs.Quantisation.{subband_count}
use Rattle.vc_types.specs.Subbands.{subband_at, slice_rectangle, padded_width, padded_height}
use Rattle.vc_types.specs.TransformParameters.{Parameters}

-- the first rectangles of a list are the parts of the first n subbands that belong to a slice,
-- inside the padded grid
pub record ArePartsOf (p : Parameters) (c : Component) (slice n : ℕ) (rects : List Rect)
    : Type 0 where
  pub parts : (b : ℕ) (none : Rect) → b < n
      → slice_index_or rects b none
      ≡ slice_rectangle p c (subband_at p.depth_ho p.depth b) slice
  pub right : (b : ℕ) (none : Rect) → b < n
      → (slice_index_or rects b none).x + (slice_index_or rects b none).width ≤ padded_width p c
  pub bottom : (b : ℕ) (none : Rect) → b < n
      → (slice_index_or rects b none).y + (slice_index_or rects b none).height ≤ padded_height p c
  pub small : (b : ℕ) (none : Rect) → b < n
      → ((slice_index_or rects b none).x + (slice_index_or rects b none).width ≤ 8192)
      × ((slice_index_or rects b none).y + (slice_index_or rects b none).height ≤ 8192)

-- the same of all subbands
abbrev pub AreSliceRectangles : Parameters → Component → ℕ → List Rect → Type 0
AreSliceRectangles p c slice = ArePartsOf p c slice (subband_count p.depth_ho p.depth)
