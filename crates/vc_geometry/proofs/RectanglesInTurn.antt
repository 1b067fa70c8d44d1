-- A slice's rectangles, one after another.
use Rattle.std.proofs.Common.{◌≡◌, ℕ, ◌+◌, ◌-◌, ◌<◌, ◌≤◌, List, length, set, arith, ap, ◌∙◌}
use Rattle.std.specs.Prelude.{slice_index_or}
use Rattle.std.proofs.lemmas.List.{get_or-set_same, get_or-set_other}
use Rattle.vc_types.specs.declared.rect.Rect.{Rect}
use Rattle.vc_types.specs.declared.video.Component.{Component}
use Rattle.vc_types.specs.Subbands.{rect, share, share_start, subband_at, subband_rectangle, slice_rectangle, slice_column, slice_row, padded_width, padded_height}
use Rattle.vc_types.specs.TransformParameters.{Parameters}
use Rattle.vc_types.proofs.SliceRectangles.{share-computed}
use Rattle.vc_geometry.specs.Rectangles.{ArePartsOf}

pub part_at : (r : Rect) (across down column row k t : ℕ) → column ≡ k → row ≡ t → share r across down column row ≡ share r across down k t
part_at r across down column row k t same also = ap (λ n. share r across down n row) same ∙ ap (λ n. share r across down k n) also

-- a part by where it begins and ends
pub spanned : (r : Rect) (across down column row left right top bottom : ℕ) → left ≡ share_start r.width across column → right ≡ share_start r.width across (column + 1)
    → top ≡ share_start r.height down row → bottom ≡ share_start r.height down (row + 1)
    → rect (r.x + left) (r.y + top) (right - left) (bottom - top) ≡ share r across down column row
spanned r across down column row left right top bottom first last above below = grind (arith, share-computed)

module _ (p : Parameters) (c : Component) (slice b : ℕ) (rects : List Rect) (band r : Rect) (inside : b < length rects)
    (is : band ≡ subband_rectangle p c (subband_at p.depth_ho p.depth b)) (value : r ≡ share band p.slices_x p.slices_y (slice_column p slice) (slice_row p slice))
    (right : r.x + r.width ≤ padded_width p c) (bottom : r.y + r.height ≤ padded_height p c) (few : (r.x + r.width ≤ 8192) × (r.y + r.height ≤ 8192)) (before : ArePartsOf p c slice b rects) where
  own : r ≡ slice_rectangle p c (subband_at p.depth_ho p.depth b) slice
  unfolding slice_rectangle
  own = value ∙ ap (λ (q : Rect). share q p.slices_x p.slices_y (slice_column p slice) (slice_row p slice)) is

  at : (P : ℕ → Rect → Type 0) → P b r → ((k : ℕ) (none : Rect) → k < b → P k (slice_index_or rects k none)) → (k : ℕ) (none : Rect) → k < b + 1 → P k (slice_index_or (set rects b r) k none)
  at P here earlier k none h = grind (arith, get_or-set_same, get_or-set_other)

  pub part_more : ArePartsOf p c slice (b + 1) (set rects b r)
  part_more = record {
    parts = at (λ k q. q ≡ slice_rectangle p c (subband_at p.depth_ho p.depth k) slice) own before.parts;
    right = at (λ k q. q.x + q.width ≤ padded_width p c) right before.right;
    bottom = at (λ k q. q.y + q.height ≤ padded_height p c) bottom before.bottom;
    small = at (λ k q. (q.x + q.width ≤ 8192) × (q.y + q.height ≤ 8192)) few before.small;
  }

-- of none
pub no_parts : (p : Parameters) (c : Component) (slice : ℕ) (rects : List Rect) → ArePartsOf p c slice 0 rects
no_parts p c slice rects = grind arith
