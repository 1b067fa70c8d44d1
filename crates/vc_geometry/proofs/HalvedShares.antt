-- A slice's share of a halved side is its share of the side, halved.
use Rattle.std.proofs.Common.{◌≡◌, ℕ, ◌+◌, ◌-◌, ◌*◌, ◌/◌, ◌^◌, ◌<◌, ◌≤◌, min, List, length, set, arith, ap, sym, ◌∙◌}
use Rattle.std.proofs.lemmas.Nat.{pow-add, pow_pos}
use Rattle.std.proofs.Math.Nat.{mul_assoc, mul-div_cancel, mul-div-mul_right, div-div-eq-div-mul}
use Rattle.vc_types.specs.declared.rect.Rect.{Rect}
use Rattle.vc_types.specs.declared.video.Component.{Component}
use Rattle.vc_types.specs.Limits.{padded}
use Rattle.vc_types.specs.Quantisation.{subband_count}
use Rattle.vc_types.specs.Subbands.{Orientation, levels, nested, rect, share_start, slice_column, slice_row, padded_width, padded_height}
use Rattle.vc_types.specs.TransformParameters.{Parameters}
use Rattle.vc_types.proofs.SubbandOrder.{level_of, orientation_of, subband_at-level, subband_at-orientation}
use Rattle.vc_geometry.specs.Rectangles.{ArePartsOf}
use Rattle.vc_geometry.proofs.RectanglesInTurn.{part_more, spanned}

halved_share : (unit times n k : ℕ) → share_start (unit * 2 ^ times / 2 ^ times) n k ≡ share_start (unit * 2 ^ times) n k / 2 ^ times
halved_share unit times n k =
    let power = pow_pos times in
    let moved : unit * k * 2 ^ times ≡ unit * 2 ^ times * k = omega arith in
    ap (λ m. m * k / n) (mul-div_cancel unit power) ∙ sym (mul-div-mul_right (unit * k) n power) ∙ ap (λ m. m / (n * 2 ^ times)) moved
    ∙ sym (div-div-eq-div-mul (unit * 2 ^ times * k) n (2 ^ times))

-- a padded side can be halved so often
padded_share : (side depth times n k : ℕ) → times ≤ depth → share_start (padded side depth / 2 ^ times) n k ≡ share_start (padded side depth) n k / 2 ^ times
padded_share side depth times n k few =
    let units = (side + 2 ^ depth - 1) / 2 ^ depth in
    let parts : depth - times + times ≡ depth = omega arith in
    let power : 2 ^ (depth - times) * 2 ^ times ≡ 2 ^ depth = sym (pow-add 2 (depth - times) times) ∙ ap (λ m. 2 ^ m) parts in
    let whole : units * 2 ^ (depth - times) * 2 ^ times ≡ padded side depth = mul_assoc units (2 ^ (depth - times)) (2 ^ times) ∙ ap (λ m. units * m) power in
    ap (λ m. share_start (m / 2 ^ times) n k) (sym whole) ∙ halved_share (units * 2 ^ (depth - times)) times n k ∙ ap (λ m. share_start m n k / 2 ^ times) whole

-- what a slice has of a side that is halved so many times
pub record IsHalf (whole n k times side from to : ℕ) : Type 0 where
  pub side_is : side ≡ whole / 2 ^ times
  pub from_is : from ≡ share_start (whole / 2 ^ times) n k
  pub to_is : to ≡ share_start (whole / 2 ^ times) n (k + 1)
  pub ordered : (from ≤ to) × (to ≤ side)

pub half : (plane depth times n k at width side first last w from to : ℕ) → times ≤ depth → width ≡ padded plane depth → at ≡ k
    → side ≡ width → first ≡ share_start width n at → last ≡ share_start width n (at + 1)
    → w ≡ side / 2 ^ times → from ≡ first / 2 ^ times → to ≡ last / 2 ^ times → (from ≤ to) × (to ≤ w) × (w ≤ 8192) → IsHalf (padded plane depth) n k times w from to
half plane depth times n k at width side first last w from to few is place whole first_is last_is w_is from_is to_is ordered = record {
  side_is = w_is ∙ ap (λ m. m / 2 ^ times) (whole ∙ is);
  from_is = from_is ∙ ap (λ m. m / 2 ^ times) (first_is ∙ ap (λ m. share_start m n at) is ∙ ap (share_start (padded plane depth) n) place) ∙ sym (padded_share plane depth times n k few);
  to_is = to_is ∙ ap (λ m. m / 2 ^ times) (last_is ∙ ap (λ m. share_start m n (at + 1)) is ∙ ap (λ m. share_start (padded plane depth) n (m + 1)) place) ∙ sym (padded_share plane depth times n (k + 1) few);
  ordered = (ordered.0, ordered.1);
}

-- one subband more
module _ (p : Parameters) (c : Component) (slice b : ℕ) (rects : List Rect) (n : ℕ) (r : Rect) (o : Orientation) (x y across down w left right h top bottom : ℕ) where
  pub add_part : ArePartsOf p c slice b rects → b < length rects → b < subband_count p.depth_ho p.depth → orientation_of p.depth_ho b ≡ o
      → min (levels p) (levels p + 1 - level_of p.depth_ho b) ≡ across → min p.depth (levels p + 1 - level_of p.depth_ho b) ≡ down
      → IsHalf (padded_width p c) p.slices_x (slice_column p slice) across w left right → IsHalf (padded_height p c) p.slices_y (slice_row p slice) down h top bottom
      → n ≡ b + 1 → r ≡ rect (x + left) (y + top) (right - left) (bottom - top) → nested o w h ≡ rect x y w h → x + w ≤ padded_width p c → y + h ≤ padded_height p c → (padded_width p c ≤ 8192) × (padded_height p c ≤ 8192)
      → ArePartsOf p c slice n (set rects b r)
  add_part before inside below orientation times_across times_down columns rows count value corner fits_across fits_down small =
      grind (arith, level_of, subband_at-level, subband_at-orientation, part_more, spanned)
