-- The rows of a slice's part of a subband: cells hold them at a constant distance from one another.
use Rattle.std.proofs.Common.{◌≡◌, ℕ, zero, suc, ◌+◌, ◌-◌, ◌*◌, ◌%◌, ◌^◌, ◌<◌, ◌≤◌, ◌⊎◌, inl, inr, min, arith, ap, sym, subst, ◌∙◌}
use Rattle.std.proofs.lemmas.Bool.{cases_eq}
use Rattle.std.proofs.lemmas.Bool.Decides.{nat_tests}
use Rattle.std.proofs.lemmas.Nat.{mod_below, div_below, pow-add}
use Rattle.std.proofs.Math.Nat.{mul-lt-mul_of_pos_right, div-mul-le_self}
use Rattle.std.proofs.Math.Pow.{pow_pos}
use Rattle.vc_types.specs.declared.rect.Rect.{Rect}
use Rattle.vc_types.specs.declared.video.Component.{Component}
use Rattle.vc_types.specs.Quantisation.{subband_count}
use Rattle.vc_types.specs.Subbands.{Orientation, LL, HL, LH, HH, Subband, subband_at, nested, level_side, levels, share, share_start, slice_rectangle, slice_column, slice_row, slice_count, plane_width, plane_height, padded_width, padded_height}
use Rattle.vc_types.specs.TransformParameters.{Parameters}
use Rattle.vc_types.specs.Transforms.{source_of, lowest_width, lowest_height}
use Rattle.vc_types.proofs.SubbandOrder.{level_of, orientation_of, subband_at-level, subband_at-orientation, orientation-LL, orientation-HL, orientation-LH, orientation-HH}
use Rattle.vc_wave.specs.Layout.{row_in_turn, turned_row}
use Rattle.vc_wave.proofs.ExactSides.{twice_once, share_upto, exact_side}
use Rattle.vc_wave.proofs.Grids.{padded_whole}
use Rattle.vc_wave.proofs.LayoutLaws.{turned, turned_in, turned_right, turned_below, row_step, lowest_row}
use Rattle.vc_wave.proofs.Turns.{twice_power}
use Rattle.vc_wave.proofs.Weaving.{source_below}
use Rattle.picture_encode.specs.Rows.{level_below, band_row}

-- ---- a row of a subband

-- what the lower levels leave
left_alone : (w h l x y : ℕ) → (w * 2 ^ suc l ≤ x) ⊎ (h * 2 ^ suc l ≤ y) → turned w h x y ≡ y
left_alone w h l x y (inl right) = turned_right w h x y (twice_once w l x right)
left_alone w h l x y (inr low) = turned_below w h x y (twice_once h l y low)

one_lower : (w h l x y : ℕ) → (w * 2 ^ suc l ≤ x) ⊎ (h * 2 ^ suc l ≤ y) → (2 * w * 2 ^ l ≤ x) ⊎ (2 * h * 2 ^ l ≤ y)
one_lower w h l x y (inl right) = inl (omega (arith, right, twice_power w l))
one_lower w h l x y (inr low) = inr (omega (arith, low, twice_power h l))

row_is : (l levels w h x y : ℕ) → l < levels → (l ≡ 0) ⊎ ((w * 2 ^ l ≤ x) ⊎ (h * 2 ^ l ≤ y)) → x < 2 * (w * 2 ^ l) → y < 2 * (h * 2 ^ l) → row_in_turn levels w h x y ≡ band_row levels l h y
row_is zero zero w h x y lt corner right low = absurd (omega arith)
row_is (suc l) zero w h x y lt corner right low = absurd (omega arith)
row_is zero (suc levels) w h x y lt corner right low =
    let one : h ≡ h * 2 ^ 0 = omega arith in
    let above : levels ≡ suc levels - (0 + 1) = omega arith in
    row_step levels w h x y
    ∙ ap (row_in_turn levels (2 * w) (2 * h) x) (turned_in w h x y (omega arith) (omega arith))
    ∙ lowest_row levels (2 * w) (2 * h) x (source_of h y) (omega arith) (source_below h y (omega arith))
    ∙ ap (λ n. source_of n y * 2 ^ levels) one
    ∙ ap (λ n. source_of (h * 2 ^ 0) y * 2 ^ n) above
row_is (suc l) (suc levels) w h x y lt (inl none) right low = absurd (omega arith)
row_is (suc l) (suc levels) w h x y lt (inr corner) right low =
    let above : levels - (l + 1) ≡ suc levels - (suc l + 1) = omega arith in
    row_step levels w h x y
    ∙ ap (row_in_turn levels (2 * w) (2 * h) x) (left_alone w h l x y corner)
    ∙ row_is l levels (2 * w) (2 * h) x y (omega arith) (inr (one_lower w h l x y corner)) (omega (arith, right, twice_power w l)) (omega (arith, low, twice_power h l))
    ∙ ap (λ n. source_of n y * 2 ^ (levels - (l + 1))) (twice_power h l)
    ∙ ap (λ n. source_of (h * 2 ^ suc l) y * 2 ^ n) above

pub power_parts : (levels l : ℕ) → l < levels → 2 * 2 ^ (levels - (l + 1)) ≡ 2 ^ (levels - l)
power_parts levels l lt =
    let parts : levels - l ≡ 1 + (levels - (l + 1)) = omega arith in
    sym (ap (λ n. 2 ^ n) parts ∙ pow-add 2 1 (levels - (l + 1)))

-- it lies in the grid
row_inside : (levels l h y : ℕ) → l < levels → y < 2 * (h * 2 ^ l) → band_row levels l h y < h * 2 ^ levels
row_inside levels l h y lt low =
    let half = 2 ^ (levels - (l + 1)) in
    let parts : levels ≡ l + (levels - l) = omega arith in
    let all : 2 * (h * 2 ^ l) * half ≡ h * 2 ^ levels =
    omega arith ∙ ap (λ n. h * 2 ^ l * n) (power_parts levels l lt) ∙ omega arith ∙ ap (λ n. h * n) (sym (pow-add 2 l (levels - l)) ∙ ap (λ n. 2 ^ n) (sym parts)) in
    subst (λ n. band_row levels l h y < n) all (mul-lt-mul_of_pos_right (source_below (h * 2 ^ l) y low) (pow_pos (levels - (l + 1))))

-- rows on one side of the level's middle
row_after : (levels l h y row : ℕ) → l < levels → (y + row < h * 2 ^ l) ⊎ (h * 2 ^ l ≤ y) → band_row levels l h (y + row) ≡ band_row levels l h y + row * 2 ^ (levels - l)
row_after levels l h y row lt one_side =
    let half = 2 ^ (levels - (l + 1)) in
    let later : source_of (h * 2 ^ l) (y + row) ≡ source_of (h * 2 ^ l) y + row * 2 = on one_side in
    ap (λ n. n * half) later ∙ omega arith ∙ ap (λ n. source_of (h * 2 ^ l) y * half + row * n) (power_parts levels l lt)
  where
    on : (y + row < h * 2 ^ l) ⊎ (h * 2 ^ l ≤ y) → source_of (h * 2 ^ l) (y + row) ≡ source_of (h * 2 ^ l) y + row * 2
    on (inl high) = grind (arith, nat_tests)
    on (inr low) = grind (arith, nat_tests)

-- ---- the part of a subband

-- a part of a subband that l levels lie below, over a lowest one of w columns and h rows
pub record IsBandPart (l w h : ℕ) (r : Rect) : Type 0 where
  pub right : r.x + r.width ≤ 2 * (w * 2 ^ l)
  pub bottom : r.y + r.height ≤ 2 * (h * 2 ^ l)
  pub corner : (l ≡ 0) ⊎ ((w * 2 ^ l ≤ r.x) ⊎ (h * 2 ^ l ≤ r.y))
  pub one_side : (r.y + r.height ≤ h * 2 ^ l) ⊎ (h * 2 ^ l ≤ r.y)

module _ (l w h a b across down column row : ℕ) (wide : a ≡ w * 2 ^ l) (high : b ≡ h * 2 ^ l) (inside : column < across) (under : row < down) where
  abbrev part : Orientation → Rect
  part o = share (nested o a b) across down column row

  last_column : (share_start a across column ≤ a) × (share_start a across (column + 1) ≤ a)
  last_column = (share_upto a across column (omega arith), share_upto a across (column + 1) (omega arith))

  last_row : (share_start b down row ≤ b) × (share_start b down (row + 1) ≤ b)
  last_row = (share_upto b down row (omega arith), share_upto b down (row + 1) (omega arith))

  lowest_part : l ≡ 0 → IsBandPart l w h (part LL)
  lowest_part first = record {
    right = omega (arith, last_column, wide);
    bottom = omega (arith, last_row, high);
    corner = inl first;
    one_side = inl (omega (arith, last_row, high));
  }

  right_part : IsBandPart l w h (part HL)
  right_part = record {
    right = omega (arith, last_column, wide);
    bottom = omega (arith, last_row, high);
    corner = inr (inl (omega (arith, wide)));
    one_side = inl (omega (arith, last_row, high));
  }

  left_part : IsBandPart l w h (part LH)
  left_part = record {
    right = omega (arith, last_column, wide);
    bottom = omega (arith, last_row, high);
    corner = inr (inr (omega (arith, high)));
    one_side = inr (omega (arith, high));
  }

  last_part : IsBandPart l w h (part HH)
  last_part = record {
    right = omega (arith, last_column, wide);
    bottom = omega (arith, last_row, high);
    corner = inr (inl (omega (arith, wide)));
    one_side = inr (omega (arith, high));
  }

module _ (p : Parameters) (c : Component) (b slice : ℕ) (inside : b < subband_count p.depth_ho p.depth) (some : 1 ≤ p.depth) (none : p.depth_ho ≡ 0) (columns : 0 < p.slices_x) (within : slice < slice_count p) where
  abbrev band : Subband
  band = subband_at p.depth_ho p.depth b

  abbrev l : ℕ
  l = level_below b

  abbrev w : ℕ
  w = lowest_width p c

  abbrev h : ℕ
  h = lowest_height p c

  below : l < p.depth
  below = omega (arith, inside, some, none)

  across : min (levels p) (levels p + 1 - level_of p.depth_ho b) + l ≡ levels p
  across = omega (arith, inside, some, none)

  down : min p.depth (levels p + 1 - level_of p.depth_ho b) + l ≡ p.depth
  down = omega (arith, inside, some, none)

  abbrev side : ℕ
  side = level_side (padded_width p c) (levels p) (levels p) band.level

  abbrev rise : ℕ
  rise = level_side (padded_height p c) p.depth (levels p) band.level

  wide : side ≡ w * 2 ^ l
  wide =
      ap (level_side (padded_width p c) (levels p) (levels p)) (subband_at-level p.depth_ho p.depth b inside)
      ∙ exact_side (padded_width p c) (levels p) l (min (levels p) (levels p + 1 - level_of p.depth_ho b)) (padded_whole (plane_width p.shape c) (levels p)) across

  high : rise ≡ h * 2 ^ l
  high =
      ap (level_side (padded_height p c) p.depth (levels p)) (subband_at-level p.depth_ho p.depth b inside)
      ∙ exact_side (padded_height p c) p.depth l (min p.depth (levels p + 1 - level_of p.depth_ho b)) (padded_whole (plane_height p.shape c) p.depth) down

  column_below : slice_column p slice < p.slices_x
  column_below = mod_below slice p.slices_x columns

  row_below : slice_row p slice < p.slices_y
  row_below = div_below slice p.slices_x p.slices_y columns (omega (arith, within))

  abbrev share_of : Orientation → Rect
  share_of o = share (nested o side rise) p.slices_x p.slices_y (slice_column p slice) (slice_row p slice)

  oriented : (o : Orientation) → orientation_of p.depth_ho b ≡ o → IsBandPart l w h (share_of o) → IsBandPart l w h (slice_rectangle p c band slice)
  unfolding slice_rectangle
  oriented o is made = subst (λ q. IsBandPart l w h (share_of q)) (sym (subband_at-orientation p.depth_ho p.depth b inside ∙ is)) made

  abbrev place : ℕ × ℕ
  place = (slice_column p slice, slice_row p slice)

  is_part : IsBandPart l w h (slice_rectangle p c band slice)
  is_part = elim (cases_eq b 0) [
    | inl first ↦ oriented LL (orientation-LL p.depth_ho b first) (lowest_part l w h side rise p.slices_x p.slices_y place.0 place.1 wide high column_below row_below (omega (arith, first)))
    | inr ne ↦ (let up : p.depth_ho < b = omega (arith, none, ne) in elim (cases_eq ((b - p.depth_ho) % 3) 1) [
      | inl one ↦ oriented HL (orientation-HL p.depth_ho b up one) (right_part l w h side rise p.slices_x p.slices_y place.0 place.1 wide high column_below row_below)
      | inr other ↦ elim (cases_eq ((b - p.depth_ho) % 3) 2) [
        | inl two ↦ oriented LH (orientation-LH p.depth_ho b up two) (left_part l w h side rise p.slices_x p.slices_y place.0 place.1 wide high column_below row_below)
        | inr last ↦ oriented HH (orientation-HH p.depth_ho b up other last) (last_part l w h side rise p.slices_x p.slices_y place.0 place.1 wide high column_below row_below)
      ]
    ])
  ]

  module _ (r : Rect) (is : r ≡ slice_rectangle p c band slice) where
    here : IsBandPart l w h r
    here = subst (IsBandPart l w h) (sym is) is_part

    -- a row of the part and the first one
    later : (row : ℕ) → row < r.height → band_row p.depth l h (r.y + row) ≡ band_row p.depth l h r.y + row * 2 ^ (p.depth - l)
    later row lt = row_after p.depth l h r.y row below (one_side here.one_side)
      where
        one_side : (r.y + r.height ≤ h * 2 ^ l) ⊎ (h * 2 ^ l ≤ r.y) → (r.y + row < h * 2 ^ l) ⊎ (h * 2 ^ l ≤ r.y)
        one_side (inl first) = inl (omega arith)
        one_side (inr second) = inr second

    pub part_row : (x row : ℕ) → r.x ≤ x → x < r.x + r.width → row < r.height → turned_row p c x (r.y + row) ≡ band_row p.depth l h r.y + row * 2 ^ (p.depth - l)
    part_row x row from to lt =
        let lowest : w * 2 ^ p.depth_ho ≡ w = rw none (omega arith) in
        ap (λ n. row_in_turn p.depth n h x (r.y + row)) lowest
        ∙ row_is l p.depth w h x (r.y + row) below (corner here.corner) (omega (arith, here.right)) (omega (arith, here.bottom))
        ∙ later row lt
      where
        corner : (l ≡ 0) ⊎ ((w * 2 ^ l ≤ r.x) ⊎ (h * 2 ^ l ≤ r.y)) → (l ≡ 0) ⊎ ((w * 2 ^ l ≤ x) ⊎ (h * 2 ^ l ≤ r.y + row))
        corner (inl first) = inl first
        corner (inr (inl right)) = inr (inl (omega (arith, right, from)))
        corner (inr (inr low)) = inr (inr (omega (arith, low)))

    pub part_inside : (row : ℕ) → row < r.height → band_row p.depth l h r.y + row * 2 ^ (p.depth - l) < padded_height p c
    part_inside row lt =
        let inside = row_inside p.depth l h (r.y + row) below (omega (arith, here.bottom, lt)) in
        let all : h * 2 ^ p.depth ≤ padded_height p c = div-mul-le_self (padded_height p c) (2 ^ p.depth) in
        omega (arith, inside, all, later row lt)
