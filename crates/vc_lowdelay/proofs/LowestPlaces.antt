-- LL among the subbands: the first, at the corner; and what slices have of it.
use Rattle.std.proofs.Common.{◌≡◌, ℕ, zero, suc, ◌+◌, ◌-◌, ◌*◌, ◌/◌, ◌^◌, ◌<◌, ◌≤◌, true, ℤ, List, ◌∷◌, length, drop, refl, ap, ◌∙◌, arith}
use Rattle.std.specs.Prelude.{slice_index_or, ◌&&◌, ◌==◌}
use Rattle.std.proofs.lemmas.Bool.{and_from, eq-eqb}
use Rattle.std.proofs.lemmas.Grind.{common_steps}
use Rattle.std.proofs.lemmas.List.{get_or_append_left}
use Rattle.std.proofs.lemmas.Nat.{mul-add-lt, div-mul-add, mod-mul-add, mod_below, div_below}
use Rattle.std.proofs.Math.Nat.{mul_comm}
use Rattle.vc_types.specs.declared.rect.Rect.{Rect}
use Rattle.vc_types.specs.declared.video.Component.{Component}
use Rattle.vc_types.specs.Subbands.{Subband, subband, LL, subbands, subbands_across, subband_at, subband_rectangle, rect, nested, share, share_start, slice_column, slice_row, slice_count, slice_rectangle, slice_rectangles, slice_coefficient_count, coefficient_place, area, place_in, place_among, padded_width, padded_height}
use Rattle.vc_types.specs.TransformParameters.{Parameters}
use Rattle.vc_types.specs.Transforms.{lowest_width, lowest_height}
use Rattle.vc_types.proofs.PlacesMet.{has_cell-share}
use Rattle.vc_types.proofs.RectangleCells.{IsInRect, has_cell, has_cell-inside, inside-has_cell, number_in, number_in-below, place_in-number}
use Rattle.vc_types.proofs.Shares.{owner, owner-below, share_start-within}
use Rattle.vc_types.proofs.SliceRectangles.{coefficients_before-none, coefficients_before-more, slice_rectangles-from, place_among-first}
use Rattle.vc_types.proofs.SubbandOrder.{length-subbands}
use Rattle.vc_slice.proofs.NarrowRuns.{before_within}
use Rattle.vc_lowdelay.specs.Bands.{IsLowest, lowest_rectangle}

-- ---- LL is the first subband

first_across : (e : ℕ) → slice_index_or (subbands_across e) 0 (subband 0 LL) ≡ subband 0 LL
first_across zero = refl
first_across (suc e) = get_or_append_left (subbands_across e) _ (subband 0 LL) 0 (some e) ∙ first_across e
  where
    some : (e : ℕ) → 0 < length (subbands_across e)
    some e = let count = length-subbands e 0 in omega (arith, count)

pub first_subband : (e d : ℕ) → subband_at e d 0 ≡ subband 0 LL
first_subband e zero = first_across e
first_subband e (suc d) =
    let count = length-subbands e d in
    get_or_append_left (subbands e d) _ (subband 0 LL) 0 (omega (arith, count)) ∙ first_subband e d

module _ (p : Parameters) (c : Component) where
  lowest_sides : (w h : ℕ) → w ≡ lowest_width p c → h ≡ lowest_height p c → nested LL w h ≡ rect 0 0 (lowest_width p c) (lowest_height p c)
  lowest_sides w h e f = ap (λ (n : ℕ). rect 0 0 n h) e ∙ ap (rect 0 0 (lowest_width p c)) f

  -- where it stands
  pub lowest_is : subband_rectangle p c (subband 0 LL) ≡ rect 0 0 (lowest_width p c) (lowest_height p c)
  lowest_is = lowest_sides _ _
      (ap (λ (n : ℕ). padded_width p c / 2 ^ n) (omega arith))
      (ap (λ (n : ℕ). padded_height p c / 2 ^ n) (omega arith))

  -- the part that a slice has, by its column and row
  pub lowest_share : (n : ℕ) → lowest_rectangle p c n ≡ share (rect 0 0 (lowest_width p c) (lowest_height p c)) p.slices_x p.slices_y (slice_column p n) (slice_row p n)
  unfolding slice_rectangle
  lowest_share n = ap (λ (r : Rect). share r p.slices_x p.slices_y (slice_column p n) (slice_row p n)) lowest_is

  -- ---- a slice's first coefficients are those of LL

  module _ (n : ℕ) where
    pub lowest_within : area (lowest_rectangle p c n) ≤ slice_coefficient_count p c n
    lowest_within =
        let none = coefficients_before-none p c n in
        let more = coefficients_before-more p c n 0 (omega arith) in
        let own = ap (λ (b : Subband). area (slice_rectangle p c b n)) (first_subband p.depth_ho p.depth) in
        let all = before_within p c n 0 1 in
        omega (arith, none, more, own, all)

    pub lowest_place : (i : ℕ) → i < area (lowest_rectangle p c n) → coefficient_place p c n i ≡ place_in (lowest_rectangle p c n) i
    unfolding coefficient_place
    lowest_place i h =
        let first : slice_rectangle p c (subband_at p.depth_ho p.depth 0) n ≡ lowest_rectangle p c n = ap (λ (b : Subband). slice_rectangle p c b n) (first_subband p.depth_ho p.depth) in
        let all : slice_rectangles p c n ≡ lowest_rectangle p c n ∷ drop 1 (slice_rectangles p c n) = slice_rectangles-from p c n 0 (omega arith) ∙ ap (λ (r : Rect). r ∷ drop 1 (slice_rectangles p c n)) first in
        ap (λ (rs : List Rect). place_among rs i) all ∙ place_among-first (lowest_rectangle p c n) (drop 1 (slice_rectangles p c n)) i h

-- ---- inside LL

rises : (length n k : ℕ) → k < n → share_start length n k ≤ share_start length n (k + 1)
rises length n k h = grind (arith, common_steps)

module _ (p : Parameters) (c : Component) (some_across : 0 < p.slices_x) (n : ℕ) (numbered : n < slice_count p) where
  column_below : slice_column p n < p.slices_x
  column_below = mod_below n p.slices_x some_across

  row_below : slice_row p n < p.slices_y
  row_below = div_below n p.slices_x p.slices_y some_across (rw mul_comm numbered)

  pub lowest_right : (lowest_rectangle p c n).x + (lowest_rectangle p c n).width ≤ lowest_width p c
  lowest_right =
      let x = ap (λ (r : Rect). r.x) (lowest_share p c n) in
      let width = ap (λ (r : Rect). r.width) (lowest_share p c n) in
      let up = rises (lowest_width p c) p.slices_x (slice_column p n) column_below in
      let in_side = share_start-within (lowest_width p c) p.slices_x (slice_column p n) column_below in
      omega (arith, x, width, up, in_side)

  pub lowest_bottom : (lowest_rectangle p c n).y + (lowest_rectangle p c n).height ≤ lowest_height p c
  lowest_bottom =
      let y = ap (λ (r : Rect). r.y) (lowest_share p c n) in
      let height = ap (λ (r : Rect). r.height) (lowest_share p c n) in
      let up = rises (lowest_height p c) p.slices_y (slice_row p n) row_below in
      let in_side = share_start-within (lowest_height p c) p.slices_y (slice_row p n) row_below in
      omega (arith, y, height, up, in_side)

-- ---- each place in LL belongs to a slice

pub record IsOfSlice (p : Parameters) (c : Component) (x y : ℕ) : Type 0 where
  pub slice : ℕ
  pub number : ℕ
  pub numbered : slice < slice_count p
  pub below : number < area (lowest_rectangle p c slice)
  pub place : place_in (lowest_rectangle p c slice) number ≡ (x, y)

module _ (p : Parameters) (c : Component) (x y : ℕ) (across : x < lowest_width p c) (down : y < lowest_height p c)
    (some_across : 0 < p.slices_x) (some_down : 0 < p.slices_y) where
  abbrev k : ℕ
  k = owner (lowest_width p c) p.slices_x x

  abbrev l : ℕ
  l = owner (lowest_height p c) p.slices_y y

  k_below : k < p.slices_x
  k_below = owner-below (lowest_width p c) p.slices_x x some_across across

  l_below : l < p.slices_y
  l_below = owner-below (lowest_height p c) p.slices_y y some_down down

  abbrev own : ℕ
  own = l * p.slices_x + k

  has : has_cell x y (share (rect 0 0 (lowest_width p c) (lowest_height p c)) p.slices_x p.slices_y k l) ≡ true
  has =
      let r = rect 0 0 (lowest_width p c) (lowest_height p c) in
      let inside : has_cell x y r ≡ true = inside-has_cell x y r (record { left = omega arith; right = omega arith; top = omega arith; bottom = omega arith }) in
      has_cell-share p.slices_x p.slices_y x y r k l k_below l_below
      ∙ and_from (has_cell x y r) (k == owner (lowest_width p c) p.slices_x (x - 0) && l == owner (lowest_height p c) p.slices_y (y - 0)) inside
      (and_from (k == owner (lowest_width p c) p.slices_x (x - 0)) (l == owner (lowest_height p c) p.slices_y (y - 0))
      (eq-eqb k (owner (lowest_width p c) p.slices_x (x - 0)) (ap (owner (lowest_width p c) p.slices_x) (omega arith)))
      (eq-eqb l (owner (lowest_height p c) p.slices_y (y - 0)) (ap (owner (lowest_height p c) p.slices_y) (omega arith))))

  own_rectangle : lowest_rectangle p c own ≡ share (rect 0 0 (lowest_width p c) (lowest_height p c)) p.slices_x p.slices_y k l
  own_rectangle =
      let r = rect 0 0 (lowest_width p c) (lowest_height p c) in
      lowest_share p c own
      ∙ ap (λ (n : ℕ). share r p.slices_x p.slices_y n (slice_row p own)) (mod-mul-add l p.slices_x k k_below)
      ∙ ap (λ (n : ℕ). share r p.slices_x p.slices_y k n) (div-mul-add l p.slices_x k k_below)

  inside : IsInRect (lowest_rectangle p c own) x y
  inside = has_cell-inside x y (lowest_rectangle p c own) (ap (has_cell x y) own_rectangle ∙ has)

  pub lowest_met : IsOfSlice p c x y
  lowest_met = record {
    slice = own;
    number = number_in (lowest_rectangle p c own) x y;
    numbered = omega (arith, mul-add-lt l p.slices_x k p.slices_y l_below k_below);
    below = number_in-below (lowest_rectangle p c own) x y inside;
    place = place_in-number (lowest_rectangle p c own) x y inside;
  }

-- ---- a band with its size

pub is_lowest : (p : Parameters) (c : Component) (r : Rect) (cells : List ℤ) → r ≡ subband_rectangle p c (subband_at p.depth_ho p.depth 0)
    → IsLowest p c (record { width = r.width; height = r.height; cells = cells })
is_lowest p c r cells is =
    let at = is ∙ ap (subband_rectangle p c) (first_subband p.depth_ho p.depth) ∙ lowest_is p c in
    record { width = ap (λ (q : Rect). q.width) at; height = ap (λ (q : Rect). q.height) at }
