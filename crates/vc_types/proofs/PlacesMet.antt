-- A component's slices meet each cell of the padded grid exactly once.
use Rattle.std.proofs.Common.{◌≡◌, ℕ, ◌+◌, ◌-◌, ◌*◌, ◌%◌, ◌<◌, Bool, true, false, cond, List, [], ◌∷◌, map, arith, refl, ap, sym, subst, ◌∙◌, inl, inr}
use Rattle.std.specs.Prelude.{count_by, nat_lt, nat_le, ◌&&◌, ◌==◌}
use Rattle.std.specs.List.{sum_by}
use Rattle.std.proofs.lemmas.Bool.{cases_Bool, and_parts, and_left, eqb-true}
use Rattle.std.proofs.lemmas.Bool.Decides.{nat_tests}
use Rattle.std.proofs.lemmas.Nat.{mul-add-lt, div-mul-add, mod-mul-add, mod_below, div_below}
use Rattle.std.proofs.lemmas.Simd.{map-map}
use Rattle.std.proofs.Math.Nat.{div-add-mod'}
use Rattle.vc_types.specs.declared.rect.Rect.{Rect}
use Rattle.vc_types.specs.declared.video.Component.{Component}
use Rattle.vc_types.specs.Subbands.{subbands, subband_rectangle, share, share_start, slice_column, slice_row, slice_count, slice_rectangle, slice_rectangles, slice_coefficient_count, coefficient_place, padded_width, padded_height, area, place_among, IsMetOnce}
use Rattle.vc_types.specs.TransformParameters.{Parameters}
use Rattle.vc_types.proofs.RectangleCells.{has_cell, has_cell-inside}
use Rattle.vc_types.proofs.RectangleLists.{HasNumber, numbered_once, none_numbered, count-cons}
use Rattle.vc_types.proofs.Shares.{owner, owner-below, in_share}
use Rattle.vc_types.proofs.SubbandCells.{subband_rectangles, count-subband_rectangles}

regroup : (a b k c d l : Bool) → (((a && b) && k) && ((c && d) && l)) ≡ (((a && b) && (c && d)) && (k && l))
regroup true true true true true l = refl
regroup true true true true false l = refl
regroup true true true false d l = refl
regroup true true false true true l = refl
regroup true true false true false l = refl
regroup true true false false d l = refl
regroup true false k c d l = refl
regroup false b k c d l = refl

module _ (across down x y : ℕ) where
  -- the share of a rectangle has a cell where the rectangle has it and the share owns it
  pub has_cell-share : (r : Rect) (k l : ℕ) → k < across → l < down → has_cell x y (share r across down k l) ≡ (has_cell x y r && (k == owner r.width across (x - r.x) && l == owner r.height down (y - r.y)))
  has_cell-share r k l p q =
      let o = owner r.width across (x - r.x) in
      let v = owner r.height down (y - r.y) in
      ap (λ t. t && (nat_le (r.y + share_start r.height down l) y && nat_lt y (r.y + share_start r.height down l + (share_start r.height down (l + 1) - share_start r.height down l)))) (in_share r.x r.width across k x p)
      ∙ ap (λ t. ((nat_le r.x x && nat_lt x (r.x + r.width)) && k == o) && t) (in_share r.y r.height down l y q)
      ∙ regroup (nat_le r.x x) (nat_lt x (r.x + r.width)) (k == o) (nat_le r.y y) (nat_lt y (r.y + r.height)) (l == v)

  -- the column and the row of the slice that has a cell, of all shares of these rectangles
  pub record IsOwned (rs : List Rect) : Type 0 where
    pub column : ℕ
    pub row : ℕ
    pub column_below : column < across
    pub row_below : row < down
    pub counts : (k l : ℕ) → k < across → l < down → count_by (has_cell x y) (map (λ r. share r across down k l) rs) ≡ cond (k == column && l == row) 1 0

  abbrev shares : List Rect → ℕ → ℕ → List Rect
  shares rs k l = map (λ r. share r across down k l) rs

  share-none-by : (r : Rect) (rs : List Rect) (k l : ℕ) → k < across → l < down → count_by (has_cell x y) (r ∷ rs) ≡ 0 → (b : Bool) → has_cell x y r ≡ b → (count_by (has_cell x y) rs ≡ 0 → count_by (has_cell x y) (shares rs k l) ≡ 0) → count_by (has_cell x y) (shares (r ∷ rs) k l) ≡ 0
  share-none-by r rs k l p q e true has next = let c = count-cons x y r rs true has in absurd (omega (arith, c))
  share-none-by r rs k l p q e false lacks next =
      let c = count-cons x y r rs false lacks in
      let rest = next (omega (arith, c)) in
      let z = k == owner r.width across (x - r.x) && l == owner r.height down (y - r.y) in
      let d = count-cons x y (share r across down k l) (shares rs k l) false (has_cell-share r k l p q ∙ and_left (has_cell x y r) z lacks) in
      omega (arith, d, rest)

  share-none : (rs : List Rect) (k l : ℕ) → k < across → l < down → count_by (has_cell x y) rs ≡ 0 → count_by (has_cell x y) (shares rs k l) ≡ 0
  share-none [] k l p q e = refl
  share-none (r ∷ rs) k l p q e = share-none-by r rs k l p q e (has_cell x y r) refl (share-none rs k l p q)

  module _ (some_across : 0 < across) (some_down : 0 < down) where
    owned-first : (r : Rect) (rs : List Rect) → has_cell x y r ≡ true → count_by (has_cell x y) (r ∷ rs) ≡ 1 → IsOwned (r ∷ rs)
    owned-first r rs has e =
        let w = has_cell-inside x y r has in
        let c = count-cons x y r rs true has in
        record {
          column = owner r.width across (x - r.x);
          row = owner r.height down (y - r.y);
          column_below = owner-below r.width across (x - r.x) some_across (omega (arith, w.left, w.right));
          row_below = owner-below r.height down (y - r.y) some_down (omega (arith, w.top, w.bottom));
          counts = λ k l p q.
              let z = k == owner r.width across (x - r.x) && l == owner r.height down (y - r.y) in
              let rest = share-none rs k l p q (omega (arith, c)) in
              let d = count-cons x y (share r across down k l) (shares rs k l) z (has_cell-share r k l p q ∙ ap (λ t. t && z) has) in
              omega (arith, d, rest);
        }

    owned-rest : (r : Rect) (rs : List Rect) → has_cell x y r ≡ false → IsOwned rs → IsOwned (r ∷ rs)
    owned-rest r rs lacks u = record {
      column = u.column;
      row = u.row;
      column_below = u.column_below;
      row_below = u.row_below;
      counts = λ k l p q.
          let z = k == owner r.width across (x - r.x) && l == owner r.height down (y - r.y) in
          let d = count-cons x y (share r across down k l) (shares rs k l) false (has_cell-share r k l p q ∙ and_left (has_cell x y r) z lacks) in
          let rest = u.counts k l p q in
          omega (arith, d, rest);
    }

    owned-by : (r : Rect) (rs : List Rect) (b : Bool) → has_cell x y r ≡ b → count_by (has_cell x y) (r ∷ rs) ≡ 1 → (count_by (has_cell x y) rs ≡ 1 → IsOwned rs) → IsOwned (r ∷ rs)
    owned-by r rs true has e next = owned-first r rs has e
    owned-by r rs false lacks e next = owned-rest r rs lacks (next (let c = count-cons x y r rs false lacks in omega (arith, c)))

    pub owned_once : (rs : List Rect) → count_by (has_cell x y) rs ≡ 1 → IsOwned rs
    owned_once [] e = absurd (omega arith)
    owned_once (r ∷ rs) e = owned-by r rs (has_cell x y r) refl e (owned_once rs)

both : (a b c d : ℕ) → a ≡ c → b ≡ d → ◌≡◌ {A = ℕ} (cond (a == c && b == d) 1 0) 1
both a b c d e f = grind (arith, nat_tests)

inside_both : (x y w h : ℕ) → x < w → y < h → ◌≡◌ {A = ℕ} (cond (nat_lt x w && nat_lt y h) 1 0) 1
inside_both x y w h a b = grind (arith, nat_tests)

module _ (p : Parameters) (c : Component) (x y : ℕ) where
  as_shares : (s : ℕ) → slice_rectangles p c s ≡ map (λ r. share r p.slices_x p.slices_y (slice_column p s) (slice_row p s)) (subband_rectangles p c)
  unfolding slice_rectangle
  as_shares s = sym (map-map (λ r. share r p.slices_x p.slices_y (slice_column p s) (slice_row p s)) (λ b. subband_rectangle p c b) (subbands p.depth_ho p.depth))

  module _ (u : IsOwned p.slices_x p.slices_y x y (subband_rectangles p c)) (some_across : 0 < p.slices_x) where
    count-slice : (s : ℕ) → s < slice_count p → count_by (has_cell x y) (slice_rectangles p c s) ≡ cond (slice_column p s == u.column && slice_row p s == u.row) 1 0
    count-slice s h =
        ap (count_by (has_cell x y)) (as_shares s)
        ∙ u.counts (slice_column p s) (slice_row p s) (mod_below s p.slices_x some_across) (div_below s p.slices_x p.slices_y some_across (omega arith))

    slice : ℕ
    slice = u.row * p.slices_x + u.column

    slice-column : slice_column p slice ≡ u.column
    unfolding slice
    slice-column = mod-mul-add u.row p.slices_x u.column u.column_below

    slice-row : slice_row p slice ≡ u.row
    unfolding slice
    slice-row = div-mul-add u.row p.slices_x u.column u.column_below

    slice-below : slice < slice_count p
    unfolding slice
    slice-below = mul-add-lt u.row p.slices_x u.column p.slices_y u.row_below u.column_below

    once : HasNumber (slice_rectangles p c slice) x y
    once = numbered_once (slice_rectangles p c slice) x y (count-slice slice slice-below ∙ both (slice_column p slice) (slice_row p slice) u.column u.row slice-column slice-row)

    slice-only : (s i : ℕ) → s < slice_count p → i < slice_coefficient_count p c s → coefficient_place p c s i ≡ (x, y) → s ≡ slice
    unfolding slice slice_coefficient_count coefficient_place
    slice-only s i h below at = elim (cases_Bool (slice_column p s == u.column && slice_row p s == u.row)) [
      | inl t ↦ (let parts = and_parts (slice_column p s == u.column) (slice_row p s == u.row) t in
          let column = eqb-true (slice_column p s) u.column parts.0 in
          let row = eqb-true (slice_row p s) u.row parts.1 in
          sym (div-add-mod' s p.slices_x) ∙ ap (λ q. q * p.slices_x + s % p.slices_x) row ∙ ap (λ m. u.row * p.slices_x + m) column)
      | inr f ↦ absurd (none_numbered (slice_rectangles p c s) x y (count-slice s h ∙ ap (λ t. cond t 1 0) f) i below at)
    ]

    met-by : IsMetOnce p c x y
    unfolding slice_coefficient_count coefficient_place
    met-by = record {
      slice = slice;
      number = once.number;
      slice_below = slice-below;
      number_below = once.below;
      place = once.place;
      only = λ s i h below at.
          let e = slice-only s i h below at in
          (e, once.only i (subst (λ t. i < sum_by area (slice_rectangles p c t)) e below) (subst (λ t. place_among (slice_rectangles p c t) i ≡ (x, y)) e at));
    }

  -- a slice has no cell outside the padded grid
  pub count-outside : 0 < p.slices_x → (s : ℕ) → s < slice_count p → (nat_lt x (padded_width p c) && nat_lt y (padded_height p c)) ≡ false → count_by (has_cell x y) (slice_rectangles p c s) ≡ 0
  count-outside some_across s h outside =
      ap (count_by (has_cell x y)) (as_shares s)
      ∙ share-none p.slices_x p.slices_y x y (subband_rectangles p c) (slice_column p s) (slice_row p s) (mod_below s p.slices_x some_across) (div_below s p.slices_x p.slices_y some_across (omega arith)) (count-subband_rectangles p c x y ∙ ap (λ t. cond t 1 0) outside)

  pub met_once : 0 < p.slices_x → 0 < p.slices_y → x < padded_width p c → y < padded_height p c → IsMetOnce p c x y
  met_once some_across some_down across down =
      let one : count_by (has_cell x y) (subband_rectangles p c) ≡ 1 = count-subband_rectangles p c x y ∙ inside_both x y (padded_width p c) (padded_height p c) across down in
      met-by (owned_once p.slices_x p.slices_y x y some_across some_down (subband_rectangles p c) one) some_across
