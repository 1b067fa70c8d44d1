-- A picture of slices in which LL has grown: its planes are those of the prediction.
use Rattle.std.proofs.Common.{◌≡◌, ℕ, ◌+◌, ◌<◌, ◌≤◌, List, length, ℤ, pos, refl, sym, ap, subst, ◌∙◌, arith, inl, inr}
use Rattle.std.specs.Prelude.{slice_index_or, nat_lt, ◌&&◌}
use Rattle.std.specs.List.{enumerate_from}
use mathlib.Core.Path.{fun_ext}
use Rattle.std.proofs.lemmas.Bool.{cases_Bool, cases_lt, and_parts, and_from, both_ways, ltb-true, lt-ltb, le-ltb, cond-true, cond-false}
use Rattle.std.proofs.lemmas.List.{get_or-map, length-map}
use Rattle.std.proofs.lemmas.List.FromFn.{length-map-range_with_len, get_or-map-range_with_len, length-enumerate_from, get_or-enumerate_from}
use Rattle.std.proofs.lemmas.Nat.{shr_le}
use Rattle.vc_types.specs.declared.video.Component.{Component}
use Rattle.vc_types.specs.declared.video.Component.TheVariants.{Y, C1, C2}
use Rattle.vc_types.specs.Lifting.{line_of}
use Rattle.vc_types.specs.Pictures.{component_cells}
use Rattle.vc_types.specs.Planes.{component_plane, planes_of}
use Rattle.vc_types.specs.Slices.{Coefficients, coefficients_of}
use Rattle.vc_types.specs.Subbands.{Place, area, place_in, levels, padded_width, padded_height, slice_count, slice_coefficient_count, IsMetOnce}
use Rattle.vc_types.specs.TransformParameters.{Parameters}
use Rattle.vc_types.specs.Transforms.{Cells, inverse_transform, lowest_width, lowest_height}
use Rattle.vc_types.proofs.PlacesMet.{met_once}
use Rattle.picture_build.specs.Kept.{no_coefficients}
use Rattle.picture_build.specs.Output.{output_plane}
use Rattle.picture_build.proofs.Standing.{component_cells-met, component_cells-outside}
use Rattle.vc_lowdelay.specs.Bands.{lowest_rectangle}
use Rattle.vc_lowdelay.specs.Grown.{Lowest, grown_lowest, grown_or, with_lowest, grown_slice, grown_slices}
use Rattle.vc_lowdelay.specs.LowDelay.{predicted, predicted_cells, low_plane, low_planes_of}
use Rattle.vc_lowdelay.proofs.LowestPlaces.{lowest_within, lowest_place, IsOfSlice, lowest_met}
use Rattle.vc_lowdelay.proofs.PlacedValues.{lowest_inside}
use Rattle.vc_lowdelay.proofs.PredictedCells.{within_true, within_false}

-- ---- LL of a component

abbrev pub lowest_of : Lowest → Component → Cells
lowest_of lowest Y = lowest.y
lowest_of lowest C1 = lowest.c1
lowest_of lowest C2 = lowest.c2

pub lowest_of-grown : (p : Parameters) (slices : List Coefficients) (c : Component) → lowest_of (grown_lowest p slices) c ≡ predicted (component_cells p c slices)
lowest_of-grown p slices Y = refl
lowest_of-grown p slices C1 = refl
lowest_of-grown p slices C2 = refl

-- ---- the coefficients of a slice

module _ (p : Parameters) (n : ℕ) (lowest : Lowest) (s : Coefficients) where
  pub grown_of : (c : Component) → coefficients_of (grown_slice p n lowest s) c ≡ with_lowest p c n (lowest_of lowest c) (coefficients_of s c)
  unfolding grown_slice
  grown_of Y = refl
  grown_of C1 = refl
  grown_of C2 = refl

  pub length-grown : (c : Component) → length (coefficients_of (grown_slice p n lowest s) c) ≡ length (coefficients_of s c)
  length-grown c = ap length (grown_of c) ∙ length-map-range_with_len (grown_or p c n (lowest_of lowest c) (line_of (coefficients_of s c))) 0 (length (coefficients_of s c))

  pub grown_at : (c : Component) (i : ℕ) → i < length (coefficients_of s c)
      → line_of (coefficients_of (grown_slice p n lowest s) c) i ≡ grown_or p c n (lowest_of lowest c) (line_of (coefficients_of s c)) i
  grown_at c i h =
      ap (λ (zs : List ℤ). line_of zs i) (grown_of c)
      ∙ get_or-map-range_with_len (grown_or p c n (lowest_of lowest c) (line_of (coefficients_of s c))) 0 (length (coefficients_of s c)) i i (pos 0) h (omega arith)

-- ---- the slices of a picture

module _ (p : Parameters) (slices : List Coefficients) where
  abbrev numbered : List (ℕ × Coefficients)
  numbered = enumerate_from 0 slices

  pub length-slices : length (grown_slices p slices) ≡ length slices
  length-slices = length-map numbered (λ (z : ℕ × Coefficients). grown_slice p z.0 (grown_lowest p slices) z.1) ∙ length-enumerate_from 0 slices

  pub slice_at : (n : ℕ) (none : Coefficients) → n < length slices → slice_index_or (grown_slices p slices) n none ≡ grown_slice p n (grown_lowest p slices) (slice_index_or slices n none)
  slice_at n none h =
      let long = length-enumerate_from 0 slices in
      let f : ℕ × Coefficients → Coefficients = λ z. grown_slice p z.0 (grown_lowest p slices) z.1 in
      let first : 0 + n ≡ n = omega arith in
      get_or-map f numbered n (0, none) none (omega (arith, long, h))
      ∙ ap f (get_or-enumerate_from 0 slices n (0, none) h)
      ∙ ap (λ (k : ℕ). grown_slice p k (grown_lowest p slices) (slice_index_or slices n none)) first

module _ (p : Parameters) (c : Component) (some_across : 0 < p.slices_x) (some_down : 0 < p.slices_y)
    (slices : List Coefficients) (all : length slices ≡ slice_count p)
    (counts : (k : ℕ) → k < length slices → length (coefficients_of (slice_index_or slices k no_coefficients) c) ≡ slice_coefficient_count p c k) where
  abbrev cells : Cells
  cells = component_cells p c slices

  all_grown : length (grown_slices p slices) ≡ slice_count p
  all_grown = length-slices p slices ∙ all

  counts_grown : (k : ℕ) → k < length (grown_slices p slices) → length (coefficients_of (slice_index_or (grown_slices p slices) k no_coefficients) c) ≡ slice_coefficient_count p c (0 + k)
  counts_grown k h =
      let below : k < length slices = omega (arith, h, length-slices p slices) in
      let first : k ≡ 0 + k = omega arith in
      ap (λ (s : Coefficients). length (coefficients_of s c)) (slice_at p slices k no_coefficients below)
      ∙ length-grown p k (grown_lowest p slices) (slice_index_or slices k no_coefficients) c
      ∙ counts k below ∙ ap (slice_coefficient_count p c) first

  counts_own : (k : ℕ) → k < length slices → length (coefficients_of (slice_index_or slices k no_coefficients) c) ≡ slice_coefficient_count p c (0 + k)
  counts_own k h = let first : k ≡ 0 + k = omega arith in counts k h ∙ ap (slice_coefficient_count p c) first

  -- in the padded grid
  module _ (x y : ℕ) (met : IsMetOnce p c x y) where
    abbrev own : Coefficients
    own = slice_index_or slices met.slice no_coefficients

    numbered_slice : met.slice < length slices
    numbered_slice = omega (arith, met.slice_below, all)

    own_cell : cells x y ≡ line_of (coefficients_of own c) met.number
    own_cell = component_cells-met p c some_across some_down no_coefficients slices (omega (arith, all)) counts_own x y met numbered_slice

    grown_cell : component_cells p c (grown_slices p slices) x y ≡ grown_or p c met.slice (predicted cells) (line_of (coefficients_of own c)) met.number
    grown_cell =
        component_cells-met p c some_across some_down no_coefficients (grown_slices p slices) (omega (arith, all_grown)) counts_grown x y met (omega (arith, met.slice_below, all_grown))
        ∙ ap (λ (s : Coefficients). line_of (coefficients_of s c) met.number) (slice_at p slices met.slice no_coefficients numbered_slice)
        ∙ grown_at p met.slice (grown_lowest p slices) own c met.number (omega (arith, met.number_below, counts met.slice numbered_slice))
        ∙ ap (λ (f : Cells). grown_or p c met.slice f (line_of (coefficients_of own c)) met.number) (lowest_of-grown p slices c)

    inside_is : component_cells p c (grown_slices p slices) x y ≡ predicted_cells p c cells x y
    inside_is = elim (cases_lt met.number (area (lowest_rectangle p c met.slice))) [
      | inl lt ↦ (
          let place = place_in (lowest_rectangle p c met.slice) met.number in
          let here : place ≡ (x, y) = sym (lowest_place p c met.slice met.number lt) ∙ met.place in
          let inside = lowest_inside p c some_across some_down met.slice met.number met.slice_below lt in
          let column = ap (λ (q : Place). q.0) here in
          let row = ap (λ (q : Place). q.1) here in
          grown_cell
          ∙ cond-true (nat_lt met.number (area (lowest_rectangle p c met.slice))) (predicted cells place.0 place.1) (line_of (coefficients_of own c) met.number) (lt-ltb met.number (area (lowest_rectangle p c met.slice)) lt)
          ∙ ap (λ (q : Place). predicted cells q.0 q.1) here
          ∙ sym (within_true p c cells x y (omega (arith, column, inside.0)) (omega (arith, row, inside.1))))
      | inr ge ↦ (
          let place = place_in (lowest_rectangle p c met.slice) met.number in
          grown_cell
          ∙ cond-false (nat_lt met.number (area (lowest_rectangle p c met.slice))) (predicted cells place.0 place.1) (line_of (coefficients_of own c) met.number) (le-ltb met.number (area (lowest_rectangle p c met.slice)) ge)
          ∙ sym own_cell
          ∙ sym (within_false p c cells x y (λ hx hy. (
          let at : IsOfSlice p c x y = lowest_met p c x y hx hy some_across some_down in
          let same = met.only at.slice at.number at.numbered (omega (arith, at.below, lowest_within p c at.slice)) (lowest_place p c at.slice at.number at.below ∙ at.place) in
          let less = subst (λ (k : ℕ). at.number < area (lowest_rectangle p c k)) same.0 at.below in
          omega (arith, less, same.1, ge)))))
    ]

  -- LL isn't larger than the padded grid
  lowest_narrow : lowest_width p c ≤ padded_width p c
  lowest_narrow = shr_le (padded_width p c) (levels p)

  lowest_low : lowest_height p c ≤ padded_height p c
  lowest_low = shr_le (padded_height p c) p.depth

  cell_is : (x y : ℕ) → component_cells p c (grown_slices p slices) x y ≡ predicted_cells p c cells x y
  cell_is x y = elim (cases_Bool (nat_lt x (padded_width p c) && nat_lt y (padded_height p c))) [
    | inl t ↦ (
        let parts = and_parts (nat_lt x (padded_width p c)) (nat_lt y (padded_height p c)) t in
        inside_is x y (met_once p c x y some_across some_down (ltb-true x (padded_width p c) parts.0) (ltb-true y (padded_height p c) parts.1)))
    | inr f ↦
        component_cells-outside p c some_across some_down no_coefficients (grown_slices p slices) (omega (arith, all_grown)) counts_grown x y f
        ∙ sym (component_cells-outside p c some_across some_down no_coefficients slices (omega (arith, all)) counts_own x y f)
        ∙ sym (within_false p c cells x y (λ hx hy. both_ways (nat_lt x (padded_width p c) && nat_lt y (padded_height p c)) f
        (and_from (nat_lt x (padded_width p c)) (nat_lt y (padded_height p c)) (lt-ltb x (padded_width p c) (omega (arith, hx, lowest_narrow))) (lt-ltb y (padded_height p c) (omega (arith, hy, lowest_low))))))
  ]

  pub grown_cells_are : component_cells p c (grown_slices p slices) ≡ predicted_cells p c cells
  grown_cells_are = fun_ext (λ x. fun_ext (λ y. cell_is x y))

  pub grown_plane : component_plane p c (grown_slices p slices) ≡ low_plane p c slices
  unfolding component_plane
  grown_plane = ap (λ (f : Cells). output_plane p c (inverse_transform p c f)) grown_cells_are

pub grown_planes : (p : Parameters) → 0 < p.slices_x → 0 < p.slices_y → (slices : List Coefficients) → length slices ≡ slice_count p
    → ((c : Component) (k : ℕ) → k < length slices → length (coefficients_of (slice_index_or slices k no_coefficients) c) ≡ slice_coefficient_count p c k)
    → planes_of p (grown_slices p slices) ≡ low_planes_of p slices
grown_planes p some_across some_down slices all counts =
    let y = grown_plane p Y some_across some_down slices all (counts Y) in
    let c1 = grown_plane p C1 some_across some_down slices all (counts C1) in
    let c2 = grown_plane p C2 some_across some_down slices all (counts C2) in
    cc
