-- LL of a component after the first slices, and after all.
use Rattle.std.proofs.Common.{◌≡◌, ℕ, ◌+◌, ◌*◌, ◌^◌, ◌<◌, List, length, ℤ, unsigned_abs, sym, ap, subst, ◌∙◌, arith, inl, inr}
use Rattle.std.specs.Prelude.{slice_index_or}
use Rattle.std.proofs.lemmas.Bool.{cases_eq}
use Rattle.std.proofs.lemmas.Nat.{same_from_place}
use Rattle.vc_types.specs.declared.video.Component.{Component}
use Rattle.vc_types.specs.Lifting.{line_of}
use Rattle.vc_types.specs.Pictures.{component_cells}
use Rattle.vc_types.specs.Rasters.{Lattice}
use Rattle.vc_types.specs.Slices.{Coefficients, coefficients_of}
use Rattle.vc_types.specs.Subbands.{Place, area, place_in, slice_count, slice_coefficient_count, IsMetOnce}
use Rattle.vc_types.specs.TransformParameters.{Parameters}
use Rattle.vc_types.specs.Transforms.{lowest_width, lowest_height}
use Rattle.vc_types.proofs.RectangleCells.{place_in-inside, same_place}
use Rattle.picture_build.specs.Kept.{no_coefficients}
use Rattle.vc_geometry.proofs.Placements.{places-apart}
use Rattle.picture_build.proofs.Standing.{component_cells-met}
use Rattle.vc_lowdelay.specs.Bands.{AreSmallValues, HasValues, IsLowest, lowest_rectangle, index_of_place}
use Rattle.vc_lowdelay.specs.Placed.{Places}
use Rattle.vc_lowdelay.proofs.LowestPlaces.{lowest_within, lowest_place, lowest_right, lowest_bottom, lowest_met}

-- coefficient i of slice s, of a component
abbrev pub values_of : List Coefficients → Component → ℕ → ℕ → ℤ
values_of slices c s = line_of (coefficients_of (slice_index_or slices s no_coefficients) c)

module _ (p : Parameters) (c : Component) where
  -- the first slices' values stand at their places
  pub record FirstPlaced (values : ℕ → ℕ → ℤ) (n : ℕ) (band : Lattice) : Type 0 where
    pub size : IsLowest p c band
    pub placed : (s i : ℕ) → s < n → i < area (lowest_rectangle p c s) → line_of band.cells (index_of_place band (place_in (lowest_rectangle p c s) i)) ≡ values s i
    pub small : (s i : ℕ) → s < n → i < area (lowest_rectangle p c s) → unsigned_abs (values s i) < 2 ^ 60

  pub none_placed : (values : ℕ → ℕ → ℤ) (band : Lattice) → IsLowest p c band → FirstPlaced values 0 band
  none_placed values band size = record {
    size = size;
    placed = λ s i h below. absurd (omega (arith, h));
    small = λ s i h below. absurd (omega (arith, h));
  }

module _ (p : Parameters) (c : Component) (some_across : 0 < p.slices_x) (some_down : 0 < p.slices_y) where
  -- a place of a slice, inside LL
  pub lowest_inside : (n i : ℕ) → n < slice_count p → i < area (lowest_rectangle p c n)
      → ((place_in (lowest_rectangle p c n) i).0 < lowest_width p c) × ((place_in (lowest_rectangle p c n) i).1 < lowest_height p c)
  lowest_inside n i numbered below =
      let there = place_in-inside (lowest_rectangle p c n) i below in
      (omega (arith, there.right, lowest_right p c some_across n numbered), omega (arith, there.bottom, lowest_bottom p c some_across n numbered))

  -- no two values have one place
  lowest_apart : (s i t j : ℕ) → s < slice_count p → i < area (lowest_rectangle p c s) → t < slice_count p → j < area (lowest_rectangle p c t)
      → place_in (lowest_rectangle p c s) i ≡ place_in (lowest_rectangle p c t) j → (s ≡ t) × (i ≡ j)
  lowest_apart s i t j hs hi ht hj e =
      places-apart p c some_across some_down s i t j hs (omega (arith, hi, lowest_within p c s)) ht (omega (arith, hj, lowest_within p c t))
      (lowest_place p c s i hi ∙ e ∙ sym (lowest_place p c t j hj))

  numbers_apart : (band : Lattice) → IsLowest p c band → (s i t j : ℕ) → s < slice_count p → i < area (lowest_rectangle p c s) → t < slice_count p → j < area (lowest_rectangle p c t)
      → index_of_place band (place_in (lowest_rectangle p c s) i) ≡ index_of_place band (place_in (lowest_rectangle p c t) j) → (s ≡ t) × (i ≡ j)
  numbers_apart band size s i t j hs hi ht hj e =
      let a = place_in (lowest_rectangle p c s) i in
      let b = place_in (lowest_rectangle p c t) j in
      let first = lowest_inside s i hs hi in
      let second = lowest_inside t j ht hj in
      let same = same_from_place a.1 a.0 b.1 b.0 band.width (omega (arith, first.0, size.width)) (omega (arith, second.0, size.width)) e in
      lowest_apart s i t j hs hi ht hj (same_place a.0 a.1 b.0 b.1 same.1 same.0)

  pub one_more_placed : (values : ℕ → ℕ → ℤ) (n : ℕ) (old new : Lattice) → n < slice_count p → FirstPlaced p c values n old → Places p c n (values n) old new → FirstPlaced p c values (n + 1) new
  one_more_placed values n old new numbered first own = record {
    size = record { width = own.width ∙ first.size.width; height = own.height ∙ first.size.height };
    placed = λ s i h below. number s i ∙ at s i h below;
    small = λ s i h below. elim (cases_eq s n) [
      | inl e ↦ subst (λ (z : ℤ). unsigned_abs z < 2 ^ 60) (ap (λ (k : ℕ). values k i) (sym e)) (own.small i (subst (λ (k : ℕ). i < area (lowest_rectangle p c k)) e below))
      | inr ne ↦ first.small s i (omega (arith, h)) below
    ];
  }
    where
      number : (s i : ℕ) → line_of new.cells (index_of_place new (place_in (lowest_rectangle p c s) i)) ≡ line_of new.cells (index_of_place old (place_in (lowest_rectangle p c s) i))
      number s i = ap (λ (w : ℕ). line_of new.cells ((place_in (lowest_rectangle p c s) i).1 * w + (place_in (lowest_rectangle p c s) i).0)) own.width

      at : (s i : ℕ) → s < n + 1 → i < area (lowest_rectangle p c s) → line_of new.cells (index_of_place old (place_in (lowest_rectangle p c s) i)) ≡ values s i
      at s i h below = elim (cases_eq s n) [
        | inl e ↦
            ap (λ (k : ℕ). line_of new.cells (index_of_place old (place_in (lowest_rectangle p c k) i))) e
            ∙ own.on i (subst (λ (k : ℕ). i < area (lowest_rectangle p c k)) e below)
            ∙ ap (λ (k : ℕ). values k i) (sym e)
        | inr ne ↦
            own.off (index_of_place old (place_in (lowest_rectangle p c s) i))
            (λ j here e. ne (numbers_apart old first.size s i n j (omega (arith, h, numbered)) below numbered here e).0)
            ∙ first.placed s i (omega (arith, h)) below
      ]

  -- ---- all slices

  module _ (slices : List Coefficients) (all : length slices ≡ slice_count p)
      (counts : (k : ℕ) → k < length slices → length (coefficients_of (slice_index_or slices k no_coefficients) c) ≡ slice_coefficient_count p c k) where
    abbrev pub own_values : ℕ → ℕ → ℤ
    own_values = values_of slices c

    -- what stands in a cell of LL
    pub lowest_cell : (n i : ℕ) → n < slice_count p → i < area (lowest_rectangle p c n)
        → component_cells p c slices (place_in (lowest_rectangle p c n) i).0 (place_in (lowest_rectangle p c n) i).1 ≡ own_values n i
    lowest_cell n i numbered below =
        let place = place_in (lowest_rectangle p c n) i in
        let inside : i < slice_coefficient_count p c n = omega (arith, below, lowest_within p c n) in
        let here = lowest_place p c n i below in
        let met : IsMetOnce p c place.0 place.1 = record {
          slice = n;
          number = i;
          slice_below = numbered;
          number_below = inside;
          place = here;
          only = λ s j hs hj e. places-apart p c some_across some_down s j n i hs hj numbered inside (e ∙ sym here);
        } in
        component_cells-met p c some_across some_down no_coefficients slices (omega (arith, all))
        (λ k h. counts k h ∙ ap (slice_coefficient_count p c) (omega arith)) place.0 place.1 met (omega (arith, all, numbered))

    -- each place has its value
    pub all_placed : (band : Lattice) → FirstPlaced p c own_values (slice_count p) band → HasValues (component_cells p c slices) band
    all_placed band first x y ha hb =
        let met = lowest_met p c x y (omega (arith, first.size.width, ha)) (omega (arith, first.size.height, hb)) some_across some_down in
        ap (λ (q : Place). line_of band.cells (index_of_place band q)) (sym met.place)
        ∙ first.placed met.slice met.number met.numbered met.below
        ∙ sym (lowest_cell met.slice met.number met.numbered met.below)
        ∙ ap (λ (q : Place). component_cells p c slices q.0 q.1) met.place

    pub all_small : (band : Lattice) → FirstPlaced p c own_values (slice_count p) band → AreSmallValues band
    all_small band first x y ha hb =
        let met = lowest_met p c x y (omega (arith, first.size.width, ha)) (omega (arith, first.size.height, hb)) some_across some_down in
        subst (λ (z : ℤ). unsigned_abs z < 2 ^ 60)
        (sym (first.placed met.slice met.number met.numbered met.below) ∙ ap (λ (q : Place). line_of band.cells (index_of_place band q)) met.place)
        (first.small met.slice met.number met.numbered met.below)
