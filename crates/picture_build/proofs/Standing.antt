-- What stands in each cell once all slices are placed: a coefficient at its own place, and 0 outside the padded grid.
use Rattle.std.proofs.Common.{◌≡◌, ℕ, zero, suc, ◌+◌, ◌<◌, ◌≤◌, false, List, [], ◌∷◌, ◌++◌, length, map, get_or, ℤ, pos, arith, refl, ap, sym, subst, ◌∙◌, inl, inr}
use Rattle.std.specs.Prelude.{nat_lt, ◌&&◌, ◌==◌}
use Rattle.std.specs.List.{flat_map, enumerate_from}
use Rattle.std.proofs.lemmas.Bool.{both_ways, lt-ltb, cases_Bool, and_parts, and_from, eqb-true, eq-eqb, cond-true, cond-false}
use Rattle.vc_types.specs.declared.video.Component.{Component}
use Rattle.vc_types.specs.Pictures.{placed, all_placed, standing_at, component_cells}
use Rattle.vc_types.specs.Slices.{Coefficients, coefficients_of}
use Rattle.vc_types.specs.Subbands.{Place, slice_count, slice_coefficient_count, coefficient_place, padded_width, padded_height, IsMetOnce}
use Rattle.vc_types.specs.TransformParameters.{Parameters}
use Rattle.vc_geometry.proofs.CoefficientPlaces.{place-inside}
use Rattle.vc_geometry.proofs.Placements.{places-apart}
use Rattle.vc_types.proofs.RectangleCells.{same_place}

-- ---- items in a list

module _ (z : Place × ℤ) (zs : List (Place × ℤ)) (x y : ℕ) where
  standing-here : z.0 ≡ (x, y) → standing_at (z ∷ zs) x y ≡ z.1
  unfolding standing_at
  standing-here e =
      cond-true (z.0.0 == x && z.0.1 == y) z.1 (standing_at zs x y) (and_from (z.0.0 == x) (z.0.1 == y) (eq-eqb z.0.0 x (ap (λ (q : Place). q.0) e)) (eq-eqb z.0.1 y (ap (λ (q : Place). q.1) e)))

  standing-elsewhere : (z.0 ≡ (x, y) → ⊥) → standing_at (z ∷ zs) x y ≡ standing_at zs x y
  unfolding standing_at
  standing-elsewhere apart = elim (cases_Bool (z.0.0 == x && z.0.1 == y)) [
    | inl t ↦ (let parts = and_parts (z.0.0 == x) (z.0.1 == y) t in absurd (apart (same_place z.0.0 z.0.1 x y (eqb-true z.0.0 x parts.0) (eqb-true z.0.1 y parts.1))))
    | inr f ↦ cond-false (z.0.0 == x && z.0.1 == y) z.1 (standing_at zs x y) f
  ]

-- one slice's items, whose numbers begin with m, before others
module _ (place : ℕ → Place) (x y : ℕ) where
  abbrev items : ℕ → List ℤ → List (Place × ℤ)
  items m cs = map (λ z. (place z.0, z.1)) (enumerate_from m cs)

  passed : (cs : List ℤ) (m : ℕ) (rest : List (Place × ℤ)) → ((k : ℕ) → k < m + length cs → place k ≡ (x, y) → ⊥) → standing_at (items m cs ++ rest) x y ≡ standing_at rest x y
  passed [] m rest never = refl
  passed (v ∷ cs) m rest never =
      standing-elsewhere (place m, v) (items (m + 1) cs ++ rest) x y (never m (omega arith))
      ∙ passed cs (m + 1) rest (λ k h. never k (omega arith))

  found : (cs : List ℤ) (m j i : ℕ) (rest : List (Place × ℤ)) → i ≡ m + j → j < length cs → place i ≡ (x, y) → ((k : ℕ) → k < i → place k ≡ (x, y) → ⊥) → standing_at (items m cs ++ rest) x y ≡ get_or cs j (pos 0)
  found [] m j i rest e h at before = absurd (omega arith)
  found (v ∷ cs) m zero i rest e h at before = standing-here (place m, v) (items (m + 1) cs ++ rest) x y (ap place (omega arith) ∙ at)
  found (v ∷ cs) m (suc j) i rest e h at before =
      standing-elsewhere (place m, v) (items (m + 1) cs ++ rest) x y (before m (omega arith))
      ∙ found cs (m + 1) j i rest (omega arith) (omega arith) at before

-- ---- all slices

module _ (p : Parameters) (c : Component) (some_across : 0 < p.slices_x) (some_down : 0 < p.slices_y) (none : Coefficients) where
  -- each slice has its coefficients, numbered from m on
  abbrev pub AreWhole : ℕ → List Coefficients → Type 0
  AreWhole m slices = (k : ℕ) → k < length slices → length (coefficients_of (get_or slices k none) c) ≡ slice_coefficient_count p c (m + k)

  abbrev placed_from : ℕ → List Coefficients → List (Place × ℤ)
  placed_from m slices = flat_map (λ s. placed p c s.0 (coefficients_of s.1 c)) (enumerate_from m slices)

  later : (m : ℕ) (s : Coefficients) (slices : List Coefficients) → AreWhole m (s ∷ slices) → AreWhole (m + 1) slices
  later m s slices whole k h = whole (suc k) (omega arith) ∙ ap (slice_coefficient_count p c) (omega arith)

  module _ (x y : ℕ) where
    standing-from : (slices : List Coefficients) (m t n i : ℕ) → m + length slices ≤ slice_count p → AreWhole m slices → t < length slices → n ≡ m + t → i < slice_coefficient_count p c n → coefficient_place p c n i ≡ (x, y)
        → standing_at (placed_from m slices) x y ≡ get_or (coefficients_of (get_or slices t none) c) i (pos 0)
    standing-from [] m t n i room whole h e below at = absurd (omega arith)
    standing-from (s ∷ slices) m zero n i room whole h e below at =
        let own : length (coefficients_of s c) ≡ slice_coefficient_count p c m = whole 0 (omega arith) ∙ ap (slice_coefficient_count p c) (omega arith) in
        let first : n ≡ m = omega arith in
        let number : i < slice_coefficient_count p c m = subst (λ k. i < slice_coefficient_count p c k) first below in
        let here : coefficient_place p c m i ≡ (x, y) = subst (λ k. coefficient_place p c k i ≡ (x, y)) first at in
        found (coefficient_place p c m) x y (coefficients_of s c) 0 i i (placed_from (m + 1) slices) (omega arith) (omega (arith, own)) here
        (λ k g other. (let same = places-apart p c some_across some_down m k m i (omega arith) (omega arith) (omega arith) number (other ∙ sym here) in omega (arith, same.1)))
    standing-from (s ∷ slices) m (suc t) n i room whole h e below at =
        let own : length (coefficients_of s c) ≡ slice_coefficient_count p c m = whole 0 (omega arith) ∙ ap (slice_coefficient_count p c) (omega arith) in
        passed (coefficient_place p c m) x y (coefficients_of s c) 0 (placed_from (m + 1) slices)
        (λ k g other. (let same = places-apart p c some_across some_down m k n i (omega arith) (omega (arith, own)) (omega arith) below (other ∙ sym at) in omega (arith, same.0)))
        ∙ standing-from slices (m + 1) t n i (omega arith) (later m s slices whole) (omega arith) (omega arith) below at

    standing-none : (slices : List Coefficients) (m : ℕ) → m + length slices ≤ slice_count p → AreWhole m slices → (nat_lt x (padded_width p c) && nat_lt y (padded_height p c)) ≡ false → standing_at (placed_from m slices) x y ≡ pos 0
    unfolding standing_at
    standing-none [] m room whole outside = refl
    standing-none (s ∷ slices) m room whole outside =
        let own : length (coefficients_of s c) ≡ slice_coefficient_count p c m = whole 0 (omega arith) ∙ ap (slice_coefficient_count p c) (omega arith) in
        passed (coefficient_place p c m) x y (coefficients_of s c) 0 (placed_from (m + 1) slices)
        (λ k g other. (let inside = place-inside p c some_across m k (omega arith) (omega (arith, own)) in
        let column = ap (λ (q : Place). q.0) other in
        let row = ap (λ (q : Place). q.1) other in
        both_ways (nat_lt x (padded_width p c) && nat_lt y (padded_height p c)) outside
        (and_from (nat_lt x (padded_width p c)) (nat_lt y (padded_height p c)) (lt-ltb x (padded_width p c) (omega (arith, column, inside.0))) (lt-ltb y (padded_height p c) (omega (arith, row, inside.1))))))
        ∙ standing-none slices (m + 1) (omega arith) (later m s slices whole) outside

  module _ (slices : List Coefficients) (all : length slices ≤ slice_count p) (whole : AreWhole 0 slices) where
    pub component_cells-outside : (x y : ℕ) → (nat_lt x (padded_width p c) && nat_lt y (padded_height p c)) ≡ false → component_cells p c slices x y ≡ pos 0
    unfolding all_placed component_cells
    component_cells-outside x y outside = standing-none x y slices 0 (omega arith) whole outside

    -- so every cell of the padded grid has the coefficient that meets it
    pub component_cells-met : (x y : ℕ) (met : IsMetOnce p c x y) → met.slice < length slices → component_cells p c slices x y ≡ get_or (coefficients_of (get_or slices met.slice none) c) met.number (pos 0)
    unfolding all_placed component_cells
    component_cells-met x y met h = standing-from x y slices 0 met.slice met.slice met.number (omega arith) whole h (omega arith) met.number_below met.place
