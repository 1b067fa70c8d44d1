-- The grid of a component once all slices are placed.
use Rattle.std.proofs.Common.{◌≡◌, ℕ, ◌+◌, ◌*◌, ◌/◌, ◌%◌, ◌^◌, ◌<◌, ◌≤◌, false, List, [], length, ℤ, pos, unsigned_abs, All, arith, ap, sym, subst, ◌∙◌, inl, inr}
use Rattle.std.specs.Prelude.{nat_lt, ◌&&◌, slice_index_or}
use mathlib.Core.Path.{fun_ext}
use Rattle.std.proofs.lemmas.Bool.{cases_Bool, and_parts, ltb-true}
use Rattle.std.proofs.lemmas.List.Elements.{All-from_get_or}
use Rattle.std.proofs.lemmas.Nat.{mod_below, div_below}
use Rattle.vc_types.specs.declared.video.Component.{Component}
use Rattle.vc_types.specs.Lifting.{line_of}
use Rattle.vc_types.specs.Pictures.{component_cells}
use Rattle.vc_types.specs.Rasters.{Lattice, cell_at}
use Rattle.vc_types.specs.Slices.{Coefficients, coefficients_of}
use Rattle.vc_types.specs.Subbands.{slice_count, slice_coefficient_count, coefficient_place, padded_width, padded_height, IsMetOnce}
use Rattle.vc_types.specs.TransformParameters.{Parameters}
use Rattle.vc_types.proofs.PlacesMet.{met_once}
use Rattle.vc_wave.proofs.Grids.{cell_in}
use Rattle.picture_build.proofs.Standing.{component_cells-met, component_cells-outside}
use Rattle.vc_geometry.specs.CellRects.{cell_number}
use Rattle.picture_build.specs.PictureCoefficients.{ArePictureCoefficients}
use Rattle.picture_build.proofs.GridCells.{cell_out}
use Rattle.picture_build.proofs.WholeSlices.{coefficient-small}

module _ (p : Parameters) (c : Component) (slices : List Coefficients) (stride : ℕ) (cells : List ℤ)
    (some_across : 0 < p.slices_x) (some_down : 0 < p.slices_y) (wide : stride ≡ padded_width p c)
    (all : length slices ≡ slice_count p) (whole : ArePictureCoefficients p slices)
    (stand : (n i : ℕ) (none : Coefficients) → n < length slices → i < slice_coefficient_count p c n
    → line_of cells (cell_number stride (coefficient_place p c n i))
    ≡ line_of (coefficients_of (slice_index_or slices n none) c) i) where
  no_coefficients : Coefficients
  no_coefficients = record { y = []; c1 = []; c2 = [] }

  counts : (k : ℕ) → k < length slices → length (coefficients_of (slice_index_or slices k no_coefficients) c) ≡ slice_coefficient_count p c (0 + k)
  counts k h = (whole k no_coefficients h).count c ∙ ap (slice_coefficient_count p c) (omega arith)

  -- the cell in column x and row y has the coefficient that meets it
  module _ (x y : ℕ) (met : IsMetOnce p c x y) where
    own : Coefficients
    own = slice_index_or slices met.slice no_coefficients

    numbered : met.slice < length slices
    numbered = omega (arith, met.slice_below, all)

    stands : line_of cells (y * stride + x) ≡ slice_index_or (coefficients_of own c) met.number (pos 0)
    unfolding own
    stands = ap (λ q. line_of cells (cell_number stride q)) (sym met.place) ∙ stand met.slice met.number no_coefficients numbered met.number_below

    is_cell : line_of cells (y * stride + x) ≡ component_cells p c slices x y
    unfolding own
    is_cell =
        let few : length slices ≤ slice_count p = omega (arith, all) in
        stands ∙ sym (component_cells-met p c some_across some_down no_coefficients slices few counts x y met numbered)

    is_small : unsigned_abs (line_of cells (y * stride + x)) < 2 ^ 60
    unfolding own
    is_small = subst (λ z. unsigned_abs z < 2 ^ 60) (sym stands) (coefficient-small p met.slice own c met.number (whole met.slice no_coefficients numbered) met.number_below)

  module _ (g : Lattice) (own_width : g.width ≡ stride) (own_height : g.height ≡ padded_height p c) (own_cells : g.cells ≡ cells) where
    cell_is : (x y : ℕ) → cell_at g x y ≡ component_cells p c slices x y
    cell_is x y = elim (cases_Bool (nat_lt x g.width && nat_lt y g.height)) [
      | inl t ↦ (
          let parts = and_parts (nat_lt x g.width) (nat_lt y g.height) t in
          let across = ltb-true x g.width parts.0 in
          let down = ltb-true y g.height parts.1 in
          let met = met_once p c x y some_across some_down (omega (arith, across, own_width, wide)) (omega (arith, down, own_height)) in
          cell_in g x y across down
          ∙ ap (λ xs. line_of xs (y * g.width + x)) own_cells ∙ ap (λ n. line_of cells (y * n + x)) own_width ∙ is_cell x y met)
      | inr f ↦ (
          let few : length slices ≤ slice_count p = omega (arith, all) in
          let outside : (nat_lt x (padded_width p c) && nat_lt y (padded_height p c)) ≡ false = ap (λ n. nat_lt x n && nat_lt y (padded_height p c)) (sym (own_width ∙ wide)) ∙ ap (λ n. nat_lt x g.width && nat_lt y n) (sym own_height) ∙ f in
          cell_out g x y f ∙ sym (component_cells-outside p c some_across some_down no_coefficients slices few counts x y outside))
    ]

    pub grid_is : cell_at g ≡ component_cells p c slices
    grid_is = fun_ext (λ x. fun_ext (λ y. cell_is x y))

  pub grid_small : (height : ℕ) → 0 < stride → length cells ≡ height * stride → height ≡ padded_height p c → All (λ z. unsigned_abs z < 2 ^ 60) cells
  grid_small height some full high = All-from_get_or (λ z. unsigned_abs z < 2 ^ 60) cells (pos 0) (λ i h. (
      let column = mod_below i stride some in
      let row = div_below i stride height some (omega (arith, full)) in
      let place : i / stride * stride + i % stride ≡ i = omega arith in
      let met = met_once p c (i % stride) (i / stride) some_across some_down (omega (arith, column, wide)) (omega (arith, row, high)) in
      subst (λ n. unsigned_abs (line_of cells n) < 2 ^ 60) place (is_small (i % stride) (i / stride) met)))
