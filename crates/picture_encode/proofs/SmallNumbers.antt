-- The numbers of a slice in grids of small coefficients.
use Rattle.std.proofs.Common.{◌≡◌, ℕ, zero, suc, ◌+◌, ◌*◌, ◌<◌, ◌^◌, ℤ, pos, unsigned_abs, Bool, true, false, cond, List, length, map, get_or, refl, sym, subst, arith, inl, inr}
use Rattle.std.specs.Prelude.{All, nat_lt, ◌&&◌, ◌||◌}
use Rattle.std.specs.List.{range_with_len, list_any}
use Rattle.std.proofs.lemmas.Bool.{cases_lt}
use Rattle.std.proofs.lemmas.Bool.Decides.{nat_tests}
use Rattle.std.proofs.Math.ListN.{get_or-eq_default}
use Rattle.vc_geometry.proofs.CoefficientPlaces.{place-inside}
use Rattle.std.proofs.lemmas.List.Elements.{All-get_or}
use Rattle.std.proofs.lemmas.List.FromFn.{length-map-range_with_len}
use Rattle.link_model.specs.SendingPictures.{number_at_place, numbers_in_slice, sent_coefficients, sent_cells}
use Rattle.picture_encode.specs.Grids.{IsGrid, AreGrids, cells_of, HasCoefficients, HaveCoefficients, slice_in_grids}
use Rattle.picture_encode.specs.declared.grids.ComponentGrid.{ComponentGrid}
use Rattle.picture_encode.specs.declared.grids.ComponentGrid.TheVariants.{Narrow, Wide}
use Rattle.vc_wave.specs.Layout.{turned_row}
use Rattle.vc_wave.specs.Planes.{plane_of}
use Rattle.picture_encode.specs.declared.grids.PictureGrids.{PictureGrids}
use Rattle.picture_encode.proofs.Gathered.{range_same}
use Rattle.vc_types.specs.declared.video.Component.{Component}
use Rattle.vc_types.specs.declared.video.Component.TheVariants.{Y, C1, C2}
use Rattle.vc_types.specs.Planes.{Planes}
use Rattle.vc_types.specs.Rasters.{Lattice, cell_at}
use Rattle.vc_types.specs.SliceCoefficients.{AreSliceCoefficients}
use Rattle.vc_types.specs.Slices.{is_large}
use Rattle.vc_types.specs.Subbands.{slice_count, slice_coefficient_count, coefficient_place, padded_width}
use Rattle.vc_types.specs.TransformParameters.{Parameters}

not_large : (z : ℤ) → unsigned_abs z < 2 ^ 60 → is_large z ≡ false
not_large z h = grind (arith, nat_tests)

small_item : (xs : List ℤ) (i : ℕ) → All (λ z. unsigned_abs z < 2 ^ 60) xs → unsigned_abs (get_or xs i (pos 0)) < 2 ^ 60
small_item xs i h = elim (cases_lt i (length xs)) [
  | inl lt ↦ All-get_or (λ z. unsigned_abs z < 2 ^ 60) xs i (pos 0) lt h
  | inr ge ↦ subst (λ (z : ℤ). unsigned_abs z < 2 ^ 60) (sym (get_or-eq_default xs (pos 0) ge)) (omega arith)
]

small_cell : (g : Lattice) (x y : ℕ) → All (λ z. unsigned_abs z < 2 ^ 60) g.cells → unsigned_abs (cell_at g x y) < 2 ^ 60
unfolding cell_at
small_cell g x y h = by_test (nat_lt x g.width && nat_lt y g.height)
  where
    by_test : (b : Bool) → unsigned_abs (cond b (get_or g.cells (y * g.width + x) (pos 0)) (pos 0)) < 2 ^ 60
    by_test true = small_item g.cells (y * g.width + x) h
    by_test false = omega arith

none_large : (f : ℕ → ℤ) (a n : ℕ) → ((i : ℕ) → unsigned_abs (f i) < 2 ^ 60) → list_any is_large (map f (range_with_len a n)) ≡ false
none_large f a zero h = refl
none_large f a (suc n) h = first (is_large (f a)) (not_large (f a) (h a)) (none_large f (a + 1) n h)
  where
    first : (b : Bool) → b ≡ false → list_any is_large (map f (range_with_len (a + 1) n)) ≡ false → (b || list_any is_large (map f (range_with_len (a + 1) n))) ≡ false
    first true e rest = absurd cc
    first false e rest = rest

small_plane : (stride : ℕ) (cells : List ℤ) (x y : ℕ) → All (λ z. unsigned_abs z < 2 ^ 60) cells → unsigned_abs (plane_of stride cells x y) < 2 ^ 60
unfolding plane_of
small_plane stride cells x y h = by_test (nat_lt x stride)
  where
    by_test : (b : Bool) → unsigned_abs (cond b (get_or cells (y * stride + x) (pos 0)) (pos 0)) < 2 ^ 60
    by_test true = small_item cells (y * stride + x) h
    by_test false = omega arith

grid_small : (p : Parameters) (c : Component) (g : ComponentGrid) → IsGrid p c g → (x y : ℕ) → unsigned_abs (cells_of p c g x y) < 2 ^ 60
unfolding cells_of
grid_small p c (Narrow cells) h x y = small_plane (padded_width p c) cells.items x (turned_row p c x y) h.small
grid_small p c (Wide g) h x y = small_cell g x y h.small

module _ (p : Parameters) (slice : ℕ) (c : Component) (g : ComponentGrid) where
  count_is : length (numbers_in_slice p c (cells_of p c g) slice) ≡ slice_coefficient_count p c slice
  unfolding numbers_in_slice
  count_is = length-map-range_with_len (λ i. number_at_place (cells_of p c g) (coefficient_place p c slice i)) 0 (slice_coefficient_count p c slice)

  small_are : IsGrid p c g → list_any is_large (numbers_in_slice p c (cells_of p c g) slice) ≡ false
  unfolding numbers_in_slice
  small_are h = none_large (λ i. number_at_place (cells_of p c g) (coefficient_place p c slice i)) 0 (slice_coefficient_count p c slice) (λ i. grid_small p c g h (coefficient_place p c slice i).0 (coefficient_place p c slice i).1)

pub are_coefficients : (p : Parameters) (slice : ℕ) (g : PictureGrids) → AreGrids p g → AreSliceCoefficients p slice (slice_in_grids p g slice)
are_coefficients p slice g h = record {
  count = elim [ Y ↦ count_is p slice Y g.y | C1 ↦ count_is p slice C1 g.c1 | C2 ↦ count_is p slice C2 g.c2 ];
  small = elim [ Y ↦ small_are p slice Y g.y h.y | C1 ↦ small_are p slice C1 g.c1 h.c1 | C2 ↦ small_are p slice C2 g.c2 h.c2 ];
}

-- ---- the same of the coefficients of planes

module _ (p : Parameters) (c : Component) (some_across : 0 < p.slices_x) where
  numbers_are : (planes : Planes) (g : ComponentGrid) (slice : ℕ) → slice < slice_count p → HasCoefficients p c planes g → numbers_in_slice p c (cells_of p c g) slice ≡ numbers_in_slice p c (sent_cells p planes c) slice
  unfolding numbers_in_slice
  numbers_are planes g slice h has =
      range_same (pos 0) (λ i. number_at_place (cells_of p c g) (coefficient_place p c slice i)) (λ i. number_at_place (sent_cells p planes c) (coefficient_place p c slice i)) (slice_coefficient_count p c slice)
      (λ i below. let within = place-inside p c some_across slice i h below in has.cells (coefficient_place p c slice i).0 (coefficient_place p c slice i).1 within.0 within.1)

pub coefficients_are : (p : Parameters) (planes : Planes) (g : PictureGrids) (slice : ℕ) → 0 < p.slices_x → slice < slice_count p → HaveCoefficients p planes g → slice_in_grids p g slice ≡ sent_coefficients p planes slice
unfolding sent_coefficients
coefficients_are p planes g slice some h has = λ i. record {
  y = numbers_are p Y some planes g.y slice h has.y i;
  c1 = numbers_are p C1 some planes g.c1 slice h has.c1 i;
  c2 = numbers_are p C2 some planes g.c2 slice h has.c2 i;
}
