-- A picture whose slices are all in cells, and whose LL grew there.
use Rattle.std.proofs.Common.{◌≡◌, ℕ, ◌^◌, ◌<◌, ◌≤◌, false, List, length, ℤ, unsigned_abs, refl, sym, ap, subst, ◌∙◌, ◌⊎◌, arith, inl, inr}
use Rattle.std.specs.Prelude.{slice_index_or, Result, Ok, Err, IfOk}
use Rattle.std.specs.List.{list_any}
use Rattle.std.proofs.lemmas.Bool.{cases_lt}
use Rattle.std.proofs.lemmas.Nat.{shr_le}
use Rattle.vc_types.specs.declared.video.Component.{Component}
use Rattle.vc_types.specs.declared.video.Component.TheVariants.{Y, C1, C2}
use Rattle.vc_types.specs.Pictures.{component_cells}
use Rattle.vc_types.specs.Planes.{Planes, no_plane, output_sample, planes_in}
use Rattle.vc_types.specs.Rasters.{Raster, raster}
use Rattle.vc_types.specs.Slices.{Coefficients, is_large}
use Rattle.vc_types.specs.Subbands.{levels, padded_width, padded_height, plane_width, plane_height, plane_depth}
use Rattle.vc_types.specs.TransformParameters.{Parameters, parameters_of}
use Rattle.vc_types.specs.Transforms.{Cells, inverse_transform, lowest_width, lowest_height}
use Rattle.vc_types.proofs.PaddedSides.{padded-above}
use Rattle.vc_wave.specs.Planes as kept
use Rattle.vc_wave.proofs.Grids.{cell_in, lattice}
use Rattle.vc_wave.proofs.PlaneSteps.{plane_in}
use Rattle.vc_wave.proofs.TransformLocality.{Agree, inverse_transform_agrees}
use Rattle.picture_build.specs.Kept.{AllAreIn, AreIn, no_coefficients}
use Rattle.picture_build.specs.Output.{output_plane}
use Rattle.picture_build.proofs.InCells.{cells_are}
use Rattle.picture_build.proofs.RasterLists.{raster-at, raster-is, length-raster}
use Rattle.vc_lowdelay.specs.declared.plan.LowPlan.{LowPlan}
use Rattle.vc_lowdelay.specs.declared.room.LowRoom.{LowRoom}
use Rattle.vc_lowdelay.specs.Decoded.{IsDecodable}
use Rattle.vc_lowdelay.specs.InRoom.{AreKeptPlanes, HasCells, HoldsPicture}
use Rattle.vc_lowdelay.specs.LowDelay.{low_plane, low_planes, low_planes_of, low_slices, lowest_values, predicted, predicted_cells}
use Rattle.vc_lowdelay.specs.Narrow.{GrowsLowest, HoldsGrown, kept_cells}
use Rattle.vc_lowdelay.specs.Narrow as narrow
use Rattle.vc_lowdelay.specs.OfPlan.{low_parameters_of, picture_size}
use Rattle.vc_lowdelay.proofs.Decodings.{ok_same}
use Rattle.vc_lowdelay.proofs.LowAnswers.{is_decoded}
use Rattle.vc_lowdelay.proofs.PredictedCells.{within_true, within_false}
use Rattle.vc_lowdelay.proofs.PredictedValues.{predicted_agrees}
use Rattle.vc_lowdelay.proofs.SliceStarts.{across, down}
use Rattle.vc_lowdelay.proofs.Soundness.{lowest_small, picture_small, slice_small, slices_small}

-- ---- planes of cells that agree

raster_same : (w h : ℕ) (f g : ℕ → ℕ → ℕ) → ((x y : ℕ) → x < w → y < h → f x y ≡ g x y) → raster w h f ≡ raster w h g
raster_same w h f g same = raster-is w g h (raster w h f) 0 (length-raster w f h) (λ x y hx hy. raster-at w f h x y 0 hx hy ∙ same x y hx hy)

output_same : (p : Parameters) (c : Component) (f g : Cells) → Agree (padded_width p c) (padded_height p c) f g → output_plane p c f ≡ output_plane p c g
output_same p c f g same =
    ap (λ (xs : List ℕ). record { width = plane_width p.shape c; height = plane_height p.shape c; samples = xs })
    (raster_same (plane_width p.shape c) (plane_height p.shape c) (λ x y. output_sample (plane_depth p.shape c) (f x y)) (λ x y. output_sample (plane_depth p.shape c) (g x y))
    (λ x y hx hy. ap (output_sample (plane_depth p.shape c)) (same x y
    (omega (arith, hx, padded-above (plane_width p.shape c) (levels p) (omega (arith, hx))))
    (omega (arith, hy, padded-above (plane_height p.shape c) p.depth (omega (arith, hy)))))))

three_same : (y c1 c2 ys us vs : Raster) → y ≡ ys → c1 ≡ us → c2 ≡ vs → ◌≡◌ {A = Planes} (record { y = y; c1 = c1; c2 = c2 }) (record { y = ys; c1 = us; c2 = vs })
three_same y c1 c2 ys us vs e0 e1 e2 = rw e0 (rw e1 (rw e2 refl))

module _ (p : LowPlan) (bytes : List ℕ) where
  abbrev own : Parameters
  own = parameters_of p.plan

  abbrev slices : List Coefficients
  slices = low_slices (low_parameters_of p) bytes

  -- ---- a component

  module _ (c : Component) (old new : List ℤ) (all : AreIn own c slices old) (grows : GrowsLowest own c old new) where
    stands : (x y : ℕ) → x < padded_width own c → y < padded_height own c → kept_cells own c old x y ≡ component_cells own c slices x y
    stands x y hx hy =
        let grid = lattice (padded_width own c) (padded_height own c) old in
        sym (cell_in grid x y hx hy)
        ∙ ap (λ (f : Cells). f x y) (cells_are own c (across p) (down p) slices old all grid refl refl refl)

    lowest_stands : (x y : ℕ) → x < lowest_width own c → y < lowest_height own c → kept_cells own c old x y ≡ component_cells own c slices x y
    lowest_stands x y hx hy =
        let narrow = shr_le (padded_width own c) (levels own) in
        let low = shr_le (padded_height own c) own.depth in
        stands x y (omega (arith, hx, narrow)) (omega (arith, hy, low))

    grown_is : (x y : ℕ) → x < lowest_width own c → y < lowest_height own c → predicted (kept_cells own c old) x y ≡ predicted (component_cells own c slices) x y
    grown_is = predicted_agrees (kept_cells own c old) (component_cells own c slices) (lowest_width own c) (lowest_height own c) lowest_stands

    outside : (x y : ℕ) → x < padded_width own c → y < padded_height own c → (x < lowest_width own c → y < lowest_height own c → ⊥)
        → kept_cells own c new x y ≡ predicted_cells own c (component_cells own c slices) x y
    outside x y hx hy out = grows.others x y hx out ∙ stands x y hx hy ∙ sym (within_false own c (component_cells own c slices) x y out)

    each : (x y : ℕ) → x < padded_width own c → y < padded_height own c → (x < lowest_width own c) ⊎ (lowest_width own c ≤ x) → (y < lowest_height own c) ⊎ (lowest_height own c ≤ y)
        → kept_cells own c new x y ≡ predicted_cells own c (component_cells own c slices) x y
    each x y hx hy (inl across) (inl down) = grows.grown x y across down ∙ grown_is x y across down ∙ sym (within_true own c (component_cells own c slices) x y across down)
    each x y hx hy (inr past) low = outside x y hx hy (λ across down. omega (arith, past, across))
    each x y hx hy (inl across) (inr past) = outside x y hx hy (λ any down. omega (arith, past, down))

    pub held : HoldsGrown (low_parameters_of p) bytes c new
    held = record {
      size = grows.length ∙ all.length;
      each = λ x y hx hy. each x y hx hy (cases_lt x (lowest_width own c)) (cases_lt y (lowest_height own c));
    }

    pub lowest_fits : list_any is_large (lowest_values own c slices) ≡ false
    lowest_fits = lowest_small (lowest_width own c) (lowest_height own c) (predicted (component_cells own c slices))
        (λ x y hx hy. subst (λ (z : ℤ). unsigned_abs z < 2 ^ 60) (grown_is x y hx hy) (grows.small x y hx hy))

  -- ---- the picture

  pub decodable : picture_size p ≤ length bytes → (y c1 c2 ys us vs : List ℤ) → AllAreIn own slices y c1 c2
      → GrowsLowest own Y y ys → GrowsLowest own C1 c1 us → GrowsLowest own C2 c2 vs → IsDecodable (low_parameters_of p) bytes
  decodable whole y c1 c2 ys us vs all gy g1 g2 = record {
    whole = whole;
    small = picture_small own slices
        (slices_small own slices (λ n h. slice_small (slice_index_or slices n no_coefficients) (all.luma.whole n no_coefficients h).small))
        fits;
  }
    where
      fits : (c : Component) → list_any is_large (lowest_values own c slices) ≡ false
      fits Y = lowest_fits Y y ys all.luma gy
      fits C1 = lowest_fits C1 c1 us all.first_colour g1
      fits C2 = lowest_fits C2 c2 vs all.second_colour g2

  plane_is : (c : Component) (cells : List ℤ) → HoldsGrown (low_parameters_of p) bytes c cells → narrow.kept_plane own c cells ≡ low_plane own c slices
  plane_is c cells holds =
      let f = kept.plane_of (padded_width own c) cells in
      let g = predicted_cells own c (component_cells own c slices) in
      output_same own c (inverse_transform own c f) (inverse_transform own c g)
      (inverse_transform_agrees own c f g (λ x y hx hy. plane_in (padded_width own c) cells x y hx ∙ holds.each x y hx hy))

  module _ (room : LowRoom) (holds : HoldsPicture p bytes room) where
    pub has_cells : HasCells p.plan room
    has_cells = record { y = holds.y.size; c1 = holds.c1.size; c2 = holds.c2.size }

    pub planes_answer : {E : Type 0} (result : Result (List Raster) E) → IfOk result (λ planes. AreKeptPlanes p.plan room (planes_in planes))
        → IfOk result (λ planes. low_planes (low_parameters_of p) bytes ≡ Ok (planes_in planes))
    planes_answer (Ok planes) are =
        let a : slice_index_or planes 0 no_plane ≡ low_plane own Y slices = are.y ∙ plane_is Y room.y.items holds.y in
        let b : slice_index_or planes 1 no_plane ≡ low_plane own C1 slices = are.c1 ∙ plane_is C1 room.c1.items holds.c1 in
        let e : slice_index_or planes 2 no_plane ≡ low_plane own C2 slices = are.c2 ∙ plane_is C2 room.c2.items holds.c2 in
        is_decoded (low_parameters_of p) bytes holds.sound ∙ sym (ok_same (planes_in planes) (low_planes_of own slices) (three_same _ _ _ _ _ _ a b e))
    planes_answer (Err why) are = are
