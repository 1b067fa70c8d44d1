-- A component's plane from the cells that all slices are in.
use Rattle.std.proofs.Common.{◌≡◌, ℕ, ◌*◌, ◌^◌, ◌<◌, List, length, ℤ, unsigned_abs, All, [], ◌∷◌, arith, refl, sym, ap, subst, ◌∙◌}
use Rattle.std.specs.Prelude.{IfOk, Result, Ok, Err, slice_index_or}
use Rattle.vc_types.specs.declared.video.Component.{Component}
use Rattle.vc_types.specs.Lifting.{line_of}
use Rattle.vc_types.specs.Pictures.{component_cells}
use Rattle.vc_types.specs.declared.video.Component.TheVariants.{Y, C1, C2}
use Rattle.vc_types.specs.Planes.{component_plane, planes_in, planes_of}
use Rattle.vc_types.specs.Rasters.{Lattice, Raster, cell_at}
use Rattle.vc_types.specs.Slices.{Coefficients, coefficients_of}
use Rattle.vc_types.specs.Subbands.{slice_coefficient_count, padded_width, padded_height}
use Rattle.vc_types.specs.TransformParameters.{Parameters}
use Rattle.vc_types.specs.Transforms.{Cells, inverse_transform}
use Rattle.picture_build.specs.Kept.{kept_at, AllAreIn, AreIn}
use Rattle.picture_build.specs.Output.{output_plane}
use Rattle.picture_build.proofs.BuiltPlanes.{plane-built}
use Rattle.picture_build.proofs.PlacedGrids.{grid_is, grid_small}

module _ (p : Parameters) (c : Component) (some_across : 0 < p.slices_x) (some_down : 0 < p.slices_y) (slices : List Coefficients) (cells : List ℤ) (at : AreIn p c slices cells) where
  stands : (n i : ℕ) (none : Coefficients) → n < length slices → i < slice_coefficient_count p c n → line_of cells (kept_at p c n i) ≡ line_of (coefficients_of (slice_index_or slices n none) c) i
  stands n i none h below = at.stand n i none (omega (arith, at.count)) below

  pub cells_are : (g : Lattice) → g.width ≡ padded_width p c → g.height ≡ padded_height p c → g.cells ≡ cells → cell_at g ≡ component_cells p c slices
  cells_are g = grid_is p c slices (padded_width p c) cells some_across some_down refl at.count at.whole stands g

  pub cells_small : (height : ℕ) → 0 < padded_width p c → height ≡ padded_height p c → All (λ z. unsigned_abs z < 2 ^ 60) cells
  cells_small height some high = grid_small p c slices (padded_width p c) cells some_across some_down refl at.count at.whole stands height some (at.length ∙ ap (λ n. n * padded_width p c) (sym high)) high

-- whatever slices they are
pub plane_in : (p : Parameters) (c : Component) {E : Type 0} (cells : List ℤ) (first last : Cells) (result : Result Raster E) → ((slices : List Coefficients) → AreIn p c slices cells → first ≡ component_cells p c slices)
    → last ≡ inverse_transform p c first → IfOk result (λ plane. plane ≡ output_plane p c last) → IfOk result (λ plane. (slices : List Coefficients) → AreIn p c slices cells → plane ≡ component_plane p c slices)
plane_in p c {E = E} cells first last (Ok plane) placed made is = λ slices at. plane-built p c {E = E} slices first last (Ok plane) (placed slices at) made is
plane_in p c cells first last (Err e) placed made is = is

-- and of all three, each made by itself
module _ (p : Parameters) (slices : List Coefficients) (y c1 c2 : List ℤ) (all : AllAreIn p slices y c1 c2) where
  abbrev pub Made : Component → List ℤ → Raster → Type 0
  Made c cells plane = (slices : List Coefficients) → AreIn p c slices cells → plane ≡ component_plane p c slices

  made_of : {E : Type 0} (c : Component) (cells : List ℤ) (result : Result Raster E) (plane : Raster) → IfOk result (Made c cells) → result ≡ Ok plane → Made c cells plane
  made_of c cells result plane made e = subst (λ r. IfOk r (Made c cells)) e made

  pub three_planes : {E : Type 0} (ry r1 r2 : Result Raster E) → IfOk ry (Made Y y) → IfOk r1 (Made C1 c1) → IfOk r2 (Made C2 c2)
      → (a b d : Raster) → ry ≡ Ok a → r1 ≡ Ok b → r2 ≡ Ok d → planes_in (a ∷ b ∷ d ∷ []) ≡ planes_of p slices
  three_planes ry r1 r2 my m1 m2 a b d ey e1 e2 =
      let ay : a ≡ component_plane p Y slices = made_of Y y ry a my ey slices all.luma in
      let b1 : b ≡ component_plane p C1 slices = made_of C1 c1 r1 b m1 e1 slices all.first_colour in
      let d2 : d ≡ component_plane p C2 slices = made_of C2 c2 r2 d m2 e2 slices all.second_colour in
      cc
