-- Cells of a grid and of a list that is kept row by row.
use Rattle.std.proofs.Common.{◌≡◌, ℕ, ◌+◌, ◌*◌, ◌<◌, ◌≤◌, false, List, ℤ, ◌++◌, take, length, pos, arith, ap, sym, ◌∙◌, ◌⊎◌, inl, inr}
use Rattle.std.specs.Prelude.{nat_lt, ◌&&◌, slice_index_or}
use Rattle.std.proofs.lemmas.Bool.{cases_eq, cond-false}
use Rattle.std.proofs.lemmas.Nat.{mul-add-lt}
use Rattle.std.proofs.Math.Seq.{take-append_seam}
use Rattle.vc_types.specs.Lifting.{line_of}
use Rattle.vc_types.specs.Planes.{output_sample}
use Rattle.vc_types.specs.Rasters.{Lattice, cell_at}
use Rattle.vc_wave.specs.Planes.{plane_of}
use Rattle.vc_wave.proofs.Grids.{cell_in}
use Rattle.vc_wave.proofs.PlaneSteps.{plane_in}

pub cell_out : (g : Lattice) (x y : ℕ) → (nat_lt x g.width && nat_lt y g.height) ≡ false → cell_at g x y ≡ pos 0
unfolding cell_at
cell_out g x y outside = cond-false (nat_lt x g.width && nat_lt y g.height) (line_of g.cells (y * g.width + x)) (pos 0) outside

-- a list that was written over the whole of another
pub written_over : {A : Type 0} (len : ℕ) (xs ys : List A) (whole : len ≡ length xs) → take len (xs ++ ys) ≡ xs
written_over len xs ys e = rw e (take-append_seam xs ys)

-- a row more of output
module _ (g : Lattice) (columns depth y : ℕ) (wide : columns ≤ g.width) (high : y < g.height) (old new : List ℕ)
    (on : (x : ℕ) → x < columns → slice_index_or new (y * columns + x) 0 ≡ output_sample depth (line_of g.cells (y * g.width + x)))
    (off : (i : ℕ) → (i < y * columns) ⊎ (y * columns + columns ≤ i) → slice_index_or new i 0 ≡ slice_index_or old i 0) where
  pub output_more : ((x t : ℕ) → x < columns → t < y → slice_index_or old (t * columns + x) 0 ≡ output_sample depth (cell_at g x t)) → (x t : ℕ) → x < columns → t < y + 1 → slice_index_or new (t * columns + x) 0 ≡ output_sample depth (cell_at g x t)
  output_more before x t h lt = elim (cases_eq t y) [
    | inl e ↦ rw e (on x h ∙ ap (output_sample depth) (sym (cell_in g x y (omega arith) high)))
    | inr ne ↦ (
        let earlier : t < y = omega arith in
        let above = mul-add-lt t columns x y earlier h in
        off (t * columns + x) (inl (omega (arith, above))) ∙ before x t h earlier)
  ]

-- the same from cells that are kept row by row
module _ (cells : List ℤ) (stride columns depth y : ℕ) (wide : columns ≤ stride) (old new : List ℕ)
    (on : (x : ℕ) → x < columns → slice_index_or new (y * columns + x) 0 ≡ output_sample depth (line_of cells (y * stride + x)))
    (off : (i : ℕ) → (i < y * columns) ⊎ (y * columns + columns ≤ i) → slice_index_or new i 0 ≡ slice_index_or old i 0) where
  pub clipped_more : ((x t : ℕ) → x < columns → t < y → slice_index_or old (t * columns + x) 0 ≡ output_sample depth (plane_of stride cells x t)) → (x t : ℕ) → x < columns → t < y + 1 → slice_index_or new (t * columns + x) 0 ≡ output_sample depth (plane_of stride cells x t)
  clipped_more before x t h lt = elim (cases_eq t y) [
    | inl e ↦ rw e (on x h ∙ ap (output_sample depth) (sym (plane_in stride cells x y (omega arith))))
    | inr ne ↦ (
        let earlier : t < y = omega arith in
        let above = mul-add-lt t columns x y earlier h in
        off (t * columns + x) (inl (omega (arith, above))) ∙ before x t h earlier)
  ]
