-- Grids of a padded size, as planes.
use Rattle.std.proofs.Common.{◌≡◌, ℕ, zero, suc, ◌+◌, ◌-◌, ◌*◌, ◌/◌, ◌%◌, ◌^◌, ◌<◌, ◌≤◌, List, ◌++◌, take}
use Rattle.std.proofs.Common.{length, ℤ, pos, unsigned_abs, All, arith, ap, sym, subst, ◌∙◌, ◌⊎◌, inl, inr}
use mathlib.Core.Path.{fun_ext}
use Rattle.std.proofs.lemmas.Bool.{cases_lt}
use Rattle.std.proofs.lemmas.Bool.Decides.{nat_tests}
use Rattle.std.proofs.lemmas.List.{get_or_past}
use Rattle.std.proofs.lemmas.List.Elements.{All-get_or, All-from_get_or}
use Rattle.std.proofs.Math.Nat.{mul-div_cancel, mul-le-mul_right}
use Rattle.std.proofs.Math.Pow.{pow_pos}
use Rattle.std.proofs.Math.Seq.{take-append_seam}
use Rattle.vc_types.specs.Limits.{padded}
use Rattle.vc_types.specs.Lifting.{line_of}
use Rattle.vc_types.specs.Rasters.{Lattice, cell_at}
use Rattle.vc_types.specs.declared.video.Component.{Component}
use Rattle.vc_types.specs.Subbands.{padded_width, padded_height}
use Rattle.vc_types.specs.TransformParameters.{Parameters}
use Rattle.vc_types.specs.Transforms.{inverse_transform}
use Rattle.vc_wave.specs.Planes.{AreBelow, plane_of}
use Rattle.vc_wave.proofs.PlaneSteps.{plane_in, plane_out}

whole : (q u : ℕ) → 0 < u → q * u / u * u ≡ q * u
whole q u some = ap (λ n. n * u) (mul-div_cancel q some)

some : (q u : ℕ) → 0 < u → 1 ≤ q * u → 0 < q * u / u
some zero u more h = absurd (omega arith)
some (suc q) u more h = rw (mul-div_cancel (suc q) more) (omega arith)

-- a padded side is a multiple of 2 ^ depth
pub padded_whole : (side depth : ℕ) → padded side depth / 2 ^ depth * 2 ^ depth ≡ padded side depth
padded_whole side depth = whole ((side + 2 ^ depth - 1) / 2 ^ depth) (2 ^ depth) (pow_pos depth)

pub padded_some : (side depth : ℕ) → 1 ≤ padded side depth → 0 < padded side depth / 2 ^ depth
padded_some side depth h = some ((side + 2 ^ depth - 1) / 2 ^ depth) (2 ^ depth) (pow_pos depth) h

pub cell_in : (g : Lattice) (x y : ℕ) → x < g.width → y < g.height
    → cell_at g x y ≡ line_of g.cells (y * g.width + x)
unfolding cell_at
cell_in g x y h lt = grind (arith, nat_tests)

cell_out : (g : Lattice) (x y : ℕ) → (g.width ≤ x) ⊎ (g.height ≤ y) → cell_at g x y ≡ pos 0
unfolding cell_at
cell_out g x y (inl h) = grind (arith, nat_tests)
cell_out g x y (inr h) = grind (arith, nat_tests)

cell_plane : (g : Lattice) → length g.cells ≡ g.width * g.height → (x y : ℕ) → (x < g.width) ⊎ (g.width ≤ x)
    → (y < g.height) ⊎ (g.height ≤ y) → cell_at g x y ≡ plane_of g.width g.cells x y
cell_plane g whole x y (inl h) (inl lt) = cell_in g x y h lt ∙ sym (plane_in g.width g.cells x y h)
cell_plane g whole x y (inr h) any = cell_out g x y (inl h) ∙ sym (plane_out g.width g.cells x y h)
cell_plane g whole x y (inl h) (inr ge) =
    let below = mul-le-mul_right g.width ge in
    cell_out g x y (inr ge)
    ∙ sym (plane_in g.width g.cells x y h
    ∙ get_or_past g.cells (y * g.width + x) (pos 0) (omega (arith, below, whole)))

-- a grid, as the plane that is kept row by row
pub cell_at_plane : (g : Lattice) → length g.cells ≡ g.width * g.height → cell_at g ≡ plane_of g.width g.cells
cell_at_plane g whole =
    fun_ext (λ x. fun_ext (λ y. cell_plane g whole x y (cases_lt x g.width) (cases_lt y g.height)))

line_below : (m : ℕ) (cells : List ℤ) → 0 < m → All (λ z. unsigned_abs z < m) cells → (i : ℕ)
    → (i < length cells) ⊎ (length cells ≤ i) → unsigned_abs (line_of cells i) < m
line_below m cells some small i (inl h) = All-get_or (λ z. unsigned_abs z < m) cells i (pos 0) h small
line_below m cells some small i (inr h) = rw (get_or_past cells i (pos 0) h) some

pub plane_below : (m stride : ℕ) (cells : List ℤ) → 0 < m → All (λ z. unsigned_abs z < m) cells
    → AreBelow m (plane_of stride cells)
plane_below m stride cells some small x y = grind (arith, plane_in, line_below, plane_out)

pub cells_below_all : (m stride : ℕ) (cells : List ℤ) → 0 < stride → AreBelow m (plane_of stride cells)
    → All (λ z. unsigned_abs z < m) cells
cells_below_all m stride cells some small = All-from_get_or (λ z. unsigned_abs z < m) cells (pos 0) (λ i h.
    let place : i / stride * stride + i % stride ≡ i = omega arith in
    let column : i % stride < stride = omega arith in
    subst (λ j. unsigned_abs (line_of cells j) < m) place
    (subst (λ z. unsigned_abs z < m) (plane_in stride cells (i % stride) (i / stride) column)
    (small (i % stride) (i / stride))))

abbrev pub lattice : ℕ → ℕ → List ℤ → Lattice
lattice width height cells = record { width = width; height = height; cells = cells }

-- a list that was written over the whole of another
pub written_over : (len : ℕ) (xs ys : List ℤ) → len ≡ length xs → take len (xs ++ ys) ≡ xs
written_over len xs ys e = rw e (take-append_seam xs ys)

-- the cells of a grid that is made of a plane
pub lattice_below : (m width height : ℕ) (made : Lattice) (cells : List ℤ) → 0 < width
    → made ≡ lattice width height cells → AreBelow m (plane_of width cells)
    → All (λ z. unsigned_abs z < m) made.cells
lattice_below m width height made cells some is small =
    subst (λ (g : Lattice). All (λ z. unsigned_abs z < m) g.cells) (sym is)
    (cells_below_all m width cells some small)

-- ---- a grid whose cells went through the levels

module _ (p : Parameters) (c : Component) (coeffs made : Lattice) (width height : ℕ) (first cells : List ℤ)
    (across : width ≡ padded_width p c) (down : height ≡ padded_height p c)
    (own_width : coeffs.width ≡ padded_width p c)
    (own : first ≡ coeffs.cells) (whole : length first ≡ coeffs.width * coeffs.height)
    (own_height : coeffs.height ≡ padded_height p c)
    (kept : length cells ≡ length first) (is : made ≡ lattice width height cells) where
  same_width : coeffs.width ≡ width
  same_width = own_width ∙ sym across

  same_height : coeffs.height ≡ height
  same_height = own_height ∙ sym down

  made_whole : length cells ≡ width * height
  made_whole = kept ∙ whole ∙ ap (λ n. n * coeffs.height) same_width ∙ ap (λ n. width * n) same_height

  made_plane : cell_at made ≡ plane_of width cells
  made_plane = ap cell_at is ∙ cell_at_plane (lattice width height cells) made_whole

  first_plane : plane_of width first ≡ cell_at coeffs
  first_plane = ap (λ n. plane_of n first) (sym same_width) ∙ ap (plane_of coeffs.width) own
      ∙ sym (cell_at_plane coeffs (ap length (sym own) ∙ whole))

  pub inverse_made : plane_of width cells ≡ inverse_transform p c (plane_of width first)
      → cell_at made ≡ inverse_transform p c (cell_at coeffs)
  inverse_made levels = made_plane ∙ levels ∙ ap (inverse_transform p c) first_plane
