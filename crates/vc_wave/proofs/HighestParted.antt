-- The highest level of the forward transform, and the levels below it.
use Rattle.std.proofs.Common.{◌≡◌, ℕ, ◌+◌, ◌-◌, ◌*◌, ◌^◌, ◌<◌, ◌≤◌, List, ℤ, IsTrue, All, length, true, arith, ap}
use Rattle.std.proofs.Common.{Some, sym, refl, ◌∙◌}
use Rattle.std.specs.Option.{is_some}
use mathlib.Core.Path.{fun_ext}
use Rattle.vc_types.specs.declared.video.Component.{Component}
use Rattle.vc_types.specs.Lifting.{line_of}
use Rattle.vc_types.specs.Rasters.{Raster, sample_at}
use Rattle.vc_types.specs.Subbands.{plane_width, plane_height, plane_depth, padded_width, padded_height}
use Rattle.vc_types.specs.TransformParameters.{Parameters, is_symmetric}
use Rattle.vc_types.specs.Transforms.{Cells, forward_level, forward_levels, forward_transform, padded_plane}
use Rattle.vc_types.specs.Transforms.{lowest_width, lowest_height, source_of}
use Rattle.vc_wave.specs.ForwardBounds.{parted_level_bound}
use Rattle.vc_wave.specs.Highest.{IsHighestParted}
use Rattle.vc_wave.specs.Layout.{laid_out, row_in_turn}
use Rattle.vc_wave.specs.NarrowBounds.{HasBound, bound_over}
use Rattle.vc_wave.specs.Planes.{plane_of}
use Rattle.vc_wave.specs.Remade.{parted_in_turn}
use Rattle.vc_wave.specs.Samples.{padded_sample}
use Rattle.vc_wave.specs.Sides.{highest_width, highest_height}
use Rattle.vc_wave.proofs.CarriedBounds.{first_carried, parted_at_most}
use Rattle.vc_wave.proofs.Fills.{padded_within, same_sample}
use Rattle.vc_wave.proofs.HighestLevel.{whole_width, whole_height}
use Rattle.vc_wave.proofs.LayoutLaws.{turned, row_step, row_end, turned_in}
use Rattle.vc_wave.proofs.Levels.{next_forward}
use Rattle.vc_wave.proofs.LowCells.{all_within}
use Rattle.vc_wave.proofs.PlaneSteps.{plane_in}
use Rattle.vc_wave.proofs.TransformLaws.{no_levels, same_side}
use Rattle.vc_wave.proofs.TransformLocality.{forward_levels_stay}
use Rattle.vc_wave.proofs.TurnedLevels.{level_apart}
use Rattle.vc_wave.proofs.Weaving.{source_below}

-- ---- the highest level

-- rows from the first on are all of them
pub from_first : (columns h : ℕ) (cells : List ℤ) (value : Cells)
    → ((x y : ℕ) → x < columns → y < 2 * (h - 0) → line_of cells (y * columns + x) ≡ value x (2 * 0 + y))
    → (x y : ℕ) → x < columns → y < 2 * h → line_of cells (y * columns + x) ≡ value x y
from_first columns h cells value made x y a b =
    let row : 2 * 0 + y ≡ y = omega arith in
    made x y a (omega (arith, b)) ∙ ap (value x) row

module _ (p : Parameters) (c : Component) (plane : Raster) (some : 1 ≤ p.depth)
    (own_width : plane.width ≡ plane_width p.shape c) (own_height : plane.height ≡ plane_height p.shape c)
    (wavelet w h depth : ℕ) (down : wavelet ≡ p.wavelet) (across : w ≡ highest_width p c)
    (high : h ≡ highest_height p c) (own_depth : depth ≡ plane_depth p.shape c) (cells : List ℤ)
    (made : (x y : ℕ) → x < 2 * w → y < 2 * h
    → line_of cells (y * (2 * w) + x) ≡ parted_in_turn wavelet w h (padded_sample plane depth) x y) where
  own_samples : ◌≡◌ {A = Cells} (padded_sample plane depth) (padded_plane p c (sample_at plane))
  own_samples = fun_ext (λ x. fun_ext (λ y. same_sample plane depth p c own_width own_height own_depth x y))

  columns : 2 * w ≡ padded_width p c
  columns = ap (λ n. 2 * n) across ∙ whole_width p c some

  rows : 2 * h ≡ padded_height p c
  rows = ap (λ n. 2 * n) high ∙ whole_height p c some

  pub highest_parted : IsHighestParted p c (sample_at plane) cells
  highest_parted x y a b =
      ap (λ n. line_of cells (y * n + x)) (sym columns)
      ∙ made x y (omega (arith, a, columns)) (omega (arith, b, rows))
      ∙ ap (λ n. parted_in_turn n w h (padded_sample plane depth) x y) down
      ∙ ap (λ n. parted_in_turn p.wavelet n h (padded_sample plane depth) x y) across
      ∙ ap (λ n. parted_in_turn p.wavelet (highest_width p c) n (padded_sample plane depth) x y) high
      ∙ ap (λ (s : Cells). parted_in_turn p.wavelet (highest_width p c) (highest_height p c) s x y) own_samples

  module _ (bits : 1 ≤ depth) (wide : 0 < w) (tall : 0 < h) (small : All (λ s. s < 2 ^ depth) plane.samples)
      (whole : length cells ≡ padded_height p c * padded_width p c)
      (narrow : is_some (bound_over (parted_level_bound p.wavelet) p.depth (2 ^ (depth - 1))) ≡ true) where
    pub highest_bound : HasBound (bound_over (parted_level_bound p.wavelet) (p.depth - 1)) cells
    highest_bound =
        let b = first_carried (parted_level_bound p.wavelet) p.depth (2 ^ (depth - 1)) some narrow in
        let fits : parted_level_bound wavelet (2 ^ (depth - 1)) ≡ Some b.first =
        ap (λ n. parted_level_bound n (2 ^ (depth - 1))) down ∙ b.over in
        let all : length cells ≡ 2 * h * (2 * w) =
        whole ∙ ap (λ n. n * padded_width p c) (sym rows) ∙ ap (λ n. 2 * h * n) (sym columns) in
        record {
          most = b.first;
          after = b.last;
          small = all_within (2 * w) (2 * h) b.first cells (omega (arith, wide)) all
              (λ x y a lt. rw (plane_in (2 * w) cells x y a ∙ made x y a lt)
              (parted_at_most wavelet (2 ^ (depth - 1)) b.first fits w h (padded_sample plane depth) wide
              (padded_within plane depth bits small) tall x y));
          fits = b.rest;
        }

-- ---- the levels below it

-- a level that leaves its rows in turn gives the level, once they are put apart
module _ (wavelet w h stride : ℕ) (first : Cells) (cells : List ℤ) (wide : 2 * w ≤ stride)
    (made : (x y : ℕ) → x < 2 * w → y < 2 * h
    → line_of cells (y * stride + x) ≡ parted_in_turn wavelet w h first x y) where
  one_row : (x y : ℕ) → x < 2 * w → y < 2 * h → laid_out 1 w h (plane_of stride cells) x y
      ≡ laid_out 1 w h (parted_in_turn wavelet w h first) x y
  one_row x y a b =
      let row = source_of h y in
      let below : row < 2 * h = source_below h y b in
      let there : row_in_turn 1 w h x y ≡ row =
      row_step 0 w h x y ∙ row_end (2 * w) (2 * h) x (turned w h x y) ∙ turned_in w h x y a b in
      ap (plane_of stride cells x) there ∙ plane_in stride cells x row (omega (arith, a, wide)) ∙ made x row a below
      ∙ sym (ap (parted_in_turn wavelet w h first x) there)

  pub level_at : (x y : ℕ) → x < 2 * w → y < 2 * h
      → laid_out 1 w h (plane_of stride cells) x y ≡ forward_level wavelet w h first x y
  level_at x y a b = one_row x y a b ∙ ap (λ (p : Cells). p x y) (level_apart wavelet w h first)

module _ (p : Parameters) (c : Component) (some : 1 ≤ p.depth) (symmetric : IsTrue (is_symmetric p))
    (samples : ℕ → ℕ → ℕ) (old new : List ℤ) (top : IsHighestParted p c samples old) where
  abbrev low_width : ℕ
  low_width = lowest_width p c * 2 ^ p.depth_ho

  abbrev below_highest : Cells → Cells
  below_highest = forward_levels p.wavelet (p.depth - 1) low_width (lowest_height p c)

  all_levels : (x y : ℕ)
      → below_highest (forward_level p.wavelet (highest_width p c) (highest_height p c) (padded_plane p c samples)) x y
      ≡ forward_transform p c samples x y
  unfolding forward_transform
  all_levels x y =
      let all : p.depth - 1 + 1 ≡ p.depth = omega (arith, some) in
      let side = same_side (lowest_width p c) p.depth_ho (no_levels p symmetric) in
      ap (λ (f : Cells). f x y)
      (next_forward p.wavelet (p.depth - 1) low_width (lowest_height p c) (padded_plane p c samples)
      (forward_level p.wavelet (highest_width p c) (highest_height p c) (padded_plane p c samples))
      (forward_levels p.wavelet p.depth (lowest_width p c) (lowest_height p c) (padded_plane p c samples)) refl
      (ap (λ n. forward_levels p.wavelet n low_width (lowest_height p c) (padded_plane p c samples)) all
      ∙ ap (λ n. forward_levels p.wavelet p.depth n (lowest_height p c) (padded_plane p c samples)) side))

  pub levels_parted : laid_out p.depth low_width (lowest_height p c) (plane_of (padded_width p c) new)
      ≡ below_highest (laid_out 1 (low_width * 2 ^ (p.depth - 1)) (lowest_height p c * 2 ^ (p.depth - 1))
      (plane_of (padded_width p c) old))
      → (x y : ℕ) → x < padded_width p c → y < padded_height p c
      → laid_out p.depth low_width (lowest_height p c) (plane_of (padded_width p c) new) x y
      ≡ forward_transform p c samples x y
  levels_parted made x y a b =
      let wide = whole_width p c some in
      let high = whole_height p c some in
      ap (λ (f : Cells). f x y) made
      ∙ (forward_levels_stay low_width (lowest_height p c) (padded_width p c) (padded_height p c) p.wavelet
      (p.depth - 1) (omega (arith, wide)) (omega (arith, high))).agrees
      (laid_out 1 (highest_width p c) (highest_height p c) (plane_of (padded_width p c) old))
      (forward_level p.wavelet (highest_width p c) (highest_height p c) (padded_plane p c samples))
      (λ u t l lt. level_at p.wavelet (highest_width p c) (highest_height p c) (padded_width p c)
      (padded_plane p c samples) old (omega (arith, wide))
      (λ i j m n. top i j (omega (arith, m, wide)) (omega (arith, n, high))) u t
      (omega (arith, l, wide)) (omega (arith, lt, high))) x y a b
      ∙ all_levels x y
