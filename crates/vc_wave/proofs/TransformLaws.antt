-- The inverse of a symmetric transform undoes the forward transform.
use Rattle.std.proofs.Common.{rules, ◌≡◌, ℕ, zero, suc, ◌+◌, ◌-◌, ◌*◌, ◌/◌, ◌^◌, ◌<◌, ◌≤◌, ℤ, pos, negsuc}
use Rattle.std.proofs.Common.{◌+ℤ◌, ◌-ℤ◌, arith, ap, refl, ◌∙◌, ◌⊎◌, inl, inr, Bool, IsTrue, true, false}
use Rattle.std.specs.Prelude.{if◌then◌else◌, ◌&&◌}
use Rattle.std.specs.Int.{int_shr}
use mathlib.Core.Path.{fun_ext}
use Rattle.std.proofs.lemmas.Bool.{cases_lt}
use Rattle.std.proofs.lemmas.Bool.Decides.{nat_tests}
use Rattle.std.proofs.lemmas.Int.{ints}
use Rattle.vc_types.specs.declared.video.Component.{Component}
use Rattle.vc_types.specs.Subbands.{plane_width, plane_height, plane_depth}
use Rattle.vc_types.specs.TransformParameters.{Parameters, is_symmetric}
use Rattle.vc_types.specs.Transforms.{Cells, is_within, interleaved, deinterleaved, source_of, on_cells}
use Rattle.vc_types.specs.Transforms.{halved, doubled, inverse_level, forward_level, inverse_levels}
use Rattle.vc_types.specs.Transforms.{forward_levels, levels_across, lowest_width, lowest_height}
use Rattle.vc_types.specs.Transforms.{inverse_transform, padded_plane, forward_transform}
use Rattle.vc_wave.specs.Remade.{half_place}
use Rattle.vc_lift.proofs.LineLaws.{undone_lines}
use Rattle.vc_wave.proofs.PlaneLines.{on_columns-on_columns, on_rows-on_rows, on_columns-same, on_rows-same}
use Rattle.vc_wave.proofs.Weaving.{half_place_below, source_of-half_place, interleaved_places}

-- ---- the inverse undoes the forward transform

interleaved_in : (w h : ℕ) (c : Cells) (x y : ℕ) → x < 2 * w → y < 2 * h
    → interleaved w h c x y ≡ c (half_place w x) (half_place h y)
interleaved_in w h c x y a b = ap (λ f. f x y) (interleaved_places w h c) ∙ grind (arith, nat_tests)

interleaved_out : (w h : ℕ) (c : Cells) (x y : ℕ) → (2 * w ≤ x) ⊎ (2 * h ≤ y) → interleaved w h c x y ≡ c x y
interleaved_out w h c x y (inl a) = ap (λ f. f x y) (interleaved_places w h c) ∙ grind (arith, nat_tests)
interleaved_out w h c x y (inr b) = ap (λ f. f x y) (interleaved_places w h c) ∙ grind (arith, nat_tests)

deinterleaved_in : (w h : ℕ) (c : Cells) (x y : ℕ) → x < 2 * w → y < 2 * h
    → deinterleaved w h c x y ≡ c (source_of w x) (source_of h y)
unfolding deinterleaved
deinterleaved_in w h c x y a b = grind arith

deinterleaved_out : (w h : ℕ) (c : Cells) (x y : ℕ) → (2 * w ≤ x) ⊎ (2 * h ≤ y)
    → deinterleaved w h c x y ≡ c x y
unfolding deinterleaved
deinterleaved_out w h c x y out = grind arith

together : (w h : ℕ) (c : Cells) (x y : ℕ) → (x < 2 * w) ⊎ (2 * w ≤ x) → (y < 2 * h) ⊎ (2 * h ≤ y)
    → interleaved w h (deinterleaved w h c) x y ≡ c x y
together w h c x y g b =
    grind (
      arith,
      interleaved_in,
      deinterleaved_in,
      half_place_below,
      source_of-half_place,
      interleaved_out,
      deinterleaved_out,
    )

pub interleaved-deinterleaved : (w h : ℕ) (c : Cells) → interleaved w h (deinterleaved w h c) ≡ c
interleaved-deinterleaved w h c =
    fun_ext (λ x. fun_ext (λ y. together w h c x y (cases_lt x (2 * w)) (cases_lt y (2 * h))))

half_of_double : (n : ℕ) → (2 * n + 1) / 2 ≡ n
half_of_double n = omega arith

halved_pos : (z : ℤ) (n : ℕ) → z +ℤ pos 1 ≡ pos (2 * n + 1) → halved z ≡ pos n
halved_pos z n e = ap (λ a. int_shr a 1) e ∙ ap pos (half_of_double n)

halved_neg : (z : ℤ) (n : ℕ) → z +ℤ pos 1 ≡ negsuc (2 * n) → halved z ≡ negsuc n
halved_neg z n e = grind arith

halved-doubled : (z : ℤ) → halved (doubled z) ≡ z
halved-doubled (pos n) = halved_pos (doubled (pos n)) n (omega (arith, ints))
halved-doubled (negsuc n) = halved_neg (doubled (negsuc n)) n (omega (arith, ints))

cell_back : (test : Bool) (z : ℤ)
    → (if test then halved (if test then doubled z else z) else (if test then doubled z else z)) ≡ z
cell_back true z = halved-doubled z
cell_back false z = refl

cells_back : (wanted : Bool) (w h : ℕ) (c : Cells)
    → on_cells halved wanted w h (on_cells doubled wanted w h c) ≡ c
unfolding on_cells
cells_back wanted w h c = fun_ext (λ x. fun_ext (λ y. cell_back (wanted && is_within w h x y) (c x y)))

pub inverse_level-forward_level : (wavelet w h : ℕ) (c : Cells)
    → inverse_level wavelet wavelet w h (forward_level wavelet w h c) ≡ c
unfolding inverse_level forward_level
inverse_level-forward_level wavelet w h c =
    search (
      rules,
      interleaved-deinterleaved,
      on_columns-on_columns,
      on_columns-same,
      undone_lines,
      on_rows-on_rows,
      on_rows-same,
      cells_back,
    )

pub inverse_levels-forward_levels : (wavelet d w h : ℕ) (c : Cells)
    → inverse_levels wavelet wavelet d w h (forward_levels wavelet d w h c) ≡ c
unfolding inverse_levels forward_levels
inverse_levels-forward_levels wavelet zero w h c = refl
inverse_levels-forward_levels wavelet (suc d) w h c =
    ap (inverse_level wavelet wavelet (w * 2 ^ d) (h * 2 ^ d))
    (inverse_levels-forward_levels wavelet d w h (forward_level wavelet (w * 2 ^ d) (h * 2 ^ d) c))
    ∙ inverse_level-forward_level wavelet (w * 2 ^ d) (h * 2 ^ d) c

nothing_across : (ho w h : ℕ) (c : Cells) → levels_across ho 0 w h c ≡ c
unfolding levels_across
nothing_across ho w h c = refl

no_levels_across : (ho e w h : ℕ) (c : Cells) → e ≡ 0 → levels_across ho e w h c ≡ c
no_levels_across ho e w h c none = ap (λ n. levels_across ho n w h c) none ∙ nothing_across ho w h c

pub same_side : (w e : ℕ) → e ≡ 0 → w * 2 ^ e ≡ w
same_side w e none = rw none (omega arith)

same_wavelet : (p : Parameters) → IsTrue (is_symmetric p) → p.wavelet_ho ≡ p.wavelet
same_wavelet p symmetric = grind (arith, nat_tests)

pub no_levels : (p : Parameters) → IsTrue (is_symmetric p) → p.depth_ho ≡ 0
no_levels p symmetric = grind (arith, nat_tests)

-- the symmetric transform: levels both ways by one wavelet
pub symmetric_transform : (p : Parameters) (c : Component) (cells : Cells) → IsTrue (is_symmetric p)
    → inverse_transform p c cells
    ≡ inverse_levels p.wavelet p.wavelet p.depth (lowest_width p c) (lowest_height p c) cells
unfolding inverse_transform
symmetric_transform p c cells symmetric = grind (arith, no_levels, no_levels_across, same_side, same_wavelet)

pub inverse_transform-forward_transform : (p : Parameters) (c : Component) (samples : ℕ → ℕ → ℕ)
    → IsTrue (is_symmetric p)
    → inverse_transform p c (forward_transform p c samples) ≡ padded_plane p c samples
unfolding forward_transform
inverse_transform-forward_transform p c samples symmetric =
    symmetric_transform p c (forward_transform p c samples) symmetric
    ∙ inverse_levels-forward_levels p.wavelet p.depth (lowest_width p c) (lowest_height p c)
    (padded_plane p c samples)

pub padded_own : (p : Parameters) (c : Component) (samples : ℕ → ℕ → ℕ) (x y : ℕ) → x < plane_width p.shape c
    → y < plane_height p.shape c
    → padded_plane p c samples x y ≡ pos (samples x y) -ℤ pos (2 ^ (plane_depth p.shape c - 1))
unfolding padded_plane
padded_own p c samples x y a b = grind arith
