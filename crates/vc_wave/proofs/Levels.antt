-- The levels of the transform in turn.
use Rattle.std.proofs.Common.{◌≡◌, ℕ, suc, ◌+◌, ◌*◌, ◌^◌, ◌<◌, ◌≤◌, arith, ap, sym, ◌∙◌}
use Rattle.std.proofs.Math.Nat.{div-mul-le_self, mul-le-mul, mul-le-mul_left, mul-le-mul_right, pow-suc}
use Rattle.std.proofs.Math.Pow.{pow_mono, pow_pos}
use Rattle.std.proofs.Math.Numerals.{add-one}
use Rattle.vc_types.specs.Transforms.{Cells, lowest_width, lowest_height, level_across, levels_across}
use Rattle.vc_types.specs.Transforms.{inverse_level, inverse_levels, forward_level, forward_levels}
use Rattle.vc_types.specs.declared.video.Component.{Component}
use Rattle.vc_types.specs.Subbands.{padded_width, padded_height}
use Rattle.vc_types.specs.TransformParameters.{Parameters}
use Rattle.vc_wave.specs.Planes.{HasRoom}
use Rattle.vc_wave.proofs.TransformLocality.{side_whole, less}

-- ---- sides

-- a level below the highest has half of the side, or less
pub level_fits : (w level levels : ℕ) → level < levels → 2 * (w * 2 ^ level) ≤ w * 2 ^ levels
level_fits w level levels h =
    let more : 2 ^ suc level ≤ 2 ^ levels = pow_mono h in
    let times = mul-le-mul_left w more in
    omega (arith, times, ap (λ p. w * p) (pow-suc 2 level))

pub twice_side : (w n : ℕ) → w * 2 ^ (n + 1) ≡ 2 * (w * 2 ^ n)
twice_side w n = ap (λ k. w * 2 ^ k) (add-one n) ∙ ap (λ p. w * p) (pow-suc 2 n) ∙ omega arith

pub level_some : (w level : ℕ) → 0 < w → 0 < w * 2 ^ level
level_some w level h = omega (arith, mul-le-mul h (pow_pos level))

-- there is room for it
pub level_room : (w h n levels stride cells block scratch : ℕ) → n < levels
    → HasRoom (w * 2 ^ levels) (h * 2 ^ levels) stride cells block scratch
    → HasRoom (2 * (w * 2 ^ n)) (2 * (h * 2 ^ n)) stride cells block scratch
level_room w h n levels stride cells block scratch lt room = grind (arith, level_fits, mul-le-mul_right)

pub across_room : (w h n levels stride cells block scratch : ℕ) → n < levels
    → HasRoom (w * 2 ^ levels) h stride cells block scratch
    → HasRoom (2 * (w * 2 ^ n)) h stride cells block scratch
across_room w h n levels stride cells block scratch lt room = grind (arith, level_fits)

-- room for all levels of a component, and for the lowest levels alone
module _ (p : Parameters) (c : Component) (stride cells block scratch : ℕ)
    (room : HasRoom (padded_width p c) (padded_height p c) stride cells block scratch) where
  pub whole_room : HasRoom (lowest_width p c * 2 ^ p.depth_ho * 2 ^ p.depth) (lowest_height p c * 2 ^ p.depth)
      stride cells block scratch
  whole_room = grind (arith, side_whole, div-mul-le_self, mul-le-mul_right)

  pub lowest_room : HasRoom (lowest_width p c * 2 ^ p.depth_ho) (lowest_height p c) stride cells block scratch
  lowest_room =
      let side = less (lowest_width p c * 2 ^ p.depth_ho) p.depth (padded_width p c)
      (side_whole (padded_width p c) p.depth p.depth_ho) in
      let low = less (lowest_height p c) p.depth (padded_height p c)
      (div-mul-le_self (padded_height p c) (2 ^ p.depth)) in
      record {
        across = omega (arith, side, room.across);
        down = (let fits = mul-le-mul_right stride low in omega (arith, fits, room.down));
        row = omega (arith, side, room.row);
        side_by_side = (let fits = mul-le-mul_right block low in omega (arith, fits, room.side_by_side));
      }

-- ---- one level more

pub no_across : (wavelet w h : ℕ) (c : Cells) → c ≡ levels_across wavelet 0 w h c
unfolding levels_across
no_across wavelet w h c = λ i. c

pub next_across : (wavelet e w h : ℕ) (c now made : Cells) → now ≡ levels_across wavelet e w h c
    → made ≡ level_across wavelet (w * 2 ^ e) h now → made ≡ levels_across wavelet (e + 1) w h c
unfolding levels_across
next_across wavelet e w h c now made so_far is = is ∙ ap (level_across wavelet (w * 2 ^ e) h) so_far
    ∙ ap (λ n. levels_across wavelet n w h c) (sym (add-one e))

pub no_levels : (vertical horizontal w h : ℕ) (c : Cells) → c ≡ inverse_levels vertical horizontal 0 w h c
unfolding inverse_levels
no_levels vertical horizontal w h c = λ i. c

pub next_level : (vertical horizontal d w h : ℕ) (c now made : Cells)
    → now ≡ inverse_levels vertical horizontal d w h c
    → made ≡ inverse_level vertical horizontal (w * 2 ^ d) (h * 2 ^ d) now
    → made ≡ inverse_levels vertical horizontal (d + 1) w h c
unfolding inverse_levels
next_level vertical horizontal d w h c now made so_far is = is
    ∙ ap (inverse_level vertical horizontal (w * 2 ^ d) (h * 2 ^ d)) so_far
    ∙ ap (λ n. inverse_levels vertical horizontal n w h c) (sym (add-one d))

pub no_forward : (wavelet w h : ℕ) (c : Cells) → forward_levels wavelet 0 w h c ≡ c
unfolding forward_levels
no_forward wavelet w h c = λ i. c

-- where so many levels are left
pub next_forward : (wavelet left w h : ℕ) (now made whole : Cells)
    → made ≡ forward_level wavelet (w * 2 ^ left) (h * 2 ^ left) now
    → forward_levels wavelet (left + 1) w h now ≡ whole → forward_levels wavelet left w h made ≡ whole
unfolding forward_levels
next_forward wavelet left w h now made whole is so_far = ap (forward_levels wavelet left w h) is
    ∙ ap (λ n. forward_levels wavelet n w h now) (sym (add-one left)) ∙ so_far
