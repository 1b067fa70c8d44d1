-- Each cell of the padded grid lies in one subband.
use Rattle.std.proofs.Common.{◌≡◌, ℕ, zero, suc, ◌+◌, ◌-◌, ◌*◌, ◌/◌, ◌^◌, ◌≤◌, cond, min, List, [], ◌∷◌, ◌++◌, map, arith, refl, ap, sym, ◌∙◌}
use Rattle.std.specs.Prelude.{count_by, nat_lt, ◌&&◌}
use Rattle.std.specs.List.{sum_by}
use Rattle.std.proofs.lemmas.Bool.Decides.{nat_tests}
use Rattle.std.proofs.lemmas.List.{map-append}
use Rattle.std.proofs.lemmas.List.Sums.{sum_by-append}
use Rattle.std.proofs.lemmas.Nat.{pow-add}
use Rattle.std.proofs.Math.Nat.{mul-div_cancel, mul_assoc, pow-suc}
use Rattle.std.proofs.Math.Pow.{pow_pos}
use Rattle.vc_types.specs.declared.rect.Rect.{Rect}
use Rattle.vc_types.specs.declared.video.Component.{Component}
use Rattle.vc_types.specs.Subbands.{Subband, subbands_across, both_ways, subbands, subband, H, levels, level_side, nested, rect, subband_rectangle, plane_width, plane_height, padded_width, padded_height}
use Rattle.vc_types.specs.TransformParameters.{Parameters}
use Rattle.vc_types.proofs.RectangleCells.{has_cell}

-- the four quarters of a square
quarters : (x y w h : ℕ) → (cond (nat_lt x w && nat_lt y h) 1 0) + ((0 + cond (has_cell x y (rect w 0 w h)) 1 0) + cond (has_cell x y (rect 0 h w h)) 1 0 + cond (has_cell x y (rect w h w h)) 1 0) ≡ cond (nat_lt x (2 * w) && nat_lt y (2 * h)) 1 0
quarters x y w h = grind (arith, nat_tests)

halves : (x y w h : ℕ) → cond (nat_lt x w && nat_lt y h) 1 0 + (0 + cond (has_cell x y (rect w 0 w h)) 1 0) ≡ cond (nat_lt x (2 * w) && nat_lt y h) 1 0
halves x y w h = grind (arith, nat_tests)

lowest : (x y w h : ℕ) → 0 + cond (has_cell x y (rect 0 0 w h)) 1 0 ≡ cond (nat_lt x w && nat_lt y h) 1 0
lowest x y w h = grind (arith, nat_tests)

pub side_is : (w most levels level n : ℕ) → n + min most (levels + 1 - level) ≡ most → level_side (w * 2 ^ most) most levels level ≡ w * 2 ^ n
side_is w most levels level n e =
    let k = min most (levels + 1 - level) in
    let power : 2 ^ most ≡ 2 ^ n * 2 ^ k = ap (λ t. 2 ^ t) (sym e) ∙ pow-add 2 n k in
    ap (λ t. w * t / 2 ^ k) power
    ∙ ap (λ t. t / 2 ^ k) (sym (mul_assoc w (2 ^ n) (2 ^ k)))
    ∙ mul-div_cancel (w * 2 ^ n) (pow_pos k)

-- the lowest subband has w columns and h rows, e levels are across alone, and d both ways
module _ (e d w h x y : ℕ) where
  abbrev place : Subband → Rect
  place b = nested b.orientation (level_side (w * 2 ^ (d + e)) (d + e) (d + e) b.level) (level_side (h * 2 ^ d) d (d + e) b.level)

  abbrev cell : Rect → ℕ
  cell r = cond (has_cell x y r) 1 0

  abbrev within : ℕ → ℕ → ℕ
  within width height = cond (nat_lt x width && nat_lt y height) 1 0

  -- more subbands behind those that are counted
  counted : (before more : List Subband) (k : ℕ) → count_by (has_cell x y) (map place before) ≡ k → count_by (has_cell x y) (map place (before ++ more)) ≡ k + sum_by cell (map place more)
  counted before more k is = ap (sum_by cell) (map-append place before more) ∙ sum_by-append cell (map place before) (map place more) ∙ ap (λ n. n + sum_by cell (map place more)) is

  count-across : (n : ℕ) → n ≤ e → count_by (has_cell x y) (map place (subbands_across n)) ≡ within (w * 2 ^ n) (h * 2 ^ 0)
  count-across zero below = rw (side_is w (d + e) (d + e) 0 0 (omega arith), side_is h d (d + e) 0 0 (omega arith)) (lowest x y (w * 2 ^ 0) (h * 2 ^ 0))
  count-across (suc n) below =
      let a = w * 2 ^ n in
      let b = h * 2 ^ 0 in
      let wide : w * 2 ^ suc n ≡ 2 * a = rw pow-suc (omega arith) in
      let one : map place (subband (suc n) H ∷ []) ≡ (rect a 0 a b ∷ []) = rw (side_is w (d + e) (d + e) (suc n) n (omega arith), side_is h d (d + e) (suc n) 0 (omega arith)) refl in
      counted (subbands_across n) (subband (suc n) H ∷ []) (within a b) (count-across n (omega arith))
      ∙ ap (λ rs. within a b + sum_by cell rs) one
      ∙ halves x y a b
      ∙ ap (λ k. within k b) (sym wide)

  count : (n : ℕ) → n ≤ d → count_by (has_cell x y) (map place (subbands e n)) ≡ within (w * 2 ^ (n + e)) (h * 2 ^ n)
  count zero below = let none : e ≡ 0 + e = omega arith in count-across e (omega arith) ∙ ap (λ k. within (w * 2 ^ k) (h * 2 ^ 0)) none
  count (suc n) below =
      let a = w * 2 ^ (n + e) in
      let b = h * 2 ^ n in
      let wide : w * 2 ^ suc (n + e) ≡ 2 * a = rw pow-suc (omega arith) in
      let high : h * 2 ^ suc n ≡ 2 * b = rw pow-suc (omega arith) in
      let up : suc n + e ≡ suc (n + e) = omega arith in
      let three : map place (both_ways (e + suc n)) ≡ (rect a 0 a b ∷ rect 0 b a b ∷ rect a b a b ∷ []) = rw (side_is w (d + e) (d + e) (e + suc n) (n + e) (omega arith), side_is h d (d + e) (e + suc n) n (omega arith)) refl in
      counted (subbands e n) (both_ways (e + suc n)) (within a b) (count n (omega arith))
      ∙ ap (λ rs. within a b + sum_by cell rs) three
      ∙ quarters x y a b
      ∙ ap (λ k. within k (2 * b)) (sym wide ∙ ap (λ k. w * 2 ^ k) (sym up)) ∙ ap (λ k. within (w * 2 ^ (suc n + e)) k) (sym high)

abbrev pub subband_rectangles : Parameters → Component → List Rect
subband_rectangles p c = map (subband_rectangle p c) (subbands p.depth_ho p.depth)

pub count-subband_rectangles : (p : Parameters) (c : Component) (x y : ℕ) → count_by (has_cell x y) (subband_rectangles p c) ≡ cond (nat_lt x (padded_width p c) && nat_lt y (padded_height p c)) 1 0
count-subband_rectangles p c x y =
    count p.depth_ho p.depth ((plane_width p.shape c + 2 ^ levels p - 1) / 2 ^ levels p) ((plane_height p.shape c + 2 ^ p.depth - 1) / 2 ^ p.depth) x y p.depth (omega arith)
