-- How many coefficients of a component the slices before one have together.
use Rattle.std.proofs.Common.{◌≡◌, ℕ, zero, suc, ◌+◌, ◌-◌, ◌*◌, ◌/◌, ◌%◌, ◌^◌, ◌<◌, ◌≤◌, List, [], ◌∷◌, ◌++◌, map, refl, sym, ap, ◌∙◌, arith, inl, inr, sum_by}
use Rattle.std.proofs.lemmas.Bool.{cases_lt}
use Rattle.std.proofs.lemmas.Grind.{common_steps}
use Rattle.std.proofs.lemmas.List.{map-append}
use Rattle.std.proofs.lemmas.List.Sums.{sum_by-append, sum_by-cons}
use Rattle.std.proofs.lemmas.Nat.{div-mul-add, mod-mul-add}
use Rattle.std.proofs.Math.Nat.{mul-div_cancel, pow-suc, mod-add-div', mul-le-mul_left, mul-le-mul_right}
use Rattle.vc_types.specs.declared.rect.Rect.{Rect}
use Rattle.vc_types.specs.declared.video.Component.{Component}
use Rattle.vc_types.specs.Subbands.{Subband, H, subband, subbands_across, both_ways, subbands, levels, level_side, nested, rect, area, share, share_start, subband_rectangle, slice_rectangle, slice_count, slice_coefficient_count, padded_width, padded_height, plane_width, plane_height}
use Rattle.vc_types.specs.TransformParameters.{Parameters}
use Rattle.vc_types.proofs.Shares.{share_start-within}
use Rattle.vc_types.proofs.SubbandCells.{side_is}

-- ---- of one rectangle

start_rises : (length n k : ℕ) → 0 < n → share_start length n k ≤ share_start length n (k + 1)
start_rises length n k some = grind (arith, common_steps)

start_whole : (length n : ℕ) → 0 < n → share_start length n n ≡ length
start_whole length n some = mul-div_cancel length some

start_none : (length n : ℕ) → 0 < n → share_start length n 0 ≡ 0
start_none length n some = grind (arith, common_steps)

-- by the column and the row of a slice
abbrev covered_at : Rect → ℕ → ℕ → ℕ → ℕ → ℕ
covered_at r across down column row =
    r.width * share_start r.height down row
    + share_start r.width across column * (share_start r.height down (row + 1) - share_start r.height down row)

-- cells of a rectangle in the slices before one
unfoldable pub covered : ℕ → ℕ → ℕ → Rect → ℕ
covered across down slice r = covered_at r across down (slice % across) (slice / across)

covered_is : (across down slice column row : ℕ) (r : Rect) → slice ≡ row * across + column → column < across → covered across down slice r ≡ covered_at r across down column row
unfolding covered
covered_is across down slice column row r is below = grind (arith, div-mul-add, is, mod-mul-add)

joined : (a b d : ℕ) → a ≤ b → a * d + (b - a) * d ≡ b * d
joined a b d le = grind arith

joined_left : (a b d : ℕ) → a ≤ b → d * a + d * (b - a) ≡ d * b
joined_left a b d le = let f = joined a b d le in omega (arith, f)

next_column : (across down column row : ℕ) (r : Rect) → 0 < across → covered_at r across down column row + area (share r across down column row) ≡ covered_at r across down (column + 1) row
next_column across down column row r some = grind (arith, joined, start_rises)

next_row : (across down column row : ℕ) (r : Rect) → 0 < across → 0 < down → column + 1 ≡ across → covered_at r across down (column + 1) row ≡ covered_at r across down 0 (row + 1)
next_row across down column row r some some_down last =
    let s = share_start r.height down row in
    let next = share_start r.height down (row + 1) in
    let whole : share_start r.width across (column + 1) ≡ r.width = ap (share_start r.width across) last ∙ start_whole r.width across some in
    let none = start_none r.width across some in
    let more = joined_left s next r.width (start_rises r.height down row some_down) in
    ap (λ n. r.width * s + n * (next - s)) whole
    ∙ more
    ∙ omega (arith)
    ∙ sym (ap (λ n. r.width * next + n * (share_start r.height down (row + 1 + 1) - next)) none)

module _ (across down slice : ℕ) (r : Rect) (some : 0 < across) (some_down : 0 < down) where
  is : slice ≡ slice / across * across + slice % across
  is = omega (arith, mod-add-div' slice across)

  pub covered_more : covered across down slice r + area (share r across down (slice % across) (slice / across)) ≡ covered across down (slice + 1) r
  unfolding covered
  covered_more =
      next_column across down (slice % across) (slice / across) r some
      ∙ elim (cases_lt (slice % across + 1) across) [
        | inl lt ↦ sym (covered_is across down (slice + 1) (slice % across + 1) (slice / across) r (omega (arith, is)) lt)
        | inr ge ↦ (
            let last : slice % across + 1 ≡ across = omega arith in
            next_row across down (slice % across) (slice / across) r some some_down last
            ∙ sym (covered_is across down (slice + 1) 0 (slice / across + 1) r (omega (arith, is)) some))
      ]

  pub covered_most : slice ≤ across * down → covered across down slice r ≤ area r
  unfolding covered
  covered_most few =
      let row = slice / across in
      let column = slice % across in
      let s = share_start r.height down row in
      let next = share_start r.height down (row + 1) in
      let commuted : across * down ≡ down * across = omega arith in
      elim (cases_lt row down) [
        | inl lt ↦ (
            let a = start_rises r.width across column some in
            let b = share_start-within r.width across column (omega arith) in
            let left = mul-le-mul_right (next - s) (let le : share_start r.width across column ≤ r.width = omega (arith, a, b) in le) in
            let whole = joined_left s next r.width (start_rises r.height down row some_down) in
            let all = mul-le-mul_left r.width (share_start-within r.height down row lt) in
            omega (arith, left, whole, all))
        | inr ge ↦ (
            let rows = mul-le-mul_right across ge in
            let last : slice ≡ down * across + 0 = omega (arith, is, rows, commuted) in
            let none = ap (λ n. n * (share_start r.height down (down + 1) - share_start r.height down down)) (start_none r.width across some) in
            let full = ap (λ n. r.width * n) (start_whole r.height down some_down) in
            let at = covered_is across down slice 0 down r last some in
            omega (arith, at, none, full))
      ]

-- ---- of all subbands

module _ (across down slice : ℕ) (some : 0 < across) (some_down : 0 < down) (place : Subband → Rect) where
  abbrev part : Subband → Rect
  part b = share (place b) across down (slice % across) (slice / across)

  all_more : (bands : List Subband) → sum_by (covered across down slice) (map place bands) + sum_by area (map part bands) ≡ sum_by (covered across down (slice + 1)) (map place bands)
  all_more [] = refl
  all_more (b ∷ bands) = grind (arith, common_steps, covered, covered_more, sum_by-cons, all_more bands)

all_most : (across down slice : ℕ) → 0 < across → 0 < down → slice ≤ across * down → (rs : List Rect) → sum_by (covered across down slice) rs ≤ sum_by area rs
all_most across down slice some some_down few [] = omega arith
all_most across down slice some some_down few (r ∷ rs) =
    grind (
      arith,
      common_steps,
      covered,
      covered_most,
      sum_by-cons,
      all_most across down slice some some_down few rs,
    )

four : (a b : ℕ) → a * b + (0 + a * b + a * b + a * b) ≡ 2 * a * (2 * b)
four a b = omega arith

-- the lowest subband has w columns and h rows, e levels are across alone, and d both ways
module _ (e d w h : ℕ) where
  abbrev place : Subband → Rect
  place b = nested b.orientation (level_side (w * 2 ^ (d + e)) (d + e) (d + e) b.level) (level_side (h * 2 ^ d) d (d + e) b.level)

  together : (before more : List Subband) (k : ℕ) → sum_by area (map place before) ≡ k → sum_by area (map place (before ++ more)) ≡ k + sum_by area (map place more)
  together before more k is = ap (sum_by area) (map-append place before more) ∙ sum_by-append area (map place before) (map place more) ∙ ap (λ n. n + sum_by area (map place more)) is

  areas_across : (n : ℕ) → n ≤ e → sum_by area (map place (subbands_across n)) ≡ w * 2 ^ n * (h * 2 ^ 0)
  areas_across zero below = rw (side_is w (d + e) (d + e) 0 0 (omega arith), side_is h d (d + e) 0 0 (omega arith)) (omega arith)
  areas_across (suc n) below =
      let a = w * 2 ^ n in
      let b = h * 2 ^ 0 in
      let wide : w * 2 ^ suc n ≡ 2 * a = rw pow-suc (omega arith) in
      let one : map place (subband (suc n) H ∷ []) ≡ (rect a 0 a b ∷ []) = rw (side_is w (d + e) (d + e) (suc n) n (omega arith), side_is h d (d + e) (suc n) 0 (omega arith)) refl in
      together (subbands_across n) (subband (suc n) H ∷ []) (a * b) (areas_across n (omega arith))
      ∙ ap (λ rs. a * b + sum_by area rs) one
      ∙ omega arith
      ∙ ap (λ k. k * b) (sym wide)

  areas : (n : ℕ) → n ≤ d → sum_by area (map place (subbands e n)) ≡ w * 2 ^ (n + e) * (h * 2 ^ n)
  areas zero below = let none : e ≡ 0 + e = omega arith in areas_across e (omega arith) ∙ ap (λ k. w * 2 ^ k * (h * 2 ^ 0)) none
  areas (suc n) below =
      let a = w * 2 ^ (n + e) in
      let b = h * 2 ^ n in
      let wide : w * 2 ^ suc (n + e) ≡ 2 * a = rw pow-suc (omega arith) in
      let high : h * 2 ^ suc n ≡ 2 * b = rw pow-suc (omega arith) in
      let up : suc n + e ≡ suc (n + e) = omega arith in
      let three : map place (both_ways (e + suc n)) ≡ (rect a 0 a b ∷ rect 0 b a b ∷ rect a b a b ∷ []) = rw (side_is w (d + e) (d + e) (e + suc n) (n + e) (omega arith), side_is h d (d + e) (e + suc n) n (omega arith)) refl in
      together (subbands e n) (both_ways (e + suc n)) (a * b) (areas n (omega arith))
      ∙ ap (λ rs. a * b + sum_by area rs) three
      ∙ four a b
      ∙ ap (λ k. k * (2 * b)) (sym wide ∙ ap (λ k. w * 2 ^ k) (sym up)) ∙ ap (λ k. w * 2 ^ (suc n + e) * k) (sym high)

-- ---- of a component

module _ (p : Parameters) (c : Component) where
  abbrev rectangles : List Rect
  rectangles = map (subband_rectangle p c) (subbands p.depth_ho p.depth)

  -- coefficients of the slices before one
  unfoldable pub counted : ℕ → ℕ
  counted slice = sum_by (covered p.slices_x p.slices_y slice) rectangles

  pub counted_more : (slice : ℕ) → 0 < p.slices_x → 0 < p.slices_y → counted slice + slice_coefficient_count p c slice ≡ counted (slice + 1)
  unfolding counted slice_coefficient_count slice_rectangle
  counted_more slice some some_down = all_more p.slices_x p.slices_y slice some some_down (subband_rectangle p c) (subbands p.depth_ho p.depth)

  areas_are : sum_by area rectangles ≡ padded_width p c * padded_height p c
  areas_are =
      let w = (plane_width p.shape c + 2 ^ levels p - 1) / 2 ^ levels p in
      let h = (plane_height p.shape c + 2 ^ p.depth - 1) / 2 ^ p.depth in
      areas p.depth_ho p.depth w h p.depth (omega arith)

  pub counted_most : (slice : ℕ) → 0 < p.slices_x → 0 < p.slices_y → slice ≤ slice_count p → counted slice ≤ padded_width p c * padded_height p c
  unfolding counted
  counted_most slice some some_down few = grind (arith, all_most, areas_are)
