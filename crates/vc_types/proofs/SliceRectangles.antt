-- A slice's rectangles one after another: how many coefficients stand before each, and the place of a coefficient.
use Rattle.std.proofs.Common.{◌≡◌, ℕ, suc, ◌+◌, ◌-◌, ◌<◌, ◌≤◌, List, ◌∷◌, length, get_or, take, drop, arith, refl, ◌∙◌, sym, ap, add-one}
use Rattle.std.specs.Prelude.{nat_lt}
use Rattle.std.specs.List.{sum_by}
use Rattle.std.proofs.lemmas.Bool.{cond-true, cond-false, lt-ltb, le-ltb}
use Rattle.std.proofs.lemmas.List.{get_or-map, length-map, take_all}
use Rattle.std.proofs.lemmas.List.Sums.{sum_by-take-drop, sum_by-cons}
use Rattle.std.proofs.Math.Seq.{drop-cons}
use Rattle.vc_types.specs.declared.rect.Rect.{Rect}
use Rattle.vc_types.specs.declared.video.Component.{Component}
use Rattle.vc_types.specs.Quantisation.{subband_count}
use Rattle.vc_types.specs.Subbands.{subband, LL, subbands, subband_at, rect, share, share_start, slice_rectangle, slice_rectangles, slice_coefficient_count, area, place_in, place_among, coefficient_place}
use Rattle.vc_types.specs.TransformParameters.{Parameters}
use Rattle.vc_types.proofs.SubbandOrder.{length-subbands}

same_rect : (x y w h a b c d : ℕ) → x ≡ a → y ≡ b → w ≡ c → h ≡ d → rect x y w h ≡ rect a b c d
same_rect x y w h a b c d ex ey ew eh = cc

-- the share of a rectangle, as code computes it from the rectangle's own fields
pub share-computed : (r q : Rect) (across down column row x y w h : ℕ) → r ≡ q
    → x ≡ share_start r.width across column → y ≡ share_start r.height down row
    → w ≡ share_start r.width across (column + 1) - share_start r.width across column → h ≡ share_start r.height down (row + 1) - share_start r.height down row
    → rect (r.x + x) (r.y + y) w h ≡ share q across down column row
share-computed r q across down column row x y w h e ex ey ew eh =
    same_rect (r.x + x) (r.y + y) w h (r.x + share_start r.width across column) (r.y + share_start r.height down row) (share_start r.width across (column + 1) - share_start r.width across column) (share_start r.height down (row + 1) - share_start r.height down row) (ap (λ n. r.x + n) ex) (ap (λ n. r.y + n) ey) ew eh
    ∙ ap (λ s. share s across down column row) e

pub place_among-first : (r : Rect) (rs : List Rect) (i : ℕ) → i < area r → place_among (r ∷ rs) i ≡ place_in r i
unfolding place_among
place_among-first r rs i h = cond-true (nat_lt i (area r)) (place_in r i) (place_among rs (i - area r)) (lt-ltb i (area r) h)

pub place_among-rest : (r : Rect) (rs : List Rect) (i : ℕ) → area r ≤ i → place_among (r ∷ rs) i ≡ place_among rs (i - area r)
unfolding place_among
place_among-rest r rs i h = cond-false (nat_lt i (area r)) (place_in r i) (place_among rs (i - area r)) (le-ltb i (area r) h)

module _ (p : Parameters) (c : Component) (slice : ℕ) where
  pub length-slice_rectangles : length (slice_rectangles p c slice) ≡ subband_count p.depth_ho p.depth
  length-slice_rectangles = length-map (subbands p.depth_ho p.depth) (λ b. slice_rectangle p c b slice) ∙ length-subbands p.depth_ho p.depth

  pub slice_rectangles-at : (b : ℕ) (d : Rect) → b < subband_count p.depth_ho p.depth → get_or (slice_rectangles p c slice) b d ≡ slice_rectangle p c (subband_at p.depth_ho p.depth b) slice
  slice_rectangles-at b d h =
      let count = length-subbands p.depth_ho p.depth in
      get_or-map (λ s. slice_rectangle p c s slice) (subbands p.depth_ho p.depth) b (subband 0 LL) d (omega (arith, count))

  -- the rectangles from number b on
  pub slice_rectangles-from : (b : ℕ) → b < subband_count p.depth_ho p.depth → drop b (slice_rectangles p c slice) ≡ slice_rectangle p c (subband_at p.depth_ho p.depth b) slice ∷ drop (b + 1) (slice_rectangles p c slice)
  slice_rectangles-from b h =
      let count = length-slice_rectangles in
      rw add-one (drop-cons (slice_rectangles p c slice) b (rect 0 0 0 0) (omega (arith, count)) ∙ ap (λ r. r ∷ drop (suc b) (slice_rectangles p c slice)) (slice_rectangles-at b (rect 0 0 0 0) h))

  -- how many coefficients the subbands before number b have
  unfoldable pub coefficients_before : ℕ → ℕ
  coefficients_before b = sum_by area (take b (slice_rectangles p c slice))

  pub coefficients_before-none : coefficients_before 0 ≡ 0
  unfolding coefficients_before
  coefficients_before-none = refl

  pub coefficients_before-rest : (b : ℕ) → coefficients_before b + sum_by area (drop b (slice_rectangles p c slice)) ≡ slice_coefficient_count p c slice
  unfolding coefficients_before slice_coefficient_count
  coefficients_before-rest b = sum_by-take-drop area (slice_rectangles p c slice) b

  rest-more : (b : ℕ) → b < subband_count p.depth_ho p.depth → sum_by area (drop b (slice_rectangles p c slice)) ≡ area (slice_rectangle p c (subband_at p.depth_ho p.depth b) slice) + sum_by area (drop (b + 1) (slice_rectangles p c slice))
  rest-more b h = ap (sum_by area) (slice_rectangles-from b h) ∙ sum_by-cons area (slice_rectangle p c (subband_at p.depth_ho p.depth b) slice) (drop (b + 1) (slice_rectangles p c slice))

  pub coefficients_before-more : (b : ℕ) → b < subband_count p.depth_ho p.depth → coefficients_before (b + 1) ≡ coefficients_before b + area (slice_rectangle p c (subband_at p.depth_ho p.depth b) slice)
  coefficients_before-more b h =
      let whole = coefficients_before-rest b in
      let next = coefficients_before-rest (b + 1) in
      let more = rest-more b h in
      omega (arith, whole, next, more)

  pub coefficients_before-all : (b : ℕ) → b ≡ subband_count p.depth_ho p.depth → coefficients_before b ≡ slice_coefficient_count p c slice
  unfolding coefficients_before slice_coefficient_count
  coefficients_before-all b e = ap (sum_by area) (take_all b (slice_rectangles p c slice) (let count = length-slice_rectangles in omega (arith, count)))

  -- coefficient i is number `left` of those in the rectangles from number b on
  pub record IsLeft (i b left : ℕ) : Type 0 where
    pub place : place_among (drop b (slice_rectangles p c slice)) left ≡ coefficient_place p c slice i
    pub below : left < sum_by area (drop b (slice_rectangles p c slice))

  pub IsLeft-first : (i : ℕ) → i < slice_coefficient_count p c slice → IsLeft i 0 i
  unfolding coefficient_place slice_coefficient_count
  IsLeft-first i h = record { place = refl; below = h }

  module _ (i b left : ℕ) (at : IsLeft i b left) (h : b < subband_count p.depth_ho p.depth) where
    abbrev here : Rect
    here = slice_rectangle p c (subband_at p.depth_ho p.depth b) slice

    pub IsLeft-here : left < area here → place_in here left ≡ coefficient_place p c slice i
    IsLeft-here within =
        sym (place_among-first here (drop (b + 1) (slice_rectangles p c slice)) left within)
        ∙ ap (λ rs. place_among rs left) (sym (slice_rectangles-from b h)) ∙ at.place

    pub IsLeft-past : area here ≤ left → IsLeft i (b + 1) (left - area here)
    IsLeft-past past =
        let more = rest-more b h in
        record {
          place = sym (place_among-rest here (drop (b + 1) (slice_rectangles p c slice)) left past) ∙ ap (λ rs. place_among rs left) (sym (slice_rectangles-from b h)) ∙ at.place;
          below = omega (arith, more, at.below);
        }
