-- How many coefficients of a run stand before each subband.
use Rattle.std.proofs.Common.{◌≡◌, ℕ, suc, ◌+◌, ◌<◌, ◌≤◌, ◌∷◌, length, get_or, take, drop, arith, refl, ◌∙◌, ap, add-one}
use Rattle.std.specs.List.{sum_by}
use Rattle.std.proofs.lemmas.List.{get_or-map, length-map, take_all}
use Rattle.std.proofs.lemmas.List.Sums.{sum_by-take-drop, sum_by-cons}
use Rattle.std.proofs.Math.Seq.{drop-cons}
use Rattle.vc_types.specs.declared.rect.Rect.{Rect}
use Rattle.vc_types.specs.declared.video.Component.{Component}
use Rattle.vc_types.specs.Quantisation.{subband_count}
use Rattle.vc_types.specs.Subbands.{subband, LL, subbands, subband_at, rect, area}
use Rattle.vc_types.specs.TransformParameters.{Parameters}
use Rattle.vc_types.proofs.SubbandOrder.{length-subbands}
use Rattle.vc_geometry.specs.Runs.{run_rectangle, run_rectangles, run_coefficient_count}

module _ (p : Parameters) (c : Component) (first count : ℕ) where
  abbrev pub run_part : ℕ → Rect
  run_part b = run_rectangle p c first count (subband_at p.depth_ho p.depth b)

  length-run : length (run_rectangles p c first count) ≡ subband_count p.depth_ho p.depth
  length-run = length-map (subbands p.depth_ho p.depth) (run_rectangle p c first count) ∙ length-subbands p.depth_ho p.depth

  run-at : (b : ℕ) (d : Rect) → b < subband_count p.depth_ho p.depth → get_or (run_rectangles p c first count) b d ≡ run_part b
  run-at b d h =
      let many = length-subbands p.depth_ho p.depth in
      get_or-map (run_rectangle p c first count) (subbands p.depth_ho p.depth) b (subband 0 LL) d (omega (arith, many))

  run-from : (b : ℕ) → b < subband_count p.depth_ho p.depth → drop b (run_rectangles p c first count) ≡ run_part b ∷ drop (b + 1) (run_rectangles p c first count)
  run-from b h =
      let many = length-run in
      rw add-one (drop-cons (run_rectangles p c first count) b (rect 0 0 0 0) (omega (arith, many)) ∙ ap (λ r. r ∷ drop (suc b) (run_rectangles p c first count)) (run-at b (rect 0 0 0 0) h))

  unfoldable pub run_before : ℕ → ℕ
  run_before b = sum_by area (take b (run_rectangles p c first count))

  pub run_before-none : run_before 0 ≡ 0
  unfolding run_before
  run_before-none = refl

  run_before-rest : (b : ℕ) → run_before b + sum_by area (drop b (run_rectangles p c first count)) ≡ run_coefficient_count p c first count
  unfolding run_before run_coefficient_count
  run_before-rest b = sum_by-take-drop area (run_rectangles p c first count) b

  pub run_before-within : (b : ℕ) → run_before b ≤ run_coefficient_count p c first count
  run_before-within b = let rest = run_before-rest b in omega (arith, rest)

  pub run_before-more : (b : ℕ) → b < subband_count p.depth_ho p.depth → run_before (b + 1) ≡ run_before b + area (run_part b)
  run_before-more b h =
      let one = run_before-rest b in
      let next = run_before-rest (b + 1) in
      let more = ap (sum_by area) (run-from b h) ∙ sum_by-cons area (run_part b) (drop (b + 1) (run_rectangles p c first count)) in
      omega (arith, one, next, more)

  pub run_before-all : (b : ℕ) → b ≡ subband_count p.depth_ho p.depth → run_before b ≡ run_coefficient_count p c first count
  unfolding run_before run_coefficient_count
  run_before-all b e = ap (sum_by area) (take_all b (run_rectangles p c first count) (let many = length-run in omega (arith, many)))
