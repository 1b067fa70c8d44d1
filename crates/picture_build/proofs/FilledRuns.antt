-- The slices of a run that are put into cells together, subband by subband: none is written over. Of the cells some are seen.
use Rattle.std.proofs.Common.{◌≡◌, ◌≢◌, ℕ, ◌+◌, ◌-◌, ◌<◌, ◌≤◌, List, ℤ, arith, ap, sym, subst, ◌∙◌, inl, inr}
use Rattle.std.proofs.lemmas.Bool.{cases_lt}
use Rattle.vc_types.specs.declared.rect.Rect.{Rect}
use Rattle.vc_types.specs.declared.video.Component.{Component}
use Rattle.vc_types.specs.Lifting.{Line, line_of}
use Rattle.vc_types.specs.Quantisation.{subband_count}
use Rattle.vc_types.specs.Subbands.{area, place_in, subband_at, slice_coefficient_count, padded_width}
use Rattle.vc_types.specs.TransformParameters.{Parameters}
use Rattle.vc_types.proofs.RectangleWalk.{rectangle, walked, walked-below}
use Rattle.vc_types.proofs.SliceRectangles.{coefficients_before, coefficients_before-more, coefficients_before-all}
use Rattle.vc_geometry.specs.CellRects.{cell_number}
use Rattle.vc_geometry.specs.Runs.{IsRun, run_rectangle, run_coefficient_count, strip_number, cell_of}
use Rattle.vc_geometry.proofs.RunPlaces.{IsPartOf, of-slice, within-run, numbered, cell-below, cell-place}
use Rattle.vc_geometry.proofs.RunWalk.{run_before, run_before-more, run_before-within}
use Rattle.vc_slice.proofs.StripPlaces.{stands}
use Rattle.picture_build.specs.Kept.{kept_at}
use Rattle.picture_build.proofs.PlacedNumbers.{kept_apart}

-- all cells are
abbrev pub AllSeen : ℕ → Type 0
AllSeen m = Unit {0}

module _ (p : Parameters) (c : Component) (first count : ℕ) (IsSeen : ℕ → Type 0) where
  -- of each slice of the run, the coefficients of the first subbands stand in the cells
  abbrev pub FirstOfRun : List ℤ → ℕ → Line → Type 0
  FirstOfRun strip b cells = (k i : ℕ) → k < count → i < coefficients_before p c (first + k) b → IsSeen (kept_at p c (first + k) i) → cells (kept_at p c (first + k) i) ≡ line_of strip (strip_number p c first count (first + k) i)

  -- cells of no slice of the run are as before
  abbrev pub OthersOfRun : Line → Line → Type 0
  OthersOfRun old cells = (m : ℕ) → IsSeen m → ((k i : ℕ) → k < count → i < slice_coefficient_count p c (first + k) → m ≢ kept_at p c (first + k) i) → cells m ≡ old m

  module _ (run : IsRun p first count) (some_across : 0 < p.slices_x) (some_down : 0 < p.slices_y) (strip : List ℤ) (b from : ℕ) (whole : Rect) (inside : b < subband_count p.depth_ho p.depth)
      (is : whole ≡ run_rectangle p c first count (subband_at p.depth_ho p.depth b)) (at : from ≡ run_before p c first count b) where
    pub run-from-more : from + area whole ≡ run_before p c first count (b + 1)
    run-from-more =
        let more = run_before-more p c first count b inside in
        let same = ap area is in
        omega (arith, more, same, at)

    pub run-within : from + area whole ≤ run_coefficient_count p c first count
    run-within = let more = run-from-more in let all = run_before-within p c first count (b + 1) in omega (arith, more, all)

    abbrev stride : ℕ
    stride = padded_width p c

    -- the coefficient of a slice that stands in a cell of the run's rectangle
    record IsKeptAt (j : ℕ) : Type 0 where
      k : ℕ
      i : ℕ
      k_below : k < count
      i_from : coefficients_before p c (first + k) b ≤ i
      i_below : i < slice_coefficient_count p c (first + k)
      kept : cell_number stride (place_in whole j) ≡ kept_at p c (first + k) i

    kept-by : (j : ℕ) → j < area whole → IsKeptAt j
    kept-by j h =
        let of = of-slice p c first count run (subband_at p.depth_ho p.depth b) j (subst (λ q. j < area q) is h) in
        let low = walked-below p c (first + of.k) b inside in
        record {
          k = of.k;
          i = coefficients_before p c (first + of.k) b + of.cell;
          k_below = of.k_below;
          i_from = omega arith;
          i_below = (let below = of.cell_below in omega (arith, low, below));
          kept = ap (λ q. cell_number stride (place_in q j)) is ∙ ap (cell_number stride) (sym of.place) ∙ ap (cell_number stride) (sym (walked p c (first + of.k) b inside of.cell of.cell_below));
        }

    module _ (old new : Line) (on : (j : ℕ) → j < area whole → IsSeen (cell_number stride (place_in whole j)) → new (cell_number stride (place_in whole j)) ≡ line_of strip (from + j))
        (off : (m : ℕ) → IsSeen m → ((j : ℕ) → j < area whole → m ≢ cell_number stride (place_in whole j)) → new m ≡ old m) where
      pub run-stands : FirstOfRun strip b old → FirstOfRun strip (b + 1) new
      run-stands before k i hk hi seen = elim (cases_lt i (coefficients_before p c (first + k) b)) [
        | inl low ↦ (
            let below = walked-below p c (first + k) b inside in
            off (kept_at p c (first + k) i) seen (λ j g e. (
            let q = kept-by j g in
            let same = kept_apart p c some_across some_down (first + k) i (first + q.k) q.i (numbered p c first count run k hk) (omega (arith, low, below)) (numbered p c first count run q.k q.k_below) q.i_below (e ∙ q.kept) in
            let slice : q.k ≡ k = omega (arith, same.0) in
            let from_here = subst (λ l. coefficients_before p c (first + l) b ≤ q.i) slice q.i_from in
            omega (arith, same.1, from_here, low))) ∙ before k i hk low seen)
        | inr ge ↦ (
            let r = rectangle p c (first + k) b in
            let part : IsPartOf r whole = subst (IsPartOf r) (sym is) (within-run p c first count run k hk (subband_at p.depth_ho p.depth b)) in
            let more = coefficients_before-more p c (first + k) b inside in
            let j = i - coefficients_before p c (first + k) b in
            let here : j < area r = omega (arith, more, hi, ge) in
            let number : coefficients_before p c (first + k) b + j ≡ i = omega (arith, ge) in
            let cell : kept_at p c (first + k) i ≡ cell_number stride (place_in whole (cell_of whole (place_in r j))) =
            ap (λ n. kept_at p c (first + k) n) (sym number) ∙ ap (cell_number stride) (walked p c (first + k) b inside j here ∙ sym (cell-place r whole part j here)) in
            ap new cell
            ∙ on (cell_of whole (place_in r j)) (cell-below r whole part j here) (subst IsSeen cell seen)
            ∙ ap (λ q. line_of strip (from + cell_of q (place_in r j))) is
            ∙ ap (λ n. line_of strip (n + cell_of (run_rectangle p c first count (subband_at p.depth_ho p.depth b)) (place_in r j))) at
            ∙ ap (line_of strip) ((stands p c first count (first + k) run (record { from = omega arith; to = omega (arith, hk) }) some_across some_down).cell b j inside here)
            ∙ ap (λ n. line_of strip (strip_number p c first count (first + k) n)) number)
      ]

      pub run-stays : (begun : Line) → OthersOfRun begun old → OthersOfRun begun new
      run-stays begun before m seen none = off m seen (λ j g e. (let q = kept-by j g in none q.k q.i q.k_below q.i_below (e ∙ q.kept))) ∙ before m seen none

  pub run-all : (strip : List ℤ) (b : ℕ) (cells : Line) → b ≡ subband_count p.depth_ho p.depth → FirstOfRun strip b cells
      → (k i : ℕ) → k < count → i < slice_coefficient_count p c (first + k) → IsSeen (kept_at p c (first + k) i) → cells (kept_at p c (first + k) i) ≡ line_of strip (strip_number p c first count (first + k) i)
  run-all strip b cells e before k i hk hi = before k i hk (let all = coefficients_before-all p c (first + k) b e in omega (arith, all, hi))
