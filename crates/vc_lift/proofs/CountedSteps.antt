-- Steps over samples that are counted in each parity are the standard's steps.
use Rattle.std.proofs.Common.{◌≡◌, ℕ, suc, ◌+◌, ◌-◌, ◌*◌, ◌/◌, ◌<◌, ◌≤◌, List, [], ◌∷◌, length, ℤ, pos}
use Rattle.std.proofs.Common.{negsuc, ◌+ℤ◌, ◌-ℤ◌, ◌*ℤ◌, arith, sym, ap, refl, ◌∙◌, ◌⊎◌, inl, inr, true, min}
use Rattle.std.proofs.Common.{max, map, fold, slice_index_or}
use Rattle.std.specs.Prelude.{nat_lt}
use Rattle.std.specs.List.{list_all}
use mathlib.Core.Path.{fun_ext}
use Rattle.std.proofs.lemmas.Int.{ints}
use Rattle.std.proofs.lemmas.Bool.{cases_lt, false≢true}
use Rattle.std.proofs.lemmas.Bool.Decides.{nat_tests}
use Rattle.vc_types.specs.Lifting.{Parity, even, odd, offset_of, LiftingStep, clamped, met, weighted, change}
use Rattle.vc_types.specs.Lifting.{lifted}
use Rattle.vc_types.specs.Wavelets.{synthesis_steps, analysis_steps, lifted_by, synthesised, analysed}
use Rattle.vc_lift.specs.CountedSteps.{sum_below}
use Rattle.vc_lift.proofs.WeightedSums.{sum_below_none, sum_below_first}
use Rattle.vc_lift.specs.CountedSteps.{CountedStep, back_of, is_behind, can_be_counted, counted_step}
use Rattle.vc_lift.specs.CountedSteps.{sum_below, sum_met, change_at, lift, lift_all, undone}
use Rattle.vc_lift.specs.Ranges.{counted_synthesis, counted_analysis}
use Rattle.vc_lift.specs.declared.table.Row.{Row}
use Rattle.vc_lift.specs.Steps.{lifting_step, counted_row}

unfoldable pub counted_steps : ℕ → List CountedStep
counted_steps wavelet = map counted_step (synthesis_steps wavelet)

-- ---- one step

clamped_at : (low high place : ℕ) (z : ℤ) → z ≡ pos place → clamped low high z ≡ max low (min place high)
clamped_at low high place z e = ap (clamped low high) e

clamped_below : (low high n : ℕ) (z : ℤ) → z ≡ negsuc n → clamped low high z ≡ low
clamped_below low high n z e = ap (clamped low high) e

back_even : (first : ℤ) → is_behind even first ≡ true → first ≡ pos 1 -ℤ pos (back_of even first)
back_even first h = grind (arith, false≢true)

back_odd : (first : ℤ) → is_behind odd first ≡ true → first ≡ pos 0 -ℤ pos (back_of odd first)
back_odd first h = grind (arith, false≢true)

module _ (half n j back : ℕ) (some : 0 < half) where
  even_place : (z : ℤ) → z ≡ pos 2 *ℤ (pos n +ℤ ((pos 1 -ℤ pos back) +ℤ pos j)) -ℤ pos 1
      → (n + j < back) ⊎ (back ≤ n + j) → clamped 1 (2 * half - 1) z ≡ 2 * min (n + j - back) (half - 1) + 1
  even_place z e (inl before) = clamped_below 1 (2 * half - 1) (2 * (back - (n + j)) - 2) z (omega (arith, ints))
      ∙ omega arith
  even_place z e (inr from) = clamped_at 1 (2 * half - 1) (2 * (n + j - back) + 1) z (omega (arith, ints))
      ∙ omega arith

  odd_place : (z : ℤ) → z ≡ pos 2 *ℤ (pos n +ℤ ((pos 0 -ℤ pos back) +ℤ pos j))
      → (n + j < back) ⊎ (back ≤ n + j) → clamped 0 (2 * half - 2) z ≡ 2 * min (n + j - back) (half - 1) + 0
  odd_place z e (inl before) = clamped_below 0 (2 * half - 2) (2 * (back - (n + j)) - 1) z (omega (arith, ints))
      ∙ omega arith
  odd_place z e (inr from) = clamped_at 0 (2 * half - 2) (2 * (n + j - back)) z (omega (arith, ints))
      ∙ omega arith

met_even : (first : ℤ) (half n j : ℕ) → is_behind even first ≡ true → 0 < half
    → met even (2 * half) n (first +ℤ pos j) ≡ 2 * min (n + j - back_of even first) (half - 1) + 1
met_even first half n j h some =
    even_place half n j (back_of even first) some _
    (ap (λ f. pos 2 *ℤ (pos n +ℤ (f +ℤ pos j)) -ℤ pos 1) (back_even first h))
    (cases_lt (n + j) (back_of even first))

met_odd : (first : ℤ) (half n j : ℕ) → is_behind odd first ≡ true → 0 < half
    → met odd (2 * half) n (first +ℤ pos j) ≡ 2 * min (n + j - back_of odd first) (half - 1) + 0
met_odd first half n j h some =
    odd_place half n j (back_of odd first) some _
    (ap (λ f. pos 2 *ℤ (pos n +ℤ (f +ℤ pos j))) (back_odd first h)) (cases_lt (n + j) (back_of odd first))

-- a tap meets the same sample
pub met_counted : (parity : Parity) (first : ℤ) (half n j : ℕ) → is_behind parity first ≡ true → 0 < half
    → met parity (2 * half) n (first +ℤ pos j)
    ≡ 2 * min (n + j - back_of parity first) (half - 1) + (1 - offset_of parity)
met_counted even first half n j h some = met_even first half n j h some
met_counted odd first half n j h some = met_odd first half n j h some

one_on : (i : ℤ) (j : ℕ) → (i +ℤ pos 1) +ℤ pos j ≡ i +ℤ pos (suc j)
one_on i j = omega (arith, ints)

from_itself : (i : ℤ) → i ≡ i +ℤ pos 0
from_itself i = omega (arith, ints)

-- the sum by recursion is the sum by index
pub weighted_sum : (parity : Parity) (size : ℕ) (x : ℕ → ℤ) (n : ℕ) (taps : List ℤ) (i : ℤ)
    → weighted parity size x n taps i
    ≡ sum_below (length taps) (λ j. slice_index_or taps j (pos 0) *ℤ x (met parity size n (i +ℤ pos j)))
unfolding weighted
weighted_sum parity size x n [] i =
    sym (sum_below_none (λ j. slice_index_or [] j (pos 0) *ℤ x (met parity size n (i +ℤ pos j))))
weighted_sum parity size x n (tap ∷ taps) i =
    ap (λ z. tap *ℤ x (met parity size n i) +ℤ z) (weighted_sum parity size x n taps (i +ℤ pos 1))
    ∙ ap (λ z. tap *ℤ x (met parity size n i) +ℤ z)
    (ap (sum_below (length taps))
    (fun_ext (λ j. ap (λ z. slice_index_or taps j (pos 0) *ℤ x (met parity size n z)) (one_on i j))))
    ∙ ap (λ z. tap *ℤ x (met parity size n z) +ℤ sum_below (length taps)
    (λ j. slice_index_or taps j (pos 0) *ℤ x (met parity size n (i +ℤ pos (suc j))))) (from_itself i)
    ∙ sym (sum_below_first (length taps)
    (λ j. slice_index_or (tap ∷ taps) j (pos 0) *ℤ x (met parity size n (i +ℤ pos j))))

pub change_counted : (s : LiftingStep) (half : ℕ) (x : ℕ → ℤ) (n : ℕ) → can_be_counted s ≡ true → 0 < half
    → change s (2 * half) x n ≡ change_at (counted_step s) half x n
unfolding change change_at sum_met
change_counted s half x n h some = grind (arith, weighted_sum, met_counted)

same_test : (half k : ℕ) → nat_lt k (2 * half) ≡ nat_lt (k / 2) half
same_test half k = grind (arith, nat_tests)

lifted_at : (s : LiftingStep) (half : ℕ) (x : ℕ → ℤ) (k : ℕ) → can_be_counted s ≡ true
    → (half < 1) ⊎ (1 ≤ half) → lifted s (2 * half) x k ≡ lift (counted_step s) half x k
unfolding lifted lift
lifted_at s half x k h g = grind (arith, same_test, change_counted)

-- a step of the standard is the counted_step step
pub lifted_counted : (s : LiftingStep) (half : ℕ) (x : ℕ → ℤ) → can_be_counted s ≡ true
    → lifted s (2 * half) x ≡ lift (counted_step s) half x
lifted_counted s half x h = fun_ext (λ k. lifted_at s half x k h (cases_lt half 1))

-- ---- all steps

pub lifted_by_counted : (steps : List LiftingStep) (half : ℕ) (x : ℕ → ℤ)
    → list_all can_be_counted steps ≡ true
    → lifted_by steps (2 * half) x ≡ lift_all (map counted_step steps) half x
unfolding lifted_by lift_all
lifted_by_counted [] half x h = refl
lifted_by_counted (s ∷ steps) half x h =
    ap (λ y. fold (λ z t. lifted t (2 * half) z) y steps) (lifted_counted s half x (grind (arith, nat_tests)))
    ∙ lifted_by_counted steps half (lift (counted_step s) half x) (grind (arith, nat_tests))

synthesis_can : (w : ℕ) → list_all can_be_counted (synthesis_steps w) ≡ true
unfolding synthesis_steps
synthesis_can w = grind arith

analysis_can : (w : ℕ) → list_all can_be_counted (analysis_steps w) ≡ true
unfolding synthesis_steps
analysis_can w = grind arith

analysis_undone : (w : ℕ) → map counted_step (analysis_steps w) ≡ undone (counted_steps w)
unfolding synthesis_steps counted_steps
analysis_undone w = grind arith

pub synthesised_counted : (w half : ℕ) (x : ℕ → ℤ)
    → synthesised w (2 * half) x ≡ lift_all (counted_steps w) half x
unfolding synthesised counted_steps
synthesised_counted w half x = lifted_by_counted (synthesis_steps w) half x (synthesis_can w)

pub analysed_counted : (w half : ℕ) (x : ℕ → ℤ)
    → analysed w (2 * half) x ≡ lift_all (undone (counted_steps w)) half x
unfolding analysed
analysed_counted w half x = lifted_by_counted (analysis_steps w) half x (analysis_can w)
    ∙ ap (λ ss. lift_all ss half x) (analysis_undone w)

-- the same of steps that are those of a wavelet
pub synthesised_by : (w half : ℕ) (x : ℕ → ℤ) (steps : List CountedStep) → steps ≡ counted_synthesis w
    → lift_all steps half x ≡ synthesised w (2 * half) x
unfolding counted_steps
synthesised_by w half x steps e = ap (λ ss. lift_all ss half x) e ∙ sym (synthesised_counted w half x)

pub analysed_by : (w half : ℕ) (x : ℕ → ℤ) (steps : List CountedStep) → steps ≡ counted_analysis w
    → lift_all steps half x ≡ analysed w (2 * half) x
unfolding counted_steps
analysed_by w half x steps e = ap (λ ss. lift_all ss half x) e ∙ sym (analysed_counted w half x)

-- rows of the code's table that mean the steps of a wavelet
rows_counted : (rows : List Row) → map counted_row rows ≡ map counted_step (map lifting_step rows)
rows_counted [] = refl
rows_counted (row ∷ rows) = ap (λ ss. counted_row row ∷ ss) (rows_counted rows)

pub same_rows : (w : ℕ) (rows : List Row) → map lifting_step rows ≡ synthesis_steps w
    → map counted_row rows ≡ counted_steps w
unfolding counted_steps
same_rows w rows e = rows_counted rows ∙ ap (map counted_step) e
