-- What steps make of a line depends on the line's own samples alone, and past its end they leave it as it is.
use Rattle.std.proofs.Common.{◌≡◌, ℕ, ◌*◌, ◌/◌, ◌<◌, ◌≤◌, List, [], ◌∷◌, length, ℤ, pos, ◌+ℤ◌, ◌*ℤ◌, arith}
use Rattle.std.proofs.Common.{ap, refl, ◌∙◌, slice_index_or}
use Rattle.std.specs.Int.{int_shr}
use mathlib.Core.Path.{fun_ext}
use Rattle.std.proofs.lemmas.Bool.Decides.{nat_tests}
use Rattle.vc_types.specs.Lifting.{half_of}
use Rattle.vc_lift.specs.CountedSteps.{CountedStep, place_met, sum_met, change_at, lift, lift_all, sum_below}

module _ (half : ℕ) (some : 0 < half) where
  same_change : (s : CountedStep) (x y : ℕ → ℤ) → ((k : ℕ) → k < 2 * half → x k ≡ y k) → (n : ℕ)
      → change_at s half x n ≡ change_at s half y n
  unfolding change_at sum_met
  same_change s x y e n =
      ap (λ z. int_shr (z +ℤ pos (half_of s.shift)) s.shift)
      (ap (sum_below (length s.taps))
      (fun_ext (λ j. ap (λ z. slice_index_or s.taps j (pos 0) *ℤ z)
      (e (place_met s half n j) (omega arith)))))

  pub same_lift : (s : CountedStep) (x y : ℕ → ℤ) → ((k : ℕ) → k < 2 * half → x k ≡ y k) → (k : ℕ)
      → k < 2 * half → lift s half x k ≡ lift s half y k
  unfolding lift
  same_lift s x y e k h = grind (arith, same_change)

  pub same_lift_all : (steps : List CountedStep) (x y : ℕ → ℤ) → ((k : ℕ) → k < 2 * half → x k ≡ y k)
      → (k : ℕ) → k < 2 * half → lift_all steps half x k ≡ lift_all steps half y k
  unfolding lift_all
  same_lift_all [] x y e k h = e k h
  same_lift_all (s ∷ steps) x y e k h =
      same_lift_all steps (lift s half x) (lift s half y) (same_lift s x y e) k h

lift_past : (s : CountedStep) (half : ℕ) (x : ℕ → ℤ) (k : ℕ) → 2 * half ≤ k → lift s half x k ≡ x k
unfolding lift
lift_past s half x k h = let past : half ≤ k / 2 = omega arith in grind (arith, nat_tests)

pub lift_all_past : (steps : List CountedStep) (half : ℕ) (x : ℕ → ℤ) (k : ℕ) → 2 * half ≤ k
    → lift_all steps half x k ≡ x k
unfolding lift_all
lift_all_past [] half x k h = refl
lift_all_past (s ∷ steps) half x k h = lift_all_past steps half (lift s half x) k h ∙ lift_past s half x k h
