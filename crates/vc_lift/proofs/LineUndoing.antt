-- Steps undo the opposite steps in the opposite order.
use Rattle.std.proofs.Common.{◌≡◌, ℕ, get_or, ◌-◌, ◌/◌, ◌%◌, ◌<◌, List, [], ◌∷◌, ◌++◌, length, ℤ, arith, sym}
use Rattle.std.proofs.Common.{ap, refl, ◌∙◌, Bool, true, false, not, map, reverse, fold}
use Rattle.std.specs.Prelude.{if◌then◌else◌, nat_lt, ◌==◌, ◌&&◌}
use Rattle.std.specs.List.{list_all}
use mathlib.Core.Path.{fun_ext}
use Rattle.std.proofs.lemmas.Int.{ints}
use Rattle.std.proofs.lemmas.Bool.Decides.{nat_tests}
use Rattle.std.proofs.lemmas.List.Sums.{fold-append}
use Rattle.std.proofs.lemmas.List.{map-append, reverse-append, get_or-map, get_or-reverse, length-reverse}
use Rattle.std.proofs.lemmas.List.{length-map}
use Rattle.vc_types.specs.Lifting.{changed_by}
use Rattle.vc_types.specs.Wavelets.{synthesis_steps}
use Rattle.vc_lift.specs.CountedSteps.{CountedStep, sum_met, change_at, lift, lift_all, opposite_counted}
use Rattle.vc_lift.specs.CountedSteps.{undone}
use Rattle.vc_lift.proofs.CountedSteps.{counted_steps}
use Rattle.vc_lift.proofs.LineGrowth.{kept_at}

back_again : (adds : Bool) (a c : ℤ) → changed_by adds (changed_by (not adds) a c) c ≡ a
back_again true a c = omega (arith, ints)
back_again false a c = omega (arith, ints)

-- the change does not see the samples that the step changes
same_change : (s t : CountedStep) (half : ℕ) (x : ℕ → ℤ) (n : ℕ) → s.parity < 2 → t.parity ≡ s.parity
    → change_at s half (lift t half x) n ≡ change_at s half x n
unfolding change_at sum_met
same_change s t half x n h e = grind (arith, kept_at)

same_change_opposite : (s : CountedStep) (half : ℕ) (x : ℕ → ℤ) (n : ℕ)
    → change_at (opposite_counted s) half x n ≡ change_at s half x n
unfolding change_at sum_met
same_change_opposite s half x n = refl

lift_when : (s : CountedStep) (half : ℕ) (x : ℕ → ℤ) (k : ℕ) (test : Bool)
    → test ≡ (nat_lt (k / 2) half && (k % 2 == s.parity))
    → lift s half x k ≡ (if test then changed_by s.adds (x k) (change_at s half x (k / 2)) else x k)
unfolding lift
lift_when s half x k test e =
    ap (λ t. if t then changed_by s.adds (x k) (change_at s half x (k / 2)) else x k) (sym e)

-- a sample after the opposite_counted step and the step
undone_at : (s : CountedStep) (half : ℕ) (x : ℕ → ℤ) → s.parity < 2 → (k : ℕ) (test : Bool)
    → test ≡ (nat_lt (k / 2) half && (k % 2 == s.parity))
    → (if test then changed_by s.adds (lift (opposite_counted s) half x k)
    (change_at s half (lift (opposite_counted s) half x) (k / 2)) else lift (opposite_counted s) half x k)
    ≡ x k
undone_at s half x h k true e =
    rw (
      same_change s (opposite_counted s) half x (k / 2) h refl,
      lift_when (opposite_counted s) half x k true e,
      same_change_opposite s half x (k / 2),
    )
    (back_again s.adds (x k) (change_at s half x (k / 2)))
undone_at s half x h k false e = lift_when (opposite_counted s) half x k false e

pub lift-opposite : (s : CountedStep) (half : ℕ) (x : ℕ → ℤ) → s.parity < 2
    → lift s half (lift (opposite_counted s) half x) ≡ x
unfolding lift
lift-opposite s half x h = fun_ext (λ k. undone_at s half x h k _ refl)

pub lift_all-undone : (steps : List CountedStep) (half : ℕ) (x : ℕ → ℤ)
    → list_all (λ s. nat_lt s.parity 2) steps ≡ true
    → lift_all steps half (lift_all (undone steps) half x) ≡ x
unfolding lift_all
lift_all-undone [] half x h = refl
lift_all-undone (s ∷ steps) half x h =
    let one : undone (s ∷ steps) ≡ undone steps ++ opposite_counted s ∷ [] =
    ap (map opposite_counted) (reverse-append (s ∷ []) steps)
    ∙ map-append opposite_counted (reverse steps) (s ∷ []) in
    let last : lift_all (undone (s ∷ steps)) half x
    ≡ lift (opposite_counted s) half (lift_all (undone steps) half x) =
    ap (λ ss. fold (λ y t. lift t half y) x ss) one
    ∙ fold-append (λ y t. lift t half y) x (undone steps) (opposite_counted s ∷ []) in
    let mended : lift s half (lift_all (undone (s ∷ steps)) half x) ≡ lift_all (undone steps) half x =
    ap (lift s half) last
    ∙ lift-opposite s half (lift_all (undone steps) half x) (grind (arith, nat_tests)) in
    ap (λ y. fold (λ z t. lift t half z) y steps) mended
    ∙ lift_all-undone steps half x (grind (arith, nat_tests))

pub get_or-undone : (steps : List CountedStep) (i : ℕ) (d e : CountedStep) → i < length steps
    → get_or (undone steps) i e ≡ opposite_counted (get_or steps (length steps - 1 - i) d)
get_or-undone steps i d e h = grind (arith, length-reverse, get_or-map, get_or-reverse)

pub order_at : {X : Type 0} (f : X → CountedStep) (xs : List X) (i : ℕ) (d : X) (e : CountedStep)
    → i < length xs → get_or (undone (map f xs)) i e ≡ opposite_counted (f (get_or xs (length xs - 1 - i) d))
order_at f xs i d e h =
    let within : i < length (map f xs) = rw length-map h in
    let there : length xs - 1 - i < length xs = omega arith in
    let same : get_or (map f xs) (length (map f xs) - 1 - i) (f d) ≡ f (get_or xs (length xs - 1 - i) d) =
    rw length-map (get_or-map f xs (length xs - 1 - i) d (f d) there) in
    get_or-undone (map f xs) i (f d) e within ∙ ap opposite_counted same

pub parities : (w : ℕ) → list_all (λ s. nat_lt s.parity 2) (counted_steps w) ≡ true
unfolding synthesis_steps counted_steps
parities w = grind arith
