-- What analysis makes of a part of a line: away from an end at which it was cut, what it makes of the whole
-- line. Its steps are those of synthesis in the other order, and reach as far.
use Rattle.std.proofs.Common.{◌≡◌, ℕ, ◌+◌, ◌*◌, ◌/◌, ◌<◌, ◌≤◌, ◌⊎◌, inl, inr, List, [], ◌∷◌, ◌++◌, ℤ, map, reverse}
use Rattle.std.proofs.Common.{arith, ap, refl, sym, ◌∙◌}
use Rattle.std.proofs.lemmas.List.{map-append, reverse-append}
use Rattle.vc_types.specs.Wavelets.{analysed}
use Rattle.vc_lift.specs.CountedSteps.{CountedStep, opposite_counted, undone}
use Rattle.vc_lift.specs.Ranges.{counted_synthesis, counted_analysis}
use Rattle.vc_lift.specs.Reach.{steps_back, steps_ahead, HoldsPairs}
use Rattle.vc_lift.proofs.CountedSteps.{counted_steps, analysed_counted}
use Rattle.vc_lift.proofs.LineWindows.{part_lift_all, shrink_of}

joined_back : (a b : List CountedStep) → steps_back (a ++ b) ≡ steps_back a + steps_back b
unfolding steps_back
joined_back [] b = omega arith
joined_back (s ∷ a) b = omega (arith, joined_back a b)

joined_ahead : (a b : List CountedStep) → steps_ahead (a ++ b) ≡ steps_ahead a + steps_ahead b
unfolding steps_ahead
joined_ahead [] b = omega arith
joined_ahead (s ∷ a) b = omega (arith, joined_ahead a b)

-- of one step more, which is undone first
undone_more : (s : CountedStep) (steps : List CountedStep)
    → undone (s ∷ steps) ≡ undone steps ++ opposite_counted s ∷ []
undone_more s steps =
    ap (map opposite_counted) (reverse-append (s ∷ []) steps)
    ∙ map-append opposite_counted (reverse steps) (s ∷ [])

undone_back : (steps : List CountedStep) → steps_back (undone steps) ≡ steps_back steps
unfolding steps_back
undone_back [] = refl
undone_back (s ∷ steps) =
    ap steps_back (undone_more s steps) ∙ joined_back (undone steps) (opposite_counted s ∷ [])
    ∙ omega (arith, undone_back steps)

undone_ahead : (steps : List CountedStep) → steps_ahead (undone steps) ≡ steps_ahead steps
unfolding steps_ahead
undone_ahead [] = refl
undone_ahead (s ∷ steps) =
    ap steps_ahead (undone_more s steps) ∙ joined_ahead (undone steps) (opposite_counted s ∷ [])
    ∙ omega (arith, undone_ahead steps)

-- a part of a line that holds enough pairs for some of them gives of these what the whole line gives
pub analysis_in_part : (wavelet h from to first pairs : ℕ) → HoldsPairs wavelet h from to first pairs
    → (y x : ℕ → ℤ) → ((k : ℕ) → k < 2 * pairs → y k ≡ x (2 * first + k)) → (k : ℕ) → from ≤ first + k / 2
    → first + k / 2 < to → analysed wavelet (2 * pairs) y k ≡ analysed wavelet (2 * h) x (2 * first + k)
unfolding counted_steps
analysis_in_part wavelet h from to first pairs holds y x same k low high =
    let steps = counted_analysis wavelet in
    let back = undone_back (counted_synthesis wavelet) in
    let ahead = undone_ahead (counted_synthesis wavelet) in
    let left : (first ≡ 0) × (first ≡ 0) ⊎ (first + steps_back steps ≤ from) =
    elim holds.left [ inl e ↦ inl (e, e) | inr l ↦ inr (omega (arith, back, l)) ] in
    let right : (first + pairs ≡ h) × (first + pairs ≡ h) ⊎ (to + steps_ahead steps ≤ first + pairs) =
    elim holds.right [ inl e ↦ inl (e, e) | inr l ↦ inr (omega (arith, ahead, l)) ] in
    ap (λ f. f k) (analysed_counted wavelet pairs y)
    ∙ part_lift_all first pairs h holds.some holds.inside steps first (first + pairs) from to
    (shrink_of first pairs h holds.some holds.inside steps first (first + pairs) from to (omega arith)
    (omega arith) holds.begins holds.ends left right)
    y x (λ j l u. same j (omega (arith, u))) k low high
    ∙ sym (ap (λ f. f (2 * first + k)) (analysed_counted wavelet h x))
