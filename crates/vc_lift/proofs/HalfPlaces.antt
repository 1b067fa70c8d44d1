-- Where lines in two halves have their samples.
use Rattle.std.proofs.Common.{◌≡◌, ◌≢◌, ℕ, ◌+◌, ◌-◌, ◌*◌, ◌<◌, ◌≤◌, arith, ap, ◌∙◌, min, sym, ◌⊎◌, inl, inr}
use Rattle.std.proofs.lemmas.Bool.{cases_lt}
use Rattle.vc_lift.specs.declared.halves.Halves.{Halves}
use Rattle.vc_lift.specs.CountedSteps.{CountedStep, place_met}
use Rattle.vc_lift.specs.Halves.{half_start, halves_place}

-- sample number n of a parity
pub place_at : (h : Halves) (n parity : ℕ) → parity < 2
    → halves_place h (2 * n + parity) ≡ half_start h parity + n * h.pitch
place_at h n parity lt = grind arith

-- the sample that tap j of a step meets
pub met_at : (s : CountedStep) (h : Halves) (n j met place : ℕ) → s.parity < 2
    → met ≡ min (n + j - s.back) (h.half - 1) → place ≡ half_start h (1 - s.parity) + met * h.pitch
    → place ≡ halves_place h (place_met s h.half n j)
met_at s h n j met place lt is at = at ∙ ap (λ m. half_start h (1 - s.parity) + m * h.pitch) is
    ∙ sym (place_at h (min (n + j - s.back) (h.half - 1)) (1 - s.parity) (omega arith))

-- a cell of another stretch lies before a run, or past what has been reached of it
pub beside_run : (i at width x : ℕ) → x < width → (i + width ≤ at) ⊎ (at + width ≤ i)
    → (i + x < at) ⊎ (at + x ≤ i + x)
beside_run i at width x lt (inl before) = inl (omega arith)
beside_run i at width x lt (inr past) = inr (omega arith)

-- and a cell outside what has been reached of a run
pub past_run : (i at x : ℕ) → (i < at) ⊎ (at + (x + 1) ≤ i) → i ≢ at + x
past_run i at x (inl before) e = omega arith
past_run i at x (inr past) e = omega arith

pub less_reached : (i at x : ℕ) → (i < at) ⊎ (at + (x + 1) ≤ i) → (i < at) ⊎ (at + x ≤ i)
less_reached i at x (inl before) = inl before
less_reached i at x (inr past) = inr (omega arith)

-- a place that is none of a run's lies before or past it
pub outside_run : (i at width : ℕ) → ((x : ℕ) → x < width → i ≢ at + x) → (i < at) ⊎ (at + width ≤ i)
outside_run i at width none = elim (cases_lt i at) [
  | inl before ↦ inl before
  | inr from ↦ elim (cases_lt i (at + width)) [
    | inl within ↦ absurd (none (i - at) (omega arith) (omega arith))
    | inr past ↦ inr past
  ]
]
