-- The first place that passes a test, looked for one place at a time.
use Rattle.std.proofs.Common.{◌≡◌, ℕ, ◌+◌, ◌-◌, ◌<◌, ◌≤◌, suc, zero, Bool, refl, if◌then◌else◌, arith}
use Rattle.link_words.specs.Grammar.{first_place}

pub first_place_next : (passes : ℕ → Bool) (place bound : ℕ) → place < bound →
    first_place passes place (bound - place) ≡ (if passes place then place else first_place passes (place + 1) (bound - (place + 1)))
first_place_next passes place bound h =
    let e : bound - place ≡ suc (bound - (place + 1)) = omega arith in
    rw e refl

pub first_place_none : (passes : ℕ → Bool) (place bound : ℕ) → bound ≤ place → first_place passes place (bound - place) ≡ place
first_place_none passes place bound h =
    let e : bound - place ≡ zero = omega arith in
    rw e refl
