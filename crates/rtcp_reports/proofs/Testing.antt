-- Tests one after another, of which the first that applies gives its refusal.
use Rattle.std.proofs.Common.{◌≡◌, ◌⊎◌, inl, inr, Bool, true, false, Result, Ok, Err, refl, if◌then◌else◌}

-- which test a refusal is of
pub refusing : {A E : Type 0} (test : Bool) (later : Result A E) (refusal other : E) → (if test then Err refusal else later) ≡ Err other
    → ((test ≡ true) × (other ≡ refusal)) ⊎ ((test ≡ false) × (later ≡ Err other))
refusing true later refusal other is = inl (refl, cc)
refusing false later refusal other is = inr (refl, is)

-- what passes has passed each
pub passing : {A E : Type 0} (test : Bool) (later : Result A E) (refusal : E) (value : A) → (if test then Err refusal else later) ≡ Ok value
    → (test ≡ false) × (later ≡ Ok value)
passing true later refusal value is = absurd (cc)
passing false later refusal value is = (refl, is)
