-- A test of a whole table, place by place.
use Rattle.std.proofs.Common.{◌≡◌, ℕ, zero, suc, ◌<◌, Bool, true, arith, subst, inl, inr}
use Rattle.std.specs.Prelude.{◌&&◌}
use Rattle.std.proofs.lemmas.Bool.{and_parts, cases_lt}

abbrev pub holds_below : (ℕ → Bool) → ℕ → Bool
holds_below test zero = true
holds_below test (suc n) = test n && holds_below test n

pub holds_at : (test : ℕ → Bool) (n k : ℕ) → holds_below test n ≡ true → k < n → test k ≡ true
holds_at test zero k all lt = absurd (omega arith)
holds_at test (suc n) k all lt =
    let both = and_parts (test n) (holds_below test n) all in
    elim (cases_lt k n) [
      | inl less ↦ holds_at test n k both.1 less
      | inr le ↦ let same : n ≡ k = omega arith in subst (λ (m : ℕ). test m ≡ true) same both.0
    ]
