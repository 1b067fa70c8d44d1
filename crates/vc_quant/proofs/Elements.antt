-- Numbers that are put in the place of others, one after another.
use Rattle.std.proofs.Common.{◌≡◌, ℕ, ◌+◌, ◌<◌, ◌≤◌, List, length, set, ℤ, pos, arith, inl, inr}
use Rattle.std.proofs.lemmas.Bool.{cases_eq}
use Rattle.std.proofs.lemmas.List.{get_or-set_same, get_or-set_other}
use Rattle.vc_types.specs.Lifting.{line_of}

module _ (numbers : List ℤ) (i : ℕ) (v : ℤ) where
  -- what holds of those before one, and of it, holds of one more
  pub one_more_made : (P : ℕ → ℤ → Type 0) → i < length numbers → P i v
      → ((k : ℕ) → k < i → P k (line_of numbers k)) → (k : ℕ) → k < i + 1 → P k (line_of (set numbers i v) k)
  one_more_made P within here before k h = elim (cases_eq k i) [
    | inl e ↦ rw (e, get_or-set_same numbers i v (pos 0) within) here
    | inr ne ↦ rw (get_or-set_other numbers i k v (pos 0) ne) (before k (omega arith))
  ]

  -- those past it stay
  pub past_made : (k : ℕ) → i + 1 ≤ k → line_of (set numbers i v) k ≡ line_of numbers k
  past_made k h = get_or-set_other numbers i k v (pos 0) (omega arith)
