-- How often a number stands in a list.
use Rattle.std.proofs.Common.{◌≡◌, ℕ, ◌+◌, cond, List, ◌∷◌, eqb}
use Rattle.std.proofs.lemmas.List.Sums.{sum_by-cons}
use Rattle.claim_board.specs.Counts.{occurrences}

pub occurrences-cons : (n x : ℕ) (xs : List ℕ) → occurrences n (x ∷ xs) ≡ cond (eqb x n) 1 0 + occurrences n xs
occurrences-cons n x xs = sum_by-cons (λ (y : ℕ). cond (eqb y n) 1 0) x xs
