-- How the codes of numbers get shorter as the quantisation index rises.
use Rattle.std.specs.Prelude.{ℕ, zero, suc, ◌+◌, ◌^◌, nat_le, if◌then◌else◌}
use Rattle.std.specs.Prelude.{max, ◌-◌, ℤ, length, List, [], ◌∷◌}
use Rattle.vc_slice.specs.Inside.{codes_behind}

-- the sum of the entries from a place on
unfoldable pub sum_from : ℕ → List ℕ → ℕ
sum_from q [] = 0
sum_from zero (x ∷ xs) = x + sum_from zero xs
sum_from (suc q) (x ∷ xs) = sum_from q xs

-- the greatest of them
unfoldable pub most_from : ℕ → List ℕ → ℕ
most_from q [] = 0
most_from zero (x ∷ xs) = max x (most_from zero xs)
most_from (suc q) (x ∷ xs) = most_from q xs

-- the bits beyond one in the code of n - 1, where only the first digits of n are counted
unfoldable pub code_steps : ℕ → ℕ → ℕ
code_steps zero n = 0
code_steps (suc zero) n = if nat_le 2 n then 3 else 0
code_steps (suc (suc k)) n = code_steps (suc k) n + (if nat_le (2 ^ suc (suc k)) n then 2 else 0)

-- how many bits the codes of a block have at an index, which goes on with these numbers behind so
-- many
abbrev pub block_from : ℕ → ℕ → List ℕ → List ℕ → List ℤ → ℕ
block_from q count bits kept more =
    sum_from q bits + most_from q kept + length (codes_behind (count - most_from q kept) more)
