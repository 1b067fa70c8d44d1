-- Words of ASCII.
use Rattle.std.proofs.Common.{◌≡◌, ◌<◌, ℕ, zero, suc, true, List, [], ◌∷◌, arith}
use Rattle.std.specs.Prelude.{nat_lt, slice_index}
use Rattle.std.specs.List.{list_all}

pub all_ascii : (word : List ℕ) → list_all (λ byte. nat_lt byte 128) word ≡ true
    → (i : ℕ) → slice_index word i < 128
all_ascii [] all i = omega arith
all_ascii (byte ∷ rest) all zero = grind (arith, all)
all_ascii (byte ∷ rest) all (suc i) = all_ascii rest (grind (arith, all)) i
