-- Bytes as bits, the most significant first.
use Rattle.std.specs.Prelude.{ℕ, ◌+◌, ◌*◌, Bool, List, [], ◌∷◌, map, fold, ◌==◌, if◌then◌else◌}
use Rattle.std.specs.List.{flat_map}
use Rattle.std.specs.Int.{bit_at}

-- the eight bits of a byte
unfoldable pub byte_bits : ℕ → List Bool
byte_bits byte = map (λ i. bit_at byte i == 1) (7 ∷ 6 ∷ 5 ∷ 4 ∷ 3 ∷ 2 ∷ 1 ∷ 0 ∷ [])

-- the bits of bytes
unfoldable pub bits_of : List ℕ → List Bool
bits_of bytes = flat_map byte_bits bytes

-- a bit as a digit
abbrev pub digit_of : Bool → ℕ
digit_of bit = if bit then 1 else 0

-- the number whose binary digits are these bits
abbrev pub number_of : List Bool → ℕ
number_of bits = fold (λ number bit. 2 * number + digit_of bit) 0 bits
