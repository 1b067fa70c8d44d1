-- The codes of numbers: interleaved exp-Golomb codes (ST 2042-1, data coding).
use Rattle.std.specs.Prelude.{◌≡◌, ℕ, zero, suc, ◌+◌, ◌-◌, ◌*◌, ◌<◌, ℤ, pos, negsuc, unsigned_abs, Bool}
use Rattle.std.specs.Prelude.{true, false, List, [], ◌∷◌, ◌++◌, drop, ◌==◌, Option, Some, None}
use Rattle.std.specs.List.{flat_map}
use Rattle.std.specs.Int.Digits.{digits_of}
use Rattle.vc_types.specs.Bits.{digit_of}

-- the binary digits after the first, each preceded by 0
unfoldable pub spread_digits : ℕ → List Bool
spread_digits number = flat_map (λ digit. false ∷ (digit == 1) ∷ []) (drop 1 (digits_of 2 number))

-- the code of v: the binary digits of v + 1 after the first, each preceded by 0, and then 1
unfoldable pub uint_bits : ℕ → List Bool
uint_bits v = spread_digits (v + 1) ++ true ∷ []

-- the sign of v: none where it is 0, else a bit, which is 1 for a negative number
abbrev pub sign_bits : ℤ → List Bool
sign_bits (pos zero) = []
sign_bits (pos (suc n)) = false ∷ []
sign_bits (negsuc n) = true ∷ []

-- the code of a signed number: the code of its magnitude, and its sign
unfoldable pub sint_bits : ℤ → List Bool
sint_bits v = uint_bits (unsigned_abs v) ++ sign_bits v

-- ---- reading

-- the number whose code begins the bits, and the bits after it, where the digits of a number were
-- read
unfoldable pub uint_after : ℕ → List Bool → Option (ℕ × List Bool)
uint_after number [] = None
uint_after number (true ∷ rest) = Some (number - 1, rest)
uint_after number (false ∷ []) = None
uint_after number (false ∷ bit ∷ rest) = uint_after (2 * number + digit_of bit) rest

-- the number whose code begins the bits, and the bits after it
unfoldable pub uint_at : List Bool → Option (ℕ × List Bool)
uint_at bits = uint_after 1 bits

-- no whole code begins the bits
abbrev pub NoUint : List Bool → Type 0
NoUint bits = (v : ℕ) (rest : List Bool) → bits ≡ uint_bits v ++ rest → ⊥

-- the code of a number above max begins the bits
abbrev pub LargeUint : ℕ → List Bool → Type 0
LargeUint max bits = (v : ℕ) × (rest : List Bool) × (max < v) × (bits ≡ uint_bits v ++ rest)
