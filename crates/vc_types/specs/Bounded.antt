-- Codes in a bounded block, whose bits ones without end follow (ST 2042-1, bounded blocks).
use Rattle.std.specs.Prelude.{◌≡◌, ℕ, zero, suc, ◌-◌, ◌+◌, ◌*◌, ◌<◌, ℤ, pos, neg_ℤ, unsigned_abs, Bool, true}
use Rattle.std.specs.Prelude.{false, List, [], ◌∷◌, length, drop, slice_index_or, ◌==◌, if◌then◌else◌}
use Rattle.vc_types.specs.Bits.{digit_of}
use Rattle.vc_types.specs.Codes.{sint_bits}

-- the bits of a block, at each place: ones without end follow them
abbrev pub bounded : List Bool → ℕ → Bool
bounded bits place = slice_index_or bits place true

-- the bits of the block begin with this code
abbrev pub BeginsWith : List Bool → List Bool → Type 0
BeginsWith bits code = (place : ℕ) → place < length code → bounded bits place ≡ bounded code place

-- the code of a number whose magnitude is above max begins the bits of the block
abbrev pub LargeSint : ℕ → List Bool → Type 0
LargeSint max bits = (v : ℤ) × (max < unsigned_abs v) × BeginsWith bits (sint_bits v)

-- ---- reading: the number whose code begins the bits of the block, and the bits behind it

-- the same, where the binary digits of a number were read
unfoldable pub bounded_uint_after : ℕ → List Bool → ℕ × List Bool
bounded_uint_after number [] = (number - 1, [])
bounded_uint_after number (true ∷ rest) = (number - 1, rest)
bounded_uint_after number (false ∷ []) = (2 * number, [])
bounded_uint_after number (false ∷ bit ∷ rest) = bounded_uint_after (2 * number + digit_of bit) rest

unfoldable pub bounded_uint : List Bool → ℕ × List Bool
bounded_uint bits = bounded_uint_after 1 bits

-- a magnitude with its sign
abbrev pub signed : Bool → ℕ → ℤ
signed true magnitude = neg_ℤ (pos magnitude)
signed false magnitude = pos magnitude

abbrev pub with_sign : ℕ × List Bool → ℤ × List Bool
with_sign read =
    if read.0 == 0 then (pos 0, read.1) else (signed (bounded read.1 0) read.0, drop 1 read.1)

unfoldable pub bounded_sint : List Bool → ℤ × List Bool
bounded_sint bits = with_sign (bounded_uint bits)

-- n signed numbers, one after another
unfoldable pub bounded_sints : ℕ → List Bool → List ℤ
bounded_sints zero bits = []
bounded_sints (suc n) bits = (bounded_sint bits).0 ∷ bounded_sints n (bounded_sint bits).1
