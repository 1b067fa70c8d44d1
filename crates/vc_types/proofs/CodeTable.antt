-- Worked values of the codes (ST 2042-1, data coding), by computation: each row's number is so spelled, and its bits are
-- read as that number.
use Rattle.std.proofs.Common.{◌≡◌, ℕ, ℤ, Bool, true, false, List, [], ◌∷◌, ◌++◌, map, Some, refl}
use Rattle.std.specs.Prelude.{pos, negsuc}
use Rattle.vc_types.specs.Bits.{byte_bits, bits_of}
use Rattle.vc_types.specs.Codes.{spread_digits, uint_bits, sint_bits, uint_after, uint_at}
use Rattle.vc_types.specs.Bounded.{bounded_uint_after, bounded_uint, bounded_sint, bounded_sints}

-- a bit as it is written
abbrev o : Bool
o = false

abbrev i : Bool
i = true

-- unsigned numbers and their codes
abbrev rows : List (ℕ × List Bool)
rows =
    (0, i ∷ []) ∷
    (1, o ∷ o ∷ i ∷ []) ∷
    (2, o ∷ i ∷ i ∷ []) ∷
    (3, o ∷ o ∷ o ∷ o ∷ i ∷ []) ∷
    (4, o ∷ o ∷ o ∷ i ∷ i ∷ []) ∷
    (5, o ∷ i ∷ o ∷ o ∷ i ∷ []) ∷
    (6, o ∷ i ∷ o ∷ i ∷ i ∷ []) ∷
    (8, o ∷ o ∷ o ∷ o ∷ o ∷ i ∷ i ∷ []) ∷
    (14, o ∷ i ∷ o ∷ i ∷ o ∷ i ∷ i ∷ []) ∷ []

spelled : map (λ row. uint_bits row.0) rows ≡ map (λ row. row.1) rows
unfolding uint_bits spread_digits
spelled = refl

-- whatever follows
read : (rest : List Bool) → map (λ row. uint_at (row.1 ++ rest)) rows ≡ map (λ row. Some (row.0, rest)) rows
unfolding uint_at uint_after
read rest = refl

-- signed numbers and their codes
abbrev signed_rows : List (ℤ × List Bool)
signed_rows =
    (pos 0, i ∷ []) ∷
    (pos 1, o ∷ o ∷ i ∷ o ∷ []) ∷
    (negsuc 0, o ∷ o ∷ i ∷ i ∷ []) ∷
    (pos 2, o ∷ i ∷ i ∷ o ∷ []) ∷
    (negsuc 1, o ∷ i ∷ i ∷ i ∷ []) ∷
    (negsuc 7, o ∷ o ∷ o ∷ o ∷ o ∷ i ∷ i ∷ i ∷ []) ∷
    (pos 14, o ∷ i ∷ o ∷ i ∷ o ∷ i ∷ i ∷ o ∷ []) ∷
    (negsuc 14, o ∷ o ∷ o ∷ o ∷ o ∷ o ∷ o ∷ o ∷ i ∷ i ∷ []) ∷ []

signed_spelled : map (λ row. sint_bits row.0) signed_rows ≡ map (λ row. row.1) signed_rows
unfolding sint_bits uint_bits spread_digits
signed_spelled = refl

signed_read : (rest : List Bool) → map (λ row. bounded_sint (row.1 ++ rest)) signed_rows ≡ map (λ row. (row.0, rest)) signed_rows
unfolding bounded_sint bounded_uint bounded_uint_after
signed_read rest = refl

-- a block of one byte 0 ends within a number: the ones behind it finish the number and its sign
ends_within : bounded_sint (bits_of (0 ∷ [])) ≡ (negsuc 14, [])
unfolding bounded_sint bounded_uint bounded_uint_after bits_of byte_bits
ends_within = refl

-- and each number behind it is 0
zeros_behind : bounded_sints 3 (bits_of (0 ∷ [])) ≡ negsuc 14 ∷ pos 0 ∷ pos 0 ∷ []
unfolding bounded_sints bounded_sint bounded_uint bounded_uint_after bits_of byte_bits
zeros_behind = refl
