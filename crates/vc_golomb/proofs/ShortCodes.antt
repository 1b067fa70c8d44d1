-- The table has the codes of small numbers.
use Rattle.std.proofs.Common.{◌≡◌, ℕ, ◌+◌, ◌/◌, ◌%◌, ◌^◌, ◌<◌, Bool, true, leb, get_or, refl, arith}
use Rattle.std.specs.Prelude.{◌&&◌}
use Rattle.std.proofs.lemmas.Bool.{and_parts, leb-true}
use Rattle.vc_types.specs.Codes.{uint_bits, spread_digits, sint_bits}
use Rattle.vc_bits.specs.Bits.{word_bits}
use Rattle.vc_golomb.specs.Short.{HasCode, number_in}
use Rattle.vc_golomb.specs.declared.short.TheConstants.{CODES}
use Rattle.vc_types.proofs.Tables.{holds_below, holds_at}
use Rattle.vc_golomb.proofs.ByteRows.{same_bits, same}

abbrev is_code : ℕ → ℕ → Bool
is_code place entry =
    same_bits (word_bits (entry % 32) (entry / 32)) (sint_bits (number_in place))
    && (leb (entry / 32 + 1) (2 ^ (entry % 32)) && leb (entry % 32) 18)

all_codes : holds_below (λ place. is_code place (get_or CODES place 0)) 512 ≡ true
unfolding word_bits sint_bits uint_bits spread_digits
all_codes = refl

pub code_is : (place : ℕ) → place < 512 → HasCode (number_in place) (get_or CODES place 0)
code_is place inside =
    let entry = get_or CODES place 0 in
    let parts = and_parts _ _ (holds_at (λ place. is_code place (get_or CODES place 0)) 512 place all_codes inside) in
    let last = and_parts _ _ parts.1 in
    let room = leb-true (entry / 32 + 1) (2 ^ (entry % 32)) last.0 in
    record { value = same _ _ parts.0; few = leb-true (entry % 32) 18 last.1; range = omega (arith, room) }
