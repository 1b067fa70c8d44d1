-- A unit that is written is read back.
use Rattle.std.proofs.Common.{◌≡◌, ℕ, ◌+◌, ◌-◌, ◌%◌, ◌^◌, ◌≤◌, Bool, true, false, List, [], ◌++◌, length, Ok, IsTrue, refl, arith, ◌==◌}
use Rattle.std.proofs.lemmas.Bool.{le-ltb}
use Rattle.byteorder.specs.Endian.{big_bytes}
use Rattle.vc_types.specs.DataUnits.{unit_length, is_unit_code, next_offset, parse_info, unit_bytes}
use Rattle.vc_types.specs.ParseCodes.{end_code}
use Rattle.vc_units.specs.Units.{body_length, data_unit}
use Rattle.vc_units.proofs.Infos.{data_unit-whole}

-- the low 32 bits of a number have its low four bytes
pub low_bytes : (n : ℕ) → big_bytes 4 (n % 2 ^ 32) ≡ big_bytes 4 n
low_bytes n = grind arith

-- what an end of sequence tells
end_told : (code next previous : ℕ) → IsTrue (is_unit_code code) → (code == end_code) ≡ true → body_length (parse_info code next previous) ≡ Ok 0
unfolding body_length parse_info
end_told code next previous known ends = rw (known, ends) refl

-- what any other unit tells
told : (code next previous : ℕ) → IsTrue (is_unit_code code) → (code == end_code) ≡ false → 13 ≤ next → next ≤ 268435456 → body_length (parse_info code next previous) ≡ Ok (next - 13)
unfolding body_length parse_info
told code next previous known goes_on low high = grind (arith, le-ltb)

is_end : (code : ℕ) → (code == end_code) ≡ true → code ≡ end_code
is_end code ends = grind arith

body_told : (code : ℕ) (body : List ℕ) (previous : ℕ) → IsTrue (is_unit_code code) → (code ≡ end_code → body ≡ []) → 13 + length body ≤ 268435456
    → (ends : Bool) → (code == end_code) ≡ ends → body_length (parse_info code (next_offset code body) previous) ≡ Ok (length body)
body_told code body previous known empty room o ends = grind (arith, end_told, is_end, told)

pub data_unit-unit_bytes : (code : ℕ) (body : List ℕ) (previous : ℕ) (more : List ℕ) → IsTrue (is_unit_code code) → (code ≡ end_code → body ≡ []) → unit_length (record { code = code; body = body }) ≤ 268435456
    → data_unit (unit_bytes code body previous ++ more) ≡ Ok (record { code = code; body = body }, more)
unfolding unit_bytes parse_info
data_unit-unit_bytes code body previous more known empty room =
    data_unit-whole (parse_info code (next_offset code body) previous) body more (length body) refl (body_told code body previous known empty room (code == end_code) refl) refl
