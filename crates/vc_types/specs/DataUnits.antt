-- Data units (ST 2042-1, data unit; parse info header): what a unit is, and what it is written as.
use Rattle.std.specs.Prelude.{ℕ, ◌+◌, Bool, ◌||◌, List, ◌∷◌, ◌++◌, length, ◌==◌, if◌then◌else◌}
use Rattle.byteorder.specs.Endian.{big_bytes}
use Rattle.vc_types.specs.ParseCodes.{header_code, end_code, auxiliary_code}
use Rattle.vc_types.specs.ParseCodes.{padding_code, low_delay_code, picture_code}

-- a data unit: its parse code and its body
pub record DataUnit : Type 0 where
  pub code : ℕ
  pub body : List ℕ

-- how many bytes a unit takes
abbrev pub unit_length : DataUnit → ℕ
unit_length u = 13 + length u.body

abbrev pub is_end_of_sequence : DataUnit → Bool
is_end_of_sequence u = u.code == end_code

-- the codes of a unit in this project's profile
abbrev pub is_unit_code : ℕ → Bool
is_unit_code code =
    code == header_code || code == end_code || code == auxiliary_code || code == padding_code
    || code == low_delay_code || code == picture_code

-- "BBCD"
abbrev pub parse_info_prefix : ℕ
parse_info_prefix = 0x42424344

-- the distance to the next unit: 0 in an end of sequence
abbrev pub next_offset : ℕ → List ℕ → ℕ
next_offset code body = if code == end_code then 0 else 13 + length body

-- the 13 bytes before a body: the prefix, the parse code, and the distances to the next unit and
-- from the previous one, of each the low 32 bits, high first
unfoldable pub parse_info : ℕ → ℕ → ℕ → List ℕ
parse_info code next previous =
    big_bytes 4 parse_info_prefix ++ (code ∷ (big_bytes 4 next ++ big_bytes 4 previous))

-- a unit's bytes, behind a unit of so many bytes
unfoldable pub unit_bytes : ℕ → List ℕ → ℕ → List ℕ
unit_bytes code body previous = parse_info code (next_offset code body) previous ++ body
