-- An elementary stream, read: data units one after another, each a parse info header of 13 bytes
-- and a body (ST 2042-1, data unit; parse info header).
use Rattle.std.specs.Prelude.{ℕ, zero, suc, ◌-◌, ◌||◌, not, List, [], ◌∷◌, drop, slice_index, Result, Ok, Err}
use Rattle.std.specs.Prelude.{nat_lt, ◌==◌, if◌then◌else◌}
use Rattle.byteorder.specs.Endian.{big_number}
use Rattle.vc_types.specs.DataUnits.{DataUnit, is_end_of_sequence, is_unit_code, parse_info_prefix}
use Rattle.vc_types.specs.ParseCodes.{end_code}
use Rattle.vc_types.specs.Fields.{Field, ◌>>=◌, give, refuse, next_items}
use Rattle.vc_units.specs.declared.fault.UnitFault.{UnitFault}
use Rattle.vc_units.specs.declared.fault.UnitFault.TheVariants.{Prefix, Offset, Code, Short}

-- ---- the 13 bytes before a body

abbrev pub prefix_of : List ℕ → ℕ
prefix_of info = big_number 4 info

abbrev pub code_of : List ℕ → ℕ
code_of info = slice_index info 4

abbrev pub next_offset_of : List ℕ → ℕ
next_offset_of info = big_number 4 (drop 5 info)

-- how many bytes the body has, or the first refusal; an end of sequence has none, and its distance
-- isn't used
unfoldable pub body_length : List ℕ → Result ℕ UnitFault
body_length info =
    if not (prefix_of info == parse_info_prefix) then Err Prefix
    else (if not (is_unit_code (code_of info)) then Err Code
    else (if code_of info == end_code then Ok 0
    else (if nat_lt (next_offset_of info) 13 || nat_lt 268435456 (next_offset_of info)
    then Err Offset
    else Ok (next_offset_of info - 13))))

-- ---- reading

-- a field of what was settled before, which takes nothing
abbrev pub settled : {T E X : Type 0} → Result X E → Field T E X
settled (Ok x) = give x
settled (Err refusal) = refuse refusal

-- the unit that begins the bytes and what is behind it, or the first refusal
unfoldable pub data_unit : Field ℕ UnitFault DataUnit
data_unit = do
  info ← next_items Short 13
  count ← settled (body_length info)
  body ← next_items Short count
  give (record { code = code_of info; body = body })

-- a unit before other units
abbrev pub with_unit_first : DataUnit → List DataUnit × List ℕ → List DataUnit × List ℕ
with_unit_first u behind = (u ∷ behind.0, behind.1)

-- the first unit, and those behind it unless it ends the sequence; none where it is refused
abbrev pub units_from : List ℕ → (List ℕ → List DataUnit × List ℕ)
    → Result (DataUnit × List ℕ) UnitFault → List DataUnit × List ℕ
units_from bytes behind (Err refusal) = ([], bytes)
units_from bytes behind (Ok read) =
    if is_end_of_sequence read.0 then (read.0 ∷ [], read.1) else with_unit_first read.0 (behind read.1)

-- the units that begin the bytes, at most so many, up to the first end of sequence and before the
-- first that is refused; and the rest
unfoldable pub units_within : ℕ → List ℕ → List DataUnit × List ℕ
units_within zero bytes = ([], bytes)
units_within (suc most) bytes = units_from bytes (λ rest. units_within most rest) (data_unit bytes)
