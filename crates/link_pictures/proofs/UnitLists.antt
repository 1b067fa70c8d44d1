-- Units behind others, where of the length of the one before the low 32 bits are known.
use Rattle.std.proofs.Common.{◌≡◌, ℕ, ◌%◌, ◌^◌, refl, ap, ◌∙◌}
use Rattle.std.proofs.Common.{List, [], ◌∷◌, ◌++◌, Option, Some, arith}
use Rattle.std.specs.Prelude.{unwrap_or}
use Rattle.std.specs.Option.{option_map_or}
use Rattle.std.proofs.lemmas.Grind.{common_steps}
use Rattle.std.proofs.lemmas.List.{append-nil}
use Rattle.byteorder.specs.Endian.{big_bytes}
use Rattle.stream_model.specs.Streams.{units_behind, last_length, behind_header, picture_unit}
use Rattle.stream_model.proofs.Units.{units_behind-append, last_length-append}
use Rattle.vc_types.specs.DataUnits.{DataUnit, unit_length, unit_bytes, parse_info, next_offset}
use Rattle.vc_types.specs.DataUnits.{parse_info_prefix}
use Rattle.vc_units.proofs.Written.{low_bytes}
use Rattle.link_pictures.specs.Writing.{WrittenStream, units_next, length_behind, bytes_next}
use Rattle.link_pictures.specs.Writing.{field_unit, AreUnits, header_before}

-- ---- the low 32 bits are enough

pub unit_low : (code : ℕ) (body : List ℕ) (previous : ℕ)
    → unit_bytes code body (previous % 2 ^ 32) ≡ unit_bytes code body previous
unfolding unit_bytes parse_info
unit_low code body previous = ap (λ (l : List ℕ). (big_bytes 4 parse_info_prefix
    ++ (code ∷ (big_bytes 4 (next_offset code body) ++ l))) ++ body) (low_bytes previous)

units_low : (previous : ℕ) (units : List DataUnit)
    → units_behind (previous % 2 ^ 32) units ≡ units_behind previous units
unfolding units_behind
units_low previous [] = refl
units_low previous (u ∷ units) = ap (λ (l : List ℕ). l ++ units_behind (unit_length u) units)
    (unit_low u.code u.body previous)

-- what follows units follows the last of them
pub behind_units : (previous : Option ℕ) (units more : List DataUnit)
    → units_behind (unwrap_or (length_behind previous units) 0) more
    ≡ units_behind (last_length (unwrap_or previous 0) units) more
unfolding last_length
behind_units previous [] more = refl
behind_units previous (u ∷ units) more = units_low (last_length (unit_length u) units) more

-- ---- two lists of units

pub bytes-append : (previous : Option ℕ) (units more : List DataUnit)
    → units_behind (unwrap_or previous 0) (units ++ more)
    ≡ units_behind (unwrap_or previous 0) units
    ++ units_behind (unwrap_or (length_behind previous units) 0) more
bytes-append previous units more = grind (arith, behind_units, units_behind-append)

pub length-append : (previous : Option ℕ) (units more : List DataUnit)
    → length_behind previous (units ++ more) ≡ length_behind (length_behind previous units) more
unfolding last_length
length-append previous units more = grind (arith, last_length-append)

abbrev behind_or : List ℕ → Option ℕ → List DataUnit → List DataUnit
behind_or header previous pictures =
    option_map_or (λ previous. pictures) previous (behind_header header pictures)

next_parts : (header : List ℕ) (previous : Option ℕ) (units more : List DataUnit)
    → behind_or header previous (units ++ more)
    ≡ behind_or header previous units
    ++ behind_or header (length_behind previous (behind_or header previous units)) more
next_parts header previous units more = grind arith

module _ (w : WrittenStream) (units more : List DataUnit) where
  abbrev pub behind_first : WrittenStream
  behind_first = record w { previous = length_behind w.previous (units_next w units) }

  pub next-append : units_next w (units ++ more)
      ≡ units_next w units ++ units_next behind_first more
  next-append = next_parts w.header w.previous units more

  pub next_bytes-append : bytes_next w (units ++ more)
      ≡ bytes_next w units ++ bytes_next behind_first more
  next_bytes-append = ap (units_behind (unwrap_or w.previous 0)) next-append
      ∙ bytes-append w.previous (units_next w units) (units_next behind_first more)

  pub next_length-append : length_behind w.previous (units_next w (units ++ more))
      ≡ length_behind behind_first.previous (units_next behind_first more)
  next_length-append = ap (length_behind w.previous) next-append
      ∙ length-append w.previous (units_next w units) (units_next behind_first more)

-- nothing more
pub next_nothing : (w : WrittenStream) → units_next w [] ≡ []
next_nothing w = grind arith

-- ---- one unit more

pub no_units : (before : Option ℕ) → AreUnits before [] [] before
unfolding units_behind
no_units before = record { are = refl; last = refl }

pub unit_more : (before : Option ℕ) (units : List DataUnit) (bytes : List ℕ) (after : Option ℕ)
    → AreUnits before units bytes after → (u : DataUnit)
    → AreUnits before (units ++ u ∷ [])
    (bytes ++ unit_bytes u.code u.body (unwrap_or after 0)) (Some (unit_length u % 2 ^ 32))
unfolding units_behind last_length
unit_more before units bytes after are u =
    grind (arith, common_steps, append-nil, bytes-append, length-append)

pub frame_next : (header : List ℕ) (previous : Option ℕ) (n m : ℕ) (field : Option (List ℕ))
    (whole : List ℕ)
    → (header_before header previous ++ field_unit m field) ++ picture_unit n whole ∷ []
    ≡ behind_or header previous (field_unit m field ++ picture_unit n whole ∷ [])
frame_next header previous n m field whole = grind arith

pub none_more : (units : List DataUnit) → units ++ [] ≡ units
none_more units = append-nil units
