-- The unit that begins some bytes, by its parse info and what follows it.
use Rattle.std.proofs.Common.{◌≡◌, ℕ, ◌<◌, List, ◌++◌, length, Result, Ok, Err, refl, ap, ◌∙◌}
use Rattle.std.proofs.lemmas.Bool.{lt-ltb}
use Rattle.vc_types.specs.Fields.{Field, and_then, ◌>>=◌, give, next_items}
use Rattle.vc_types.proofs.FieldCodecs.{next_items_codec}
use Rattle.vc_types.specs.DataUnits.{DataUnit}
use Rattle.vc_units.specs.Units.{code_of, body_length, settled, data_unit}
use Rattle.vc_units.specs.declared.fault.UnitFault.{UnitFault}
use Rattle.vc_units.specs.declared.fault.UnitFault.TheVariants.{Short}

-- so many bytes from the front
taken : (n : ℕ) (front rest : List ℕ) → length front ≡ n → next_items Short n (front ++ rest) ≡ Ok (front, rest)
taken n front rest len = (next_items_codec Short n).again front rest len

-- fewer bytes than that
untaken : (n : ℕ) (bytes : List ℕ) → length bytes < n → next_items Short n bytes ≡ Err Short
untaken n bytes short = rw (lt-ltb (length bytes) n short) refl

-- the body behind a parse info that tells its length
abbrev pub body_behind : List ℕ → ℕ → Field ℕ UnitFault DataUnit
body_behind info count = next_items Short count >>= λ body. give (record { code = code_of info; body = body })

abbrev pub behind_info : List ℕ → Result ℕ UnitFault → Field ℕ UnitFault DataUnit
behind_info info told = settled told >>= λ count. body_behind info count

by_info : (info rest : List ℕ) → length info ≡ 13 → data_unit (info ++ rest) ≡ behind_info info (body_length info) rest
unfolding data_unit
by_info info rest len = ap (λ (r : Result (List ℕ × List ℕ) UnitFault). and_then r (λ read. behind_info read.0 (body_length read.0) read.1)) (taken 13 info rest len)

-- fewer bytes than a parse info has
pub data_unit-stub : (bytes : List ℕ) → length bytes < 13 → data_unit bytes ≡ Err Short
unfolding data_unit
data_unit-stub bytes short = ap (λ (r : Result (List ℕ × List ℕ) UnitFault). and_then r (λ read. behind_info read.0 (body_length read.0) read.1)) (untaken 13 bytes short)

-- a parse info that is refused
pub data_unit-refused : (info rest : List ℕ) (fault : UnitFault) → length info ≡ 13 → body_length info ≡ Err fault → data_unit (info ++ rest) ≡ Err fault
data_unit-refused info rest fault len refused = by_info info rest len ∙ ap (λ (told : Result ℕ UnitFault). behind_info info told rest) refused

with_length : (info rest : List ℕ) (count : ℕ) → length info ≡ 13 → body_length info ≡ Ok count → data_unit (info ++ rest) ≡ body_behind info count rest
with_length info rest count len told = by_info info rest len ∙ ap (λ (told : Result ℕ UnitFault). behind_info info told rest) told

-- fewer bytes behind it than the body has
pub data_unit-cut : (info part : List ℕ) (count : ℕ) → length info ≡ 13 → body_length info ≡ Ok count → length part < count → data_unit (info ++ part) ≡ Err Short
data_unit-cut info part count len told short =
    with_length info part count len told
    ∙ ap (λ (r : Result (List ℕ × List ℕ) UnitFault). and_then r (λ read. Ok (record { code = code_of info; body = read.0 }, read.1))) (untaken count part short)

-- as many bytes behind it as the body has
pub data_unit-whole : (info body rest : List ℕ) (count : ℕ) → length info ≡ 13 → body_length info ≡ Ok count → length body ≡ count
    → data_unit (info ++ (body ++ rest)) ≡ Ok (record { code = code_of info; body = body }, rest)
data_unit-whole info body rest count len told whole =
    with_length info (body ++ rest) count len told
    ∙ ap (λ (r : Result (List ℕ × List ℕ) UnitFault). and_then r (λ read. Ok (record { code = code_of info; body = read.0 }, read.1))) (taken count body rest whole)

-- a unit and what is behind it
abbrev pub pair : DataUnit → List ℕ → DataUnit × List ℕ
pair u rest = (u, rest)
