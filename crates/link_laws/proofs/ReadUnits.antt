-- The units of a stream are read back from its bytes.
use Rattle.std.proofs.Common.{◌≡◌, ◌≤◌, ℕ, zero, suc, false, List, [], ◌∷◌, ◌++◌, length, Ok, refl, sym, ap, ◌∙◌, append-nil, arith, All, IsTrue}
use Rattle.std.proofs.lemmas.List.Elements.{All-head, All-tail}
use Rattle.stream_model.specs.Streams.{end_unit, units_behind}
use Rattle.vc_types.specs.DataUnits.{DataUnit, is_end_of_sequence, is_unit_code, unit_bytes, unit_length}
use Rattle.vc_types.specs.ParseCodes.{end_code}
use Rattle.vc_units.specs.Units.{data_unit, units_within}
use Rattle.vc_units.proofs.Streams.{units_within-end, units_within-nothing, units_within-unit}
use Rattle.vc_units.proofs.Written.{data_unit-unit_bytes}

-- a unit that may be told, behind which others follow
pub record IsInside (u : DataUnit) : Type 0 where
  pub known : IsTrue (is_unit_code u.code)
  pub goes_on : is_end_of_sequence u ≡ false

abbrev Reads : ℕ → ℕ → List DataUnit → Type 0
Reads most previous units = units_within most (units_behind previous units) ≡ (units, [])

-- it is read back, whatever follows
inside_read : (u : DataUnit) (previous : ℕ) → IsInside u → unit_length u ≤ 268435456 → (more : List ℕ) → data_unit (unit_bytes u.code u.body previous ++ more) ≡ Ok (u, more)
inside_read u previous inside short more = grind (arith, data_unit-unit_bytes)

end_read : (previous : ℕ) → (more : List ℕ) → data_unit (unit_bytes end_code [] previous ++ more) ≡ Ok (end_unit, more)
end_read previous more = data_unit-unit_bytes end_code [] previous more refl (λ e. refl) (omega arith)

pub units_read : (units : List DataUnit) (most previous : ℕ) → All IsInside units → All (λ u. unit_length u ≤ 268435456) (units ++ end_unit ∷ []) → length (units ++ end_unit ∷ []) ≤ most
    → Reads most previous (units ++ end_unit ∷ [])
unfolding units_behind
units_read units zero previous inside short few = absurd (no_room units few)
  where
    no_room : (units : List DataUnit) → length (units ++ end_unit ∷ []) ≤ 0 → ⊥
    no_room [] few = omega arith
    no_room (u ∷ units) few = omega arith
units_read [] (suc most) previous inside short few =
    ap (λ (bytes : List ℕ). units_within (suc most) bytes) (sym (append-nil (unit_bytes end_code [] previous ++ [])) ∙ ap (λ (l : List ℕ). l ++ []) (append-nil (unit_bytes end_code [] previous)))
    ∙ units_within-end most (unit_bytes end_code [] previous) end_unit (end_read previous) refl []
units_read (u ∷ units) (suc most) previous inside short few =
    let own = All-head IsInside u units inside in
    let rest = units ++ end_unit ∷ [] in
    units_within-unit most (unit_bytes u.code u.body previous) u (inside_read u previous own (All-head (λ v. unit_length v ≤ 268435456) u rest short)) own.goes_on (units_behind (unit_length u) rest)
    ∙ ap (λ (split : List DataUnit × List ℕ). (u ∷ split.0, split.1))
    (units_read units most (unit_length u) (All-tail IsInside u units inside) (All-tail (λ v. unit_length v ≤ 268435456) u rest short) (omega arith))

pub nothing_read : (most previous : ℕ) → Reads most previous []
unfolding units_behind
nothing_read most previous = units_within-nothing most
