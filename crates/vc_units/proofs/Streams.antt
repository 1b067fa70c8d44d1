-- The units of bytes that are read one unit after another.
use Rattle.std.proofs.Common.{◌≡◌, ℕ, zero, suc, true, false, List, [], ◌∷◌, ◌++◌, Ok, Err, refl, arith}
use Rattle.vc_types.specs.DataUnits.{DataUnit, is_end_of_sequence}
use Rattle.vc_units.specs.Units.{data_unit, units_within}
use Rattle.vc_units.specs.declared.fault.UnitFault.{UnitFault}
use Rattle.vc_units.specs.declared.fault.UnitFault.TheVariants.{Short}
use Rattle.vc_units.proofs.Infos.{data_unit-stub}

-- a unit that doesn't end the sequence, and the units behind it
pub units_within-unit : (most : ℕ) (bytes : List ℕ) (u : DataUnit) → ((more : List ℕ) → data_unit (bytes ++ more) ≡ Ok (u, more)) → is_end_of_sequence u ≡ false
    → (more : List ℕ) → units_within (suc most) (bytes ++ more) ≡ (u ∷ (units_within most more).0, (units_within most more).1)
unfolding units_within
units_within-unit most bytes u is goes_on more = rw (is more, goes_on) refl

-- nothing is read behind an end of sequence
pub units_within-end : (most : ℕ) (bytes : List ℕ) (u : DataUnit) → ((more : List ℕ) → data_unit (bytes ++ more) ≡ Ok (u, more)) → is_end_of_sequence u ≡ true
    → (more : List ℕ) → units_within (suc most) (bytes ++ more) ≡ (u ∷ [], more)
unfolding units_within
units_within-end most bytes u is ends more = rw (is more, ends) refl

-- bytes whose first unit is refused are the rest
pub units_within-refused : (most : ℕ) (bytes : List ℕ) (fault : UnitFault) → data_unit bytes ≡ Err fault → units_within most bytes ≡ ([], bytes)
unfolding units_within
units_within-refused zero bytes fault refused = refl
units_within-refused (suc most) bytes fault refused = rw refused refl

-- no bytes have no unit
pub units_within-nothing : (most : ℕ) → units_within most [] ≡ ([], [])
units_within-nothing most = units_within-refused most [] Short (data_unit-stub [] (omega arith))
