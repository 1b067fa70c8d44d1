-- The units that bytes begin with, whatever follows, and a unit more behind them.
use Rattle.std.proofs.Common.{◌≡◌, ℕ, suc, ◌+◌, ◌-◌, ◌<◌, Bool, true, false, List, [], ◌∷◌, ◌++◌, Ok, ap, ◌∙◌, arith, append-nil}
use Rattle.std.proofs.lemmas.Grind.{common_steps}
use Rattle.cmd_stream.specs.PlayLooping.{then_units}
use Rattle.vc_types.specs.DataUnits.{DataUnit, is_end_of_sequence}
use Rattle.vc_units.proofs.Streams.{units_within-unit, units_within-end, units_within-nothing}
use Rattle.vc_units.specs.Units.{data_unit, units_within}

abbrev Units : Type 0
Units = List DataUnit × List ℕ

pub none_split : (packets : ℕ) (more : List ℕ) → units_within packets more ≡ then_units [] (units_within (packets - 0) more)
none_split packets more = grind (arith, common_steps)

module _ (packets number : ℕ) (given : List ℕ) (units : List DataUnit) (split : (more : List ℕ) → units_within packets (given ++ more) ≡ then_units units (units_within (packets - number) more)) where
  -- bytes behind the units, and the units that these have
  with_units : (more : List ℕ) (last : Units) → units_within (packets - number) more ≡ last → units_within packets (given ++ more) ≡ then_units units last
  with_units more last is = split more ∙ ap (then_units units) is

  pub no_units : (more : List ℕ) → units_within (packets - number) more ≡ ([], more) → units_within packets (given ++ more) ≡ (units, more)
  no_units more is = with_units more ([], more) is ∙ ap (λ (us : List DataUnit). (us, more)) (append-nil units)

  module _ (room : number < packets) (bytes : List ℕ) (u : DataUnit) (unit_is : (more : List ℕ) → data_unit (bytes ++ more) ≡ Ok (u, more)) where
    next : packets - number ≡ suc (packets - (number + 1))
    next = omega arith

    -- the units of what follows
    abbrev following : List ℕ → Units
    following more = units_within (packets - (number + 1)) more

    -- a unit behind the others
    unit_within : is_end_of_sequence u ≡ false → (more : List ℕ) → units_within (packets - number) (bytes ++ more) ≡ then_units (u ∷ []) (following more)
    unit_within goes_on more = ap (λ (most : ℕ). units_within most (bytes ++ more)) next ∙ units_within-unit (packets - (number + 1)) bytes u unit_is goes_on more

    last_within : is_end_of_sequence u ≡ true → (more : List ℕ) → units_within (packets - number) (bytes ++ more) ≡ (u ∷ [], more)
    last_within ends more = ap (λ (most : ℕ). units_within most (bytes ++ more)) next ∙ units_within-end (packets - (number + 1)) bytes u unit_is ends more

    pub one_unit : (ends : Bool) → is_end_of_sequence u ≡ ends → units_within packets (given ++ bytes) ≡ (units ++ u ∷ [], [])
    one_unit true ends = with_units bytes (u ∷ [], []) (rw append-nil at (last_within ends []))
    one_unit false goes_on = with_units bytes (u ∷ [], []) (rw (append-nil, units_within-nothing (packets - (number + 1))) at (unit_within goes_on []))

    pub split_more : is_end_of_sequence u ≡ false → (more : List ℕ) → units_within packets ((given ++ bytes) ++ more) ≡ then_units (units ++ u ∷ []) (following more)
    split_more goes_on more = grind (arith, common_steps, with_units, unit_within)
