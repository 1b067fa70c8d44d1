-- Bytes of a stream that comes to its end, of which a part was given.
use Rattle.std.proofs.Common.{◌≡◌, ◌⊎◌, ℕ, ◌+◌, List, [], ◌∷◌, ◌++◌, length, length-append, append-nil, Some, Err, inl, inr, refl, sym, ap, ◌∙◌, arith}
use Rattle.std.specs.Prelude.{◌≢◌, IsTrue, IsFalse}
use Rattle.std.proofs.lemmas.Grind.{common_steps}
use Rattle.cmd_stream.specs.Playing.{UnitSplit, unit_split, has_ended, StopsReading}
use Rattle.vc_ports.specs.Changes.{InputChange}
use Rattle.vc_units.proofs.Behind.{NoneBehind, data_unit-bad, units_within-rest}
use Rattle.vc_units.specs.Units.{data_unit, units_within}
use Rattle.vc_units.specs.declared.fault.UnitFault.{UnitFault}
use Rattle.vc_units.specs.declared.fault.UnitFault.TheVariants as faults

module _ (packets : ℕ) (given more : List ℕ) (ended : ((unit_split packets (given ++ more)).rest ≡ []) ⊎ IsTrue (has_ended (unit_split packets (given ++ more)))) where
  abbrev split : UnitSplit
  split = unit_split packets given

  -- where no unit is behind them, the rest is empty
  no_rest : NoneBehind packets (units_within packets given) more → IsFalse (has_ended split) → split.rest ++ more ≡ []
  no_rest none goes_on = grind (arith, common_steps, units_within-rest)

  pub none_past : length split.units ≡ packets → IsFalse (has_ended split) → length split.rest ≡ 1 → ⊥
  none_past count goes_on one_more =
      let empty : length split.rest + length more ≡ 0 = sym (length-append split.rest more) ∙ ap length (no_rest (inl count) goes_on) in
      omega (arith, empty, one_more)

  front_empty : (front : List ℕ) → front ++ more ≡ [] → front ≡ []
  front_empty [] e = refl
  front_empty (byte ∷ front) e = absurd cc

  -- thirteen bytes that are refused are so, whatever follows
  no_bad : (fault : UnitFault) → (fault ≡ faults.Short → ⊥) → data_unit split.rest ≡ Err fault → length split.rest ≡ 13 → IsFalse (has_ended split) → ⊥
  no_bad fault other is len goes_on =
      let empty = front_empty split.rest (no_rest (inr (fault, data_unit-bad split.rest more fault len other is)) goes_on) in
      omega (arith, sym len ∙ ap length empty)

  no_short : data_unit split.rest ≡ Err faults.Short → split.rest ≢ [] → more ≡ [] → IsFalse (has_ended split) → ⊥
  no_short is some none goes_on =
      some (front_empty split.rest (no_rest (inr (faults.Short, rw (none, append-nil split.rest) is)) goes_on))

  pub none_refused : (input : InputChange) → input.left.after ≡ Some more → IsFalse (has_ended split)
      → (fault : UnitFault) → data_unit split.rest ≡ Err fault → StopsReading input split.rest fault → ⊥
  none_refused input tells goes_on faults.Short is last = no_short is last.0 (rw tells at last.1) goes_on
  none_refused input tells goes_on fault is last = no_bad fault (λ e. cc) is last goes_on
