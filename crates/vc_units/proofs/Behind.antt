-- Bytes behind a unit, and behind units: what stands stays as it is.
use Rattle.std.proofs.Common.{◌≡◌, ◌⊎◌, ℕ, zero, suc, true, false, List, [], ◌∷◌, ◌++◌, length, Result, Ok, Err, inl, inr, refl, sym, ap, ◌∙◌, append_assoc, append-nil, arith}
use Rattle.std.proofs.lemmas.Bool.{cases_Bool}
use Rattle.std.proofs.lemmas.Grind.{common_steps}
use Rattle.vc_types.specs.Fields.{next_items}
use Rattle.vc_types.proofs.FieldCodecs.{and_then_ok, ok_is, next_items_codec}
use Rattle.vc_types.specs.DataUnits.{DataUnit, is_end_of_sequence}
use Rattle.vc_units.specs.Units.{body_length, code_of, settled, data_unit, units_within}
use Rattle.vc_units.specs.declared.fault.UnitFault.{UnitFault}
use Rattle.vc_units.specs.declared.fault.UnitFault.TheVariants.{Short}
use Rattle.vc_units.proofs.Infos.{behind_info, body_behind, pair, data_unit-refused, data_unit-whole, data_unit-cut}

abbrev Units : Type 0
Units = List DataUnit × List ℕ

-- ---- one unit

-- what is read from the front, and the rest
front_of : (n : ℕ) (bytes : List ℕ) (read : List ℕ × List ℕ) → next_items Short n bytes ≡ Ok read → (length read.0 ≡ n) × (bytes ≡ read.0 ++ read.1)
front_of n bytes read is = grind (arith, common_steps, next_items_codec)

settled_as : (told : Result ℕ UnitFault) (bytes : List ℕ) (read : ℕ × List ℕ) → settled told bytes ≡ Ok read → (told ≡ Ok read.0) × (read.1 ≡ bytes)
settled_as told bytes read is = grind (arith, ok_is)

-- its parse info, its body and what is behind it
record Cut (bytes : List ℕ) (u : DataUnit) (rest : List ℕ) : Type 0 where
  info : List ℕ
  body : List ℕ
  count : ℕ
  info_length : length info ≡ 13
  told : body_length info ≡ Ok count
  body_whole : length body ≡ count
  bytes_are : bytes ≡ info ++ (body ++ rest)
  unit_is : record { code = code_of info; body = body } ≡ u

cut_of : (bytes : List ℕ) (u : DataUnit) (rest : List ℕ) → data_unit bytes ≡ Ok (u, rest) → Cut bytes u rest
unfolding data_unit
cut_of bytes u rest is =
    grind (
      arith,
      common_steps,
      and_then_ok,
      behind_info,
      body_behind,
      front_of,
      ok_is,
      pair,
      settled_as,
    )

pub data_unit-more : (bytes more : List ℕ) (u : DataUnit) (rest : List ℕ) → data_unit bytes ≡ Ok (u, rest) → data_unit (bytes ++ more) ≡ Ok (u, rest ++ more)
data_unit-more bytes more u rest is =
    let c = cut_of bytes u rest is in
    let regrouped : bytes ++ more ≡ c.info ++ (c.body ++ (rest ++ more)) =
    ap (λ (l : List ℕ). l ++ more) c.bytes_are
    ∙ append_assoc c.info (c.body ++ rest) more
    ∙ ap (λ (l : List ℕ). c.info ++ l) (append_assoc c.body rest more) in
    ap data_unit regrouped
    ∙ data_unit-whole c.info c.body (rest ++ more) c.count c.info_length c.told c.body_whole
    ∙ ap (λ (v : DataUnit). Ok (v, rest ++ more)) c.unit_is

-- ---- a parse info that is refused

ok_is_err : {A E : Type 0} (x : A) (e : E) → Ok x ≡ Err e → ⊥
ok_is_err x e p = cc

abbrev failed : UnitFault → Result (DataUnit × List ℕ) UnitFault
failed fault = Err fault

err_is : (e f : UnitFault) → failed e ≡ failed f → e ≡ f
err_is e f p = cc

-- thirteen bytes that are refused, but not because more are wanted
pub data_unit-bad : (info more : List ℕ) (fault : UnitFault) → length info ≡ 13 → (fault ≡ Short → ⊥) → data_unit info ≡ Err fault → data_unit (info ++ more) ≡ Err fault
data_unit-bad info more fault len other is = by_length (body_length info) refl
  where
    alone : data_unit (info ++ []) ≡ Err fault
    alone = ap data_unit (append-nil info) ∙ is

    of_body : (count : ℕ) → body_length info ≡ Ok count → data_unit (info ++ more) ≡ Err fault
    of_body zero told = absurd (ok_is_err (record { code = code_of info; body = [] }, []) fault (sym (data_unit-whole info [] [] 0 len told refl) ∙ alone))
    of_body (suc count) told = absurd (other (err_is fault Short (sym alone ∙ data_unit-cut info [] (suc count) len told (omega arith))))

    by_length : (told : Result ℕ UnitFault) → body_length info ≡ told → data_unit (info ++ more) ≡ Err fault
    by_length (Ok count) told = of_body count told
    by_length (Err found) told =
        let same : found ≡ fault = err_is found fault (sym (data_unit-refused info [] found len told) ∙ alone) in
        data_unit-refused info more found len told ∙ ap Err same

-- ---- units

-- no unit, the last one, or one before others
unit_cases : (bytes : List ℕ) (Goal : Type 0) → ((fault : UnitFault) → data_unit bytes ≡ Err fault → Goal)
    → ((u : DataUnit) (rest : List ℕ) → data_unit bytes ≡ Ok (u, rest) → is_end_of_sequence u ≡ true → Goal)
    → ((u : DataUnit) (rest : List ℕ) → data_unit bytes ≡ Ok (u, rest) → is_end_of_sequence u ≡ false → Goal) → Goal
unit_cases bytes Goal none last other = by_unit (data_unit bytes) refl
  where
    by_unit : (found : Result (DataUnit × List ℕ) UnitFault) → data_unit bytes ≡ found → Goal
    by_unit (Err fault) is = none fault is
    by_unit (Ok read) is = elim (cases_Bool (is_end_of_sequence read.0)) [ inl ends ↦ last read.0 read.1 is ends | inr goes_on ↦ other read.0 read.1 is goes_on ]

-- the units stand at the front of those that the bytes and more have
pub units_within-more : (most : ℕ) (bytes more : List ℕ) → (behind : List DataUnit) × ((units_within most (bytes ++ more)).0 ≡ (units_within most bytes).0 ++ behind)
unfolding units_within
units_within-more zero bytes more = ([], refl)
units_within-more (suc most) bytes more =
    unit_cases bytes ((behind : List DataUnit) × ((units_within (suc most) (bytes ++ more)).0 ≡ (units_within (suc most) bytes).0 ++ behind))
    (λ fault is. ((units_within (suc most) (bytes ++ more)).0, rw is refl))
    (λ u rest is ends. ([], rw (is, data_unit-more bytes more u rest is, ends) refl))
    (λ u rest is goes_on.
    let behind = units_within-more most rest more in
    (behind.0, rw (is, data_unit-more bytes more u rest is, goes_on) (ap (λ (units : List DataUnit). u ∷ units) behind.1)))

-- as many units as may be, or no unit behind them
abbrev pub NoneBehind : ℕ → Units → List ℕ → Type 0
NoneBehind most split more =
    (length split.0 ≡ most) ⊎ ((fault : UnitFault) × (data_unit (split.1 ++ more) ≡ Err fault))

suc_is : (m n : ℕ) → suc m ≡ suc n → m ≡ n
suc_is m n p = cc

zero_is_suc : (n : ℕ) → zero ≡ suc n → ⊥
zero_is_suc n p = cc

-- then more bytes are part of the rest
pub units_within-rest : (most : ℕ) (bytes more : List ℕ) → NoneBehind most (units_within most bytes) more → units_within most (bytes ++ more) ≡ ((units_within most bytes).0, (units_within most bytes).1 ++ more)
unfolding units_within
units_within-rest zero bytes more none = refl
units_within-rest (suc most) bytes more none =
    unit_cases bytes Goal (λ fault is. no_unit fault is (rw is at none)) (λ u rest is ends. rw (is, data_unit-more bytes more u rest is, ends) refl)
    (λ u rest is goes_on.
    let behind = units_within-rest most rest more (fewer u (units_within most rest) (rw (is, goes_on) at none)) in
    rw (is, data_unit-more bytes more u rest is, goes_on) (ap (λ (split : Units). (u ∷ split.0, split.1)) behind))
  where
    Goal : Type 0
    Goal = units_within (suc most) (bytes ++ more) ≡ ((units_within (suc most) bytes).0, (units_within (suc most) bytes).1 ++ more)

    no_unit : (fault : UnitFault) → data_unit bytes ≡ Err fault → NoneBehind (suc most) ([], bytes) more → Goal
    no_unit fault is (inl full) = absurd (zero_is_suc most full)
    no_unit fault is (inr behind) = rw (is, behind.1) refl

    fewer : (u : DataUnit) (split : Units) → NoneBehind (suc most) (u ∷ split.0, split.1) more → NoneBehind most split more
    fewer u split (inl full) = inl (suc_is (length split.0) most full)
    fewer u split (inr behind) = inr behind
