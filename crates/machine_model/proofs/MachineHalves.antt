-- An event is legal where all its conditions hold: those on the places, and those on the feeder.
use Rattle.std.proofs.Common.{◌≡◌, ℕ, suc, ◌+◌, Bool, true, false, List, [], ◌∷◌, length}
use Rattle.std.proofs.Common.{Option, Some, None, refl, sym, arith}
use Rattle.std.specs.Prelude.{not, position}
use Rattle.std.specs.List.{list_all, list_any, position_or_len}
use Rattle.std.specs.Option.{option_map}
use Rattle.std.proofs.lemmas.Bool.{and_parts, and_from, false≢true, le-ltb}
use Rattle.std.proofs.lemmas.Option.{none-some}
use Rattle.machine_model.proofs.Positions.{position_none}
use Rattle.machine_model.specs.Machine.{Machine, Event, conditions, IsLegal, is_legal_on_places}
use Rattle.machine_model.specs.Machine.{is_legal_for_feeder}

-- ---- all conditions

abbrev AllTrue : List Bool → Type 0
AllTrue bs = list_all (λ b. b) bs ≡ true

abbrev Unbroken : List Bool → Type 0
Unbroken bs = option_map (λ k. k + 1) (position not bs) ≡ None

none_none : (o : Option ℕ) → option_map (λ k. k + 1) o ≡ None → o ≡ None
none_none None e = refl
none_none (Some k) e = absurd (none-some (k + 1) (sym e))

none_false : (bs : List Bool) → list_any not bs ≡ false → AllTrue bs
none_false [] e = refl
none_false (true ∷ bs) e = none_false bs e
none_false (false ∷ bs) e = absurd (false≢true (sym e))

pub all_true : (bs : List Bool) → Unbroken bs → AllTrue bs
all_true bs e = none_false bs (position_none not bs (none_none (position not bs) e))

long : (bs : List Bool) → AllTrue bs → position_or_len not bs ≡ length bs
long [] e = refl
long (true ∷ bs) e = let rest = long bs e in let more : 1 + position_or_len not bs ≡ suc (length bs) = omega (arith, rest) in more
long (false ∷ bs) e = absurd (false≢true e)

pub unbroken : (bs : List Bool) → AllTrue bs → Unbroken bs
unbroken bs e = grind (arith, le-ltb, long)

-- ---- halves

module _ (window : ℕ) (m : Machine) where
  abbrev Halves : Event → Type 0
  Halves e = (is_legal_on_places m.places e ≡ true) × (is_legal_for_feeder window m.feeder e ≡ true)

  one : (b : Bool) → AllTrue (b ∷ []) → b ≡ true
  one b e = (and_parts b true e).0

  one_from : (b : Bool) → b ≡ true → AllTrue (b ∷ [])
  one_from b e = and_from b true e refl

  pub halves : (e : Event) → AllTrue (conditions window m e) → Halves e
  halves o e = grind (arith, one)

  pub whole : (e : Event) → Halves e → AllTrue (conditions window m e)
  whole o h = grind (arith, one_from)

  pub legal_halves : (e : Event) → IsLegal window m e → Halves e
  legal_halves e legal = halves e (all_true (conditions window m e) legal)

  pub halves_legal : (e : Event) → Halves e → IsLegal window m e
  halves_legal e h = unbroken (conditions window m e) (whole e h)
