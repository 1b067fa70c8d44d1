-- The first field that waits is the last picture that was released, and sound.
use Rattle.std.proofs.Common.{◌≡◌, ℕ, ◌%◌, Bool, true, refl, ap}
use Rattle.std.proofs.Common.{List, [], ◌∷◌, Option, Some, arith}
use Rattle.std.specs.Prelude.{◌==◌, ◌||◌, fold}
use Rattle.std.proofs.lemmas.Bool.{eq-eqb, or_right}
use Rattle.machine_model.specs.Feeders.{is_among}
use Rattle.link_model.specs.Numbers.{Numbered}
use Rattle.link_model.specs.Output.{planes_at}
use Rattle.vc_types.specs.Planes.{Planes}
use Rattle.vc_types.specs.SequenceHeader.{Sequence}
use Rattle.receiver_model.specs.Receptions.{FirstField}
use Rattle.receiver_model.specs.Releasing.{field_behind}
use Rattle.receiver_model.specs.Standing.{Fields, next_field, fields_behind}

pub record IsFirst (s : Sequence) (n : ℕ) (planes : Option Planes) (w : FirstField) : Type 0 where
  pub fields : s.fields ≡ true
  pub even : (n % 2 == 0) ≡ true
  pub number : w.number ≡ n
  pub planes_are : planes ≡ Some w.planes

pub first_is : (s : Sequence) (n : ℕ) (planes : Option Planes) (w : FirstField)
    → field_behind s n planes ≡ Some w → IsFirst s n planes w
first_is s n planes w is = grind arith

module _ (s : Sequence) (es : List Numbered) (w : FirstField) where
  -- it is one of those that were released
  abbrev pub IsOneOf : List ℕ → Type 0
  IsOneOf all = (n : ℕ) × (is_among all n ≡ true) × IsFirst s n (planes_at s es n) w

  waits_from : (all l : List ℕ) (fields : Fields) → (fields.waiting ≡ Some w → IsOneOf all)
      → ((n : ℕ) → is_among l n ≡ true → is_among all n ≡ true)
      → (fold (next_field s es) fields l).waiting ≡ Some w → IsOneOf all
  waits_from all [] fields before inside is = before is
  waits_from all (n ∷ l) fields before inside is =
      waits_from all l (next_field s es fields n)
      (λ waits. (
        n,
        inside n (ap (λ (b : Bool). b || is_among l n) (eq-eqb n n refl)),
        first_is s n (planes_at s es n) w waits,
      ))
      (λ m there. inside m (or_right (n == m) _ there)) is

  pub waiting_is : (released : List ℕ) → (fields_behind s es released).waiting ≡ Some w
      → IsOneOf released
  waiting_is released is = grind (arith, waits_from)
