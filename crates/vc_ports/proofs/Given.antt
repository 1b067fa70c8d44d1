-- What a source gave, one piece after another.
use Rattle.std.proofs.Common.{◌≡◌, ℕ, ◌+◌, List, [], ◌++◌, length, take, subst, Option, Some, None, IsSomeAnd, refl, ap, sym, ◌∙◌, append_assoc}
use Rattle.std.specs.Option.{option_map}
use Rattle.std.proofs.Math.Seq.{take-append-add}
use Rattle.vc_ports.specs.Reading.{Gave, GaveAll}

pub some_is : {A : Type 0} (x y : A) → Some x ≡ Some y → x ≡ y
some_is x y p = cc

-- what is said of all that was left is said of what was given and what is left now
pub behind_given : (P : List ℕ → Type 0) (given : List ℕ) (before after : Option (List ℕ)) → Gave before after given
    → IsSomeAnd before P → (more : List ℕ) × (after ≡ Some more) × P (given ++ more)
behind_given P given None after took whole = absurd whole
behind_given P given (Some bytes) None took whole = let none : Some bytes ≡ None = took in absurd cc
behind_given P given (Some bytes) (Some more) took whole = (more, refl, subst P (some_is bytes (given ++ more) took) whole)

-- nothing was given where what is left stays
pub Gave-none : (before : Option (List ℕ)) → Gave before before []
Gave-none None = refl
Gave-none (Some left) = refl

-- a piece, and a piece after it
pub Gave-then : (before mid after : Option (List ℕ)) (first second : List ℕ) → Gave before mid first → Gave mid after second → Gave before after (first ++ second)
Gave-then before mid None first second p q = p ∙ ap (option_map (λ (rest : List ℕ). first ++ rest)) q
Gave-then before mid (Some rest) first second p q = p ∙ ap (option_map (λ (left : List ℕ). first ++ left)) q ∙ ap Some (sym (append_assoc first second rest))

-- a piece, and then all that was left
pub GaveAll-then : (before mid after : Option (List ℕ)) (first second : List ℕ) → Gave before mid first → GaveAll mid after second → GaveAll before after (first ++ second)
GaveAll-then before mid after first second p all = record {
  gave = Gave-then before mid after first second p all.gave;
  at_end = all.at_end;
}

-- a buffer whose front was given before, and the next bytes behind it
pub Gave-next : (at count : ℕ) (front back : List ℕ) (before mid after : Option (List ℕ)) → length front ≡ at → Gave before mid front → Gave mid after (take count back) → Gave before after (take (at + count) (front ++ back))
Gave-next at count front back before mid after len p q = subst (λ (n : ℕ). Gave before after (take (n + count) (front ++ back))) len (rw take-append-add (Gave-then before mid after front (take count back) p q))
