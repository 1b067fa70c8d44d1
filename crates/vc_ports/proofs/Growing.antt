-- What went out to a sink, one piece after another.
use Rattle.std.proofs.Common.{ℕ, ◌+◌, List, [], ◌++◌, length, take, drop, Option, Some, None, ap, sym, ◌∙◌, append_assoc, arith, refl}
use Rattle.std.specs.Option.{option_map}
use Rattle.std.proofs.Math.Seq.{take-add, take-append-add, take-length}
use Rattle.std.proofs.lemmas.List.{append-nil, length-append, take-append-le}
use Rattle.vc_ports.specs.Writing.{Grew, GrewBySome}

-- nothing went out where what is held stays
pub Grew-none : (before : Option (List ℕ)) → Grew before before []
Grew-none None = refl
Grew-none (Some held) = ap Some (sym (append-nil held))

-- a piece behind those that went out before
pub Grew-then : (before mid after : Option (List ℕ)) (first second : List ℕ) → Grew before mid first → Grew mid after second → Grew before after (first ++ second)
Grew-then None mid after first second p q = q ∙ ap (option_map (λ (held : List ℕ). held ++ second)) p
Grew-then (Some held) mid after first second p q = q ∙ ap (option_map (λ (held : List ℕ). held ++ second)) p ∙ ap Some (append_assoc held first second)

-- the next part of some bytes
pub Grew-more : (at count : ℕ) (bytes : List ℕ) (before mid after : Option (List ℕ)) → Grew before mid (take at bytes) → Grew mid after (take count (drop at bytes)) → Grew before after (take (at + count) bytes)
Grew-more at count bytes before mid after p q = rw take-add (Grew-then before mid after (take at bytes) (take count (drop at bytes)) p q)

-- a whole piece, and then a prefix of the next
pub GrewBySome-then : (before mid after : Option (List ℕ)) (first second : List ℕ) → Grew before mid first → GrewBySome mid after second → GrewBySome before after (first ++ second)
GrewBySome-then before mid after first second p some = record {
  count = length first + some.count;
  within = rw length-append (omega (arith, some.within));
  grew = rw take-append-add (Grew-then before mid after first (take some.count second) p some.grew);
}

-- a prefix of the first piece is one of both
pub GrewBySome-front : (before after : Option (List ℕ)) (first second : List ℕ) → GrewBySome before after first → GrewBySome before after (first ++ second)
GrewBySome-front before after first second some = record {
  count = some.count;
  within = rw length-append (omega (arith, some.within));
  grew = rw (take-append-le some.count first second some.within) some.grew;
}

-- all of the bytes are some of them
pub GrewBySome-all : (before after : Option (List ℕ)) (bytes : List ℕ) → Grew before after bytes → GrewBySome before after bytes
GrewBySome-all before after bytes grew = record {
  count = length bytes;
  within = omega arith;
  grew = rw take-length grew;
}

-- nothing is a prefix of any bytes
pub GrewBySome-none : (held : Option (List ℕ)) (bytes : List ℕ) → GrewBySome held held bytes
GrewBySome-none held bytes = record { count = 0; within = omega arith; grew = Grew-none held }
