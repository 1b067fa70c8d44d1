-- The next of the datagrams that come.
use Rattle.std.proofs.Common.{◌≡◌, ℕ, MatchOption, zero, suc, ◌+◌, ◌-◌, ◌≤◌, List, [], ◌∷◌, ◌++◌, Option, Some, None, length, take, drop, slice_get, refl, sym, ap, subst, ◌∙◌, arith}
use Rattle.std.proofs.lemmas.List.{drop-drop}
use Rattle.std.proofs.lemmas.Option.{get_or_from_slice_get, slice_get_within}
use Rattle.std.proofs.Math.Seq.{take-add}
use native.Mathlib.Numerals.{unary_clauses}
use Rattle.vc_ports.proofs.Given.{some_is}
use Rattle.vc_ports.specs.MemoryWires.{AreDatagrams, asked_of}
use Rattle.vc_ports.specs.declared.wire_counts.WireCounts.{WireCounts}

none_is_some : {A : Type 0} (x : A) → None ≡ Some x → ⊥
none_is_some x p = cc

pub front_at : (all : List (List ℕ)) (at : ℕ) (one : List ℕ) → slice_get all at ≡ Some one → take 1 (drop at all) ≡ one ∷ []
front_at [] at one p = absurd (none_is_some one p)
front_at (x ∷ xs) zero one p = ap (λ (y : List ℕ). y ∷ []) (some_is x one p)
front_at (x ∷ xs) (suc at) one p = front_at xs at one p

pub none_at : (all : List (List ℕ)) (at : ℕ) → slice_get all at ≡ None → drop at all ≡ []
none_at [] zero p = refl
none_at [] (suc at) p = refl
none_at (x ∷ xs) zero p = absurd (none_is_some x (sym p))
none_at (x ∷ xs) (suc at) p = none_at xs at p

pub is_datagram : (all : List (List ℕ)) (at : ℕ) (one : List ℕ) → AreDatagrams all → slice_get all at ≡ Some one → length one ≤ 65535
is_datagram all at one are p = subst (λ (d : List ℕ). length d ≤ 65535) (get_or_from_slice_get all at one [] p) (are at [] (slice_get_within all at one p))

pub in_front : (front back : List (List ℕ)) (at : ℕ) (one : List ℕ) → slice_get front at ≡ Some one → slice_get (front ++ back) at ≡ Some one
in_front [] back at one p = absurd (none_is_some one p)
in_front (x ∷ front) back zero one p = p
in_front (x ∷ front) back (suc at) one p = in_front front back at one p

pub behind_front : (front back : List (List ℕ)) (at : ℕ) → slice_get front at ≡ None → slice_get (front ++ back) at ≡ slice_get back (at - length front)
behind_front [] back at p = simp unary_clauses refl
behind_front (x ∷ front) back zero p = absurd (none_is_some x (sym p))
behind_front (x ∷ front) back (suc at) p = behind_front front back at p ∙ ap (slice_get back) (omega arith)

-- no end is said where one comes
pub no_end : (coming : List (List ℕ)) (one : List ℕ) (counts : WireCounts) → take 1 coming ≡ one ∷ [] → asked_of coming counts ≡ counts
no_end [] one counts p = let none : [] ≡ one ∷ [] = p in absurd cc
no_end (x ∷ xs) one counts p = refl

-- one more was given
pub one_gone : (at : ℕ) (all : List (List ℕ)) → drop (at + 1) all ≡ drop 1 (drop at all)
one_gone at all = sym (drop-drop 1 at all)

pub one_given : (at : ℕ) (all : List (List ℕ)) → take (at + 1) all ≡ take at all ++ take 1 (drop at all)
one_given at all = rw take-add refl

-- the next one, where it was looked for at its place
pub next_of : {X : Type 0} (now : X → List ℕ) (r : Option X) (all : List (List ℕ)) (at : ℕ) → AreDatagrams all → MatchOption r (slice_get all at ≡ None) (λ x. slice_get all at ≡ Some (now x)) → MatchOption r (drop at all ≡ []) (λ x. (take 1 (drop at all) ≡ now x ∷ []) × (length (now x) ≤ 65535))
next_of now None all at are p = none_at all at p
next_of now (Some x) all at are p = (front_at all at (now x) p, is_datagram all at (now x) are p)

-- the next one behind those of the wire's own
pub next_behind : {X : Type 0} (now : X → List ℕ) (r : Option X) (front back : List (List ℕ)) (at : ℕ) → AreDatagrams back → slice_get front at ≡ None → MatchOption r (slice_get back (at - length front) ≡ None) (λ x. slice_get back (at - length front) ≡ Some (now x)) → MatchOption r (drop at (front ++ back) ≡ []) (λ x. (take 1 (drop at (front ++ back)) ≡ now x ∷ []) × (length (now x) ≤ 65535))
next_behind now None front back at are none p = none_at (front ++ back) at (behind_front front back at none ∙ p)
next_behind now (Some x) front back at are none p = (front_at (front ++ back) at (now x) (behind_front front back at none ∙ p), is_datagram back (at - length front) (now x) are p)
