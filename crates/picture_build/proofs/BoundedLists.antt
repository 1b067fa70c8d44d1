-- Signed numbers that are read one after another in a block.
use Rattle.std.proofs.Common.{◌≡◌, ℕ, zero, suc, ◌+◌, ℤ, pos, Bool, true, List, [], ◌∷◌, ◌++◌, length, replicate, refl, ap, ◌∙◌, append_assoc, zero-add, suc-add}
use Rattle.std.specs.List.{flat_map}
use Rattle.std.proofs.lemmas.List.Concat.{flat_map-cons}
use Rattle.vc_types.specs.Codes.{sint_bits}
use Rattle.vc_types.specs.Bounded.{bounded_uint_after, bounded_uint, bounded_sint, bounded_sints}
use Rattle.vc_types.proofs.BoundedCodes.{bounded_sint-sint_bits}

-- whole codes, one after another, are read as their numbers, whatever follows them
pub bounded_sints-written : (vs : List ℤ) (n : ℕ) (rest : List Bool) → bounded_sints (length vs + n) (flat_map sint_bits vs ++ rest) ≡ vs ++ bounded_sints n rest
unfolding bounded_sints
bounded_sints-written [] n rest = rw zero-add refl
bounded_sints-written (v ∷ vs) n rest =
    let read : bounded_sint (flat_map sint_bits (v ∷ vs) ++ rest) ≡ (v, flat_map sint_bits vs ++ rest) = ap (λ (bits : List Bool). bounded_sint (bits ++ rest)) (flat_map-cons sint_bits v vs) ∙ ap bounded_sint (append_assoc (sint_bits v) (flat_map sint_bits vs) rest) ∙ bounded_sint-sint_bits v (flat_map sint_bits vs ++ rest) in
    ap (λ (k : ℕ). bounded_sints k (flat_map sint_bits (v ∷ vs) ++ rest)) (suc-add (length vs) n)
    ∙ ap (λ (x : ℤ × List Bool). x.0 ∷ bounded_sints (length vs + n) x.1) read
    ∙ ap (λ (ws : List ℤ). v ∷ ws) (bounded_sints-written vs n rest)

-- ones are zeros
pub bounded_sints-ones : (n m : ℕ) → bounded_sints n (replicate m true) ≡ replicate n (pos 0)
unfolding bounded_sints bounded_sint bounded_uint bounded_uint_after
bounded_sints-ones zero m = refl
bounded_sints-ones (suc n) zero = ap (λ (vs : List ℤ). pos 0 ∷ vs) (bounded_sints-ones n zero)
bounded_sints-ones (suc n) (suc m) = ap (λ (vs : List ℤ). pos 0 ∷ vs) (bounded_sints-ones n m)
