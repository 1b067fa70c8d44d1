-- Places that are below a bound stay there.
use Rattle.std.proofs.Common.{◌≡◌, ℕ, zero, suc, ◌+◌, ◌<◌, Bool, true, false, cond, List, [], ◌∷◌, ◌++◌, length, get_or, take, refl, ap, subst, sym, ◌∙◌, append-nil, arith}
use Rattle.std.proofs.lemmas.List.{map-append}
use Rattle.std.proofs.lemmas.List.Elements.{filter_more}
use Rattle.std.specs.Prelude.{filter, map, not}
use Rattle.receiver_model.specs.Receptions.{RunOut}
use Rattle.receiver_model.specs.Releasing.{is_of_other}
use Rattle.link_slices.specs.Calls.{PlacesAreBelow, places_of_picture}

pub below_push : (bound : ℕ) (out : List RunOut) (slice : RunOut) → PlacesAreBelow bound out
    → slice.place < bound → PlacesAreBelow bound (out ++ slice ∷ [])
below_push bound [] slice h s = (s, tt)
below_push bound (x ∷ out) slice h s = (h.0, below_push bound out slice h.1 s)

pub below_filter : (bound : ℕ) (p : RunOut → Bool) (out : List RunOut) → PlacesAreBelow bound out
    → PlacesAreBelow bound (filter p out)
below_filter bound p [] h = tt
below_filter bound p (x ∷ out) h = by_test (p x) (below_filter bound p out h.1)
  where
    by_test : (b : Bool) → PlacesAreBelow bound (filter p out)
        → PlacesAreBelow bound (cond b (x ∷ filter p out) (filter p out))
    by_test true rest = (h.0, rest)
    by_test false rest = rest

pub below_at : (bound : ℕ) (out : List RunOut) (i : ℕ) (d : RunOut) → PlacesAreBelow bound out
    → i < length out → (get_or out i d).place < bound
below_at bound [] i d h l = absurd (omega arith)
below_at bound (x ∷ out) zero d h l = h.0
below_at bound (x ∷ out) (suc i) d h l = below_at bound out i d h.1 (omega arith)

-- ---- the places of a picture, at one slice more

module _ (n : ℕ) (out : List RunOut) (i : ℕ) (x : RunOut) (inside : i < length out)
    (is : x ≡ get_or out i x) where
  one_more : filter (λ slice. not (is_of_other n slice)) (take (i + 1) out)
      ≡ filter (λ slice. not (is_of_other n slice)) (take i out)
      ++ cond (not (is_of_other n x)) (x ∷ []) []
  one_more = subst (λ (y : RunOut). filter (λ slice. not (is_of_other n slice)) (take (i + 1) out)
      ≡ filter (λ slice. not (is_of_other n slice)) (take i out)
      ++ cond (not (is_of_other n y)) (y ∷ []) [])
      (sym is) (filter_more (λ slice. not (is_of_other n slice)) out i x inside)

  pub places_same : is_of_other n x ≡ true
      → places_of_picture n (take (i + 1) out) ≡ places_of_picture n (take i out)
  places_same other = ap (map (λ (slice : RunOut). slice.place))
      (one_more ∙ rw other (append-nil (filter (λ slice. not (is_of_other n slice)) (take i out))))

  pub places_more : is_of_other n x ≡ false
      → places_of_picture n (take (i + 1) out) ≡ places_of_picture n (take i out) ++ x.place ∷ []
  places_more own = ap (map (λ (slice : RunOut). slice.place)) (one_more ∙ rw own refl)
      ∙ map-append (λ (slice : RunOut). slice.place)
      (filter (λ slice. not (is_of_other n slice)) (take i out)) (x ∷ [])
