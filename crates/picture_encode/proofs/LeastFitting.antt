-- The least index at which a slice fits, by the lengths at the indices.
use Rattle.std.proofs.Common.{◌≡◌, ℕ, zero, suc, ◌+◌, ◌-◌, ◌<◌, ◌≤◌, Bool, true, false, cond, List, [], ◌∷◌, length, map, refl, sym, ap, ◌∙◌, arith, inl, inr}
use Rattle.std.specs.Prelude.{nat_le, min}
use Rattle.std.specs.List.{position_or_len, range_with_len}
use Rattle.std.proofs.lemmas.Bool.{cases_lt, le-leb, lt-leb}
use Rattle.std.proofs.lemmas.List.Recursion.{is_position_or_len}
use Rattle.link_model.specs.SendingPictures.{least_fitting}

module _ (f : ℕ → ℕ) (bytes : ℕ) where
  -- the place by recursion
  place : List ℕ → ℕ
  place [] = 0
  place (x ∷ xs) = cond (nat_le x bytes) 0 (1 + place xs)

  place_is : (xs : List ℕ) → place xs ≡ position_or_len (λ len. nat_le len bytes) xs
  unfolding place
  place_is xs = is_position_or_len place (λ len. nat_le len bytes) refl (λ y ys. refl) xs

  -- none of the first fits, and the next does
  at : (n first k : ℕ) → k < n → ((q : ℕ) → first ≤ q → q < first + k → bytes < f q) → f (first + k) ≤ bytes → place (map f (range_with_len first n)) ≡ k
  unfolding place
  at zero first k lt none fits = absurd (omega arith)
  at (suc n) first zero lt none fits =
      let same : first + 0 ≡ first = omega arith in
      rw (le-leb (f first) bytes (rw same at fits)) refl
  at (suc n) first (suc k) lt none fits =
      let over = none first (omega arith) (omega arith) in
      let next : first + suc k ≡ first + 1 + k = omega arith in
      let rest = at n (first + 1) k (omega arith) (λ q from to. none q (omega (arith, from)) (omega (arith, to))) (rw next at fits) in
      rw (lt-leb (f first) bytes over) (omega (arith, rest))

  -- none of the first fits
  past : (n first k : ℕ) → k ≤ n → ((q : ℕ) → first ≤ q → q < first + k → bytes < f q) → k ≤ place (map f (range_with_len first n))
  unfolding place
  past n first zero le none = omega arith
  past zero first (suc k) le none = absurd (omega arith)
  past (suc n) first (suc k) le none =
      let over = none first (omega arith) (omega arith) in
      let rest = past n (first + 1) k (omega arith) (λ q from to. none q (omega (arith, from)) (omega (arith, to))) in
      rw (lt-leb (f first) bytes over) (omega (arith, rest))

  -- the least that fits, or 127
  pub least_is : (last : ℕ) → last ≤ 127 → ((q : ℕ) → q < last → bytes < f q) → (last < 127 → f last ≤ bytes) → last ≡ least_fitting bytes (map f (range_with_len 0 128))
  unfolding least_fitting
  least_is last few none fits =
      let own = place_is (map f (range_with_len 0 128)) in
      elim (cases_lt last 127) [
        | inl lt ↦
            let same : 0 + last ≡ last = omega arith in
            omega (arith, own, at 128 0 last (omega arith) (λ q from to. none q (omega (arith, to))) (rw same (fits lt)))
        | inr le ↦ omega (arith, own, few, past 128 0 last (omega arith) (λ q from to. none q (omega (arith, to))))
      ]

  -- none of the indices before the first fits, and the last fits or is 127
  pub record IsBracket (first last : ℕ) : Type 0 where
    pub ordered : first ≤ last
    pub few : last ≤ 127
    pub before : (q : ℕ) → q < first → bytes < f q
    pub fits : last < 127 → f last ≤ bytes

  pub all_indices : IsBracket 0 127
  all_indices = record { ordered = omega arith; few = omega arith; before = λ q lt. absurd (omega arith); fits = λ lt. absurd (omega arith) }

  -- one of them fits
  pub lower : (first last index : ℕ) → IsBracket first last → first ≤ index → index < last → f index ≤ bytes → IsBracket first index
  lower first last index is from to fits = record { ordered = from; few = omega (arith, to, is.few); before = is.before; fits = λ lt. fits }

  -- or not, and then no index before it does
  pub upper : (first last index : ℕ) → ((q r : ℕ) → q ≤ r → r ≤ 127 → f r ≤ f q) → IsBracket first last → first ≤ index → index < last → bytes < f index → IsBracket (index + 1) last
  upper first last index falls is from to over = record { ordered = omega (arith, to); few = is.few; before = λ q lt. omega (arith, over, falls q index (omega (arith, lt)) (omega (arith, to, is.few))); fits = is.fits }

  -- one index is left
  pub one_left : (first last : ℕ) → IsBracket first last → last ≤ first → last ≡ least_fitting bytes (map f (range_with_len 0 128))
  one_left first last is le = least_is last is.few (λ q lt. is.before q (omega (arith, lt, le, is.ordered))) is.fits
