-- Lists joined over a range of numbers: what is outside a longer range, and where one such list begins another.
use Rattle.std.proofs.Common.{◌≡◌, ℕ, zero, suc, ◌+◌, ◌-◌, ◌<◌, ◌≤◌, Bool, true, List, [], ◌∷◌, ◌++◌, refl, ap, sym, ◌∙◌, inl, inr, arith, cond, ◌⊎◌, filter, append_assoc, append-nil}
use Rattle.std.specs.List.{flat_map, range_with_len}
use Rattle.std.proofs.lemmas.Bool.{cases_Bool, both_ways, false_from_ne_true, cond-true, cond-false}
use Rattle.std.proofs.lemmas.List.Concat.{flat_map-append}
use Rattle.link_model.specs.Output.{IsPrefixOf}

pub filter_is : {X : Type 0} (p : X → Bool) (xs : List X) → filter p xs ≡ flat_map (λ x. cond (p x) (x ∷ []) []) xs
filter_is p [] = refl
filter_is {X = X} p (x ∷ xs) = grind (arith, filter_is p xs)

pub flat_map-filter : {X A : Type 0} (g : X → List A) (p : X → Bool) (xs : List X) → flat_map g (filter p xs) ≡ flat_map (λ x. cond (p x) (g x) []) xs
flat_map-filter g p [] = refl
flat_map-filter {A = A} g p (x ∷ xs) = grind (arith, flat_map-filter g p xs)

pub same_pieces : {X A : Type 0} (g h : X → List A) → ((n : X) → g n ≡ h n) → (xs : List X)
    → flat_map g xs ≡ flat_map h xs
same_pieces g h same [] = refl
same_pieces {A = A} g h same (x ∷ xs) =
    ap (λ (l : List A). l ++ flat_map g xs) (same x) ∙ ap (λ (l : List A). h x ++ l) (same_pieces g h same xs)

pub range_step : (i n : ℕ) → i < n → range_with_len i (n - i) ≡ i ∷ range_with_len (i + 1) (n - (i + 1))
range_step i n less = let same : n - i ≡ suc (n - (i + 1)) = omega (arith, less) in ap (range_with_len i) same

range-append : (a m n : ℕ) → range_with_len a (m + n) ≡ range_with_len a m ++ range_with_len (a + m) n
range-append a zero n = grind arith
range-append a (suc m) n =
    let one : suc m + n ≡ suc (m + n) = omega arith in
    let next : a + 1 + m ≡ a + suc m = omega arith in
    ap (λ k. range_with_len a k) one
    ∙ ap (λ (l : List ℕ). a ∷ l) (range-append (a + 1) m n ∙ ap (λ k. range_with_len (a + 1) m ++ range_with_len k n) next)

module _ (piece : ℕ → List ℕ) where
  pub nothing_in : (a n : ℕ) → ((k : ℕ) → a ≤ k → k < a + n → piece k ≡ []) → flat_map piece (range_with_len a n) ≡ []
  nothing_in a zero each = refl
  nothing_in a (suc n) each = ap (λ (l : List ℕ). l ++ flat_map piece (range_with_len (a + 1) n)) (each a (omega arith) (omega arith)) ∙ nothing_in (a + 1) n (λ k above below. each k (omega arith) (omega arith))

  -- a longer range, outside of which there is nothing
  pub in_longer : (a n rest : ℕ) → ((k : ℕ) → (k < a) ⊎ (a + n ≤ k) → piece k ≡ []) → flat_map piece (range_with_len a n) ≡ flat_map piece (range_with_len 0 (a + n + rest))
  in_longer a n rest outside = grind (arith, append-nil, flat_map-append, nothing_in, range-append)

-- pieces up to a place, and further pieces
module _ (open_now open_later : ℕ → Bool) (now later : ℕ → List ℕ)
    (down : (f g : ℕ) → f ≤ g → open_now g ≡ true → open_now f ≡ true)
    (stays : (f : ℕ) → open_now f ≡ true → open_later f ≡ true)
    (same : (f : ℕ) → open_now f ≡ true → now f ≡ later f) where
  abbrev pub piece_now : ℕ → List ℕ
  piece_now f = cond (open_now f) (now f) []

  abbrev pub piece_later : ℕ → List ℕ
  piece_later f = cond (open_later f) (later f) []

  pub prefix_over : (a n : ℕ) → IsPrefixOf (flat_map piece_now (range_with_len a n)) (flat_map piece_later (range_with_len a n))
  prefix_over a zero = ([], refl)
  prefix_over a (suc n) = elim (cases_Bool (open_now a)) [
    | inl passes ↦ (let rest = prefix_over (a + 1) n in (
      rest.0,
      ap (λ (l : List ℕ). l ++ flat_map piece_later (range_with_len (a + 1) n)) (cond-true (open_later a) (later a) [] (stays a passes))
          ∙ ap (λ (l : List ℕ). later a ++ l) rest.1
          ∙ sym (append_assoc (later a) (flat_map piece_now (range_with_len (a + 1) n)) rest.0)
          ∙ ap (λ (l : List ℕ). l ++ flat_map piece_now (range_with_len (a + 1) n) ++ rest.0) (sym (same a passes) ∙ sym (cond-true (open_now a) (now a) [] passes)),
    ))
    | inr fails ↦ (
      flat_map piece_later (range_with_len a (suc n)),
      ap (λ (l : List ℕ). l ++ flat_map piece_later (range_with_len a (suc n)))
          (sym (nothing_in piece_now a (suc n) (λ k above below. cond-false (open_now k) (now k) [] (false_from_ne_true (open_now k) (λ later_passes. both_ways (open_now a) fails (down a k above later_passes)))))),
    )
  ]
