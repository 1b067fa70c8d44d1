-- Numbers in rising order: what holds of each, which of them are in a list, and what a list begins
-- with.
use Rattle.std.proofs.Common.{◌≡◌, ℕ, zero, suc, ◌+◌, ◌<◌, ◌≤◌, Bool, true, false, cond, List}
use Rattle.std.proofs.Common.{[], ◌∷◌, ◌++◌, refl, ap, subst, ◌∙◌, eq-eqb, arith}
use Rattle.std.specs.Prelude.{◌||◌, not, filter}
use Rattle.std.specs.List.{flat_map, range_with_len}
use Rattle.std.proofs.lemmas.Bool.{false≢true}
use Rattle.std.proofs.lemmas.List.{append_assoc}
use Rattle.std.proofs.lemmas.List.Elements.{filter-append}
use Rattle.machine_model.specs.Feeders.{is_among, not_released}

-- P holds of each of them
abbrev pub Each : (ℕ → Type 0) → List ℕ → Type 0
Each P [] = Unit {0}
Each P (x ∷ xs) = P x × Each P xs

abbrev pub IsRising : List ℕ → Type 0
IsRising [] = Unit {0}
IsRising (x ∷ xs) = Each (λ y. x < y) xs × IsRising xs

pub each_map : {P Q : ℕ → Type 0} → ((n : ℕ) → P n → Q n) → (xs : List ℕ) → Each P xs → Each Q xs
each_map f [] all = tt
each_map f (x ∷ xs) all = (f x all.0, each_map f xs all.1)

pub each_append : (P : ℕ → Type 0) (xs ys : List ℕ) → Each P xs → Each P ys → Each P (xs ++ ys)
each_append P [] ys a b = b
each_append P (x ∷ xs) ys a b = (a.0, each_append P xs ys a.1 b)

pub each_front : (P : ℕ → Type 0) (xs ys : List ℕ) → Each P (xs ++ ys) → Each P xs
each_front P [] ys all = tt
each_front P (x ∷ xs) ys all = (all.0, each_front P xs ys all.1)

pub each_back : (P : ℕ → Type 0) (xs ys : List ℕ) → Each P (xs ++ ys) → Each P ys
each_back P [] ys all = all
each_back P (x ∷ xs) ys all = each_back P xs ys all.1

-- ---- filters

pub each_passes : (p : ℕ → Bool) (xs : List ℕ) → Each (λ n. p n ≡ true) (filter p xs)
each_passes p [] = tt
each_passes p (x ∷ xs) = grind (arith, each_passes p xs)

pub each_filter : (P : ℕ → Type 0) (p : ℕ → Bool) (xs : List ℕ) → Each P xs → Each P (filter p xs)
each_filter P p [] all = tt
each_filter P p (x ∷ xs) all = grind (arith, each_filter P p xs all.1)

pub filter_rising : (p : ℕ → Bool) (xs : List ℕ) → IsRising xs → IsRising (filter p xs)
filter_rising p [] rising = tt
filter_rising p (x ∷ xs) rising = grind (arith, each_filter, filter_rising p xs rising.1)

-- ---- ranges

pub range_above : (a b n : ℕ) → b < a → Each (λ y. b < y) (range_with_len a n)
range_above a b zero h = tt
range_above a b (suc n) h = (h, range_above (a + 1) b n (omega (arith, h)))

pub range_rising : (a n : ℕ) → IsRising (range_with_len a n)
range_rising a zero = tt
range_rising a (suc n) = (range_above (a + 1) a n (omega arith), range_rising (a + 1) n)

-- ---- lists one after the other

pub append_rising : (bound : ℕ) (xs ys : List ℕ) → IsRising xs → IsRising ys → Each (λ x. x ≤ bound) xs → Each (λ y. bound < y) ys → IsRising (xs ++ ys)
append_rising bound [] ys a b below above = b
append_rising bound (x ∷ xs) ys a b below above =
    (each_append (λ y. x < y) xs ys a.0 (each_map (λ n h. (let low = below.0 in omega (arith, h, low))) ys above), append_rising bound xs ys a.1 b below.1 above)

-- ---- which are in a list

pub among_each : (P : ℕ → Type 0) (xs : List ℕ) (n : ℕ) → Each P xs → is_among xs n ≡ true → P n
among_each P [] n all e = absurd (false≢true e)
among_each P (x ∷ xs) n all e = grind (arith, among_each P xs n all.1)

pub among_range : (a len n : ℕ) → a ≤ n → n < a + len → is_among (range_with_len a len) n ≡ true
among_range a zero n low high = absurd (omega (arith, low, high))
among_range a (suc len) n low high = grind (arith, among_range (a + 1) len n)

pub among_filter : (p : ℕ → Bool) (xs : List ℕ) (n : ℕ) → p n ≡ true → is_among xs n ≡ true → is_among (filter p xs) n ≡ true
among_filter p [] n passes e = e
among_filter p (x ∷ xs) n passes e = grind (arith, among_filter p xs n passes)

pub among_front : (xs ys : List ℕ) (n : ℕ) → is_among xs n ≡ true → is_among (xs ++ ys) n ≡ true
among_front [] ys n e = absurd (false≢true e)
among_front (x ∷ xs) ys n e = grind (arith, among_front xs ys n)

pub among_back : (xs ys : List ℕ) (n : ℕ) → is_among ys n ≡ true → is_among (xs ++ ys) n ≡ true
among_back [] ys n e = e
among_back (x ∷ xs) ys n e = grind (arith, among_back xs ys n e)

-- what isn't after a number of a rising list, and is in the list, is before it
pub among_before : (front rest : List ℕ) (n k : ℕ) → IsRising (front ++ n ∷ rest) → k < n → is_among (front ++ n ∷ rest) k ≡ true → is_among front k ≡ true
among_before [] rest n k rising less e = grind (arith, among_each)
among_before (x ∷ front) rest n k rising less e =
    grind (arith, among_before front rest n k rising.1 less)

-- ---- what is left of a rising list without its front

above_front : (xs : List ℕ) (n : ℕ) → Each (λ x. x < n) xs → is_among xs n ≡ false
above_front [] n below = refl
above_front (x ∷ xs) n below = grind (arith, above_front xs n below.1)

below_rest : (xs ys : List ℕ) → IsRising (xs ++ ys) → Each (λ n. Each (λ x. x < n) xs) ys
below_rest [] ys rising = trivial ys
  where
    trivial : (ys : List ℕ) → Each (λ n. Each (λ x. x < n) []) ys
    trivial [] = tt
    trivial (y ∷ ys) = (tt, trivial ys)
below_rest (x ∷ xs) ys rising = both ys (each_back (λ y. x < y) xs ys rising.0) (below_rest xs ys rising.1)
  where
    both : (ys : List ℕ) → Each (λ y. x < y) ys → Each (λ n. Each (λ x. x < n) xs) ys → Each (λ n. Each (λ z. z < n) (x ∷ xs)) ys
    both [] a b = tt
    both (y ∷ ys) a b = ((a.0, b.0), both ys a.1 b.1)

nothing_passes : (released xs : List ℕ) → Each (λ n. is_among released n ≡ true) xs → not_released released xs ≡ []
nothing_passes released [] all = refl
nothing_passes released (x ∷ xs) all = ap (λ (b : Bool). cond (not b) (x ∷ not_released released xs) (not_released released xs)) all.0 ∙ nothing_passes released xs all.1

all_pass : (released xs : List ℕ) → Each (λ n. is_among released n ≡ false) xs → not_released released xs ≡ xs
all_pass released [] all = refl
all_pass released (x ∷ xs) all = ap (λ (b : Bool). cond (not b) (x ∷ not_released released xs) (not_released released xs)) all.0 ∙ ap (λ (l : List ℕ). x ∷ l) (all_pass released xs all.1)

each_among : (front xs : List ℕ) → Each (λ n. is_among (front ++ xs) n ≡ true) xs
each_among front [] = tt
each_among front (x ∷ xs) = (
  among_back front (x ∷ xs) x (ap (λ (b : Bool). b || is_among xs x) (eq-eqb x x refl)),
  subst (λ (l : List ℕ). Each (λ n. is_among l n ≡ true) xs) (append_assoc front (x ∷ []) xs) (each_among (front ++ x ∷ []) xs),
)

-- what isn't among the first is what follows them
pub not_released_is : (released rest : List ℕ) → IsRising (released ++ rest) → not_released released (released ++ rest) ≡ rest
not_released_is released rest rising =
    filter-append (λ n. not (is_among released n)) released rest
    ∙ ap (λ (l : List ℕ). l ++ not_released released rest) (nothing_passes released released (each_among [] released))
    ∙ all_pass released rest (each_map (λ n below. above_front released n below) rest (below_rest released rest rising))

-- ---- pieces that are the same where it matters

pub same_on : (g h : ℕ → List ℕ) (xs : List ℕ) → Each (λ n. g n ≡ h n) xs → flat_map g xs ≡ flat_map h xs
same_on g h [] all = refl
same_on g h (x ∷ xs) all = ap (λ (l : List ℕ). l ++ flat_map g xs) all.0 ∙ ap (λ (l : List ℕ). h x ++ l) (same_on g h xs all.1)
