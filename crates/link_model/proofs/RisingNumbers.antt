-- The numbers of a range that pass a test, in rising order: the first of them, and those that stand after some of them.
use Rattle.std.proofs.Common.{◌≡◌, ℕ, zero, suc, ◌+◌, ◌<◌, ◌≤◌, Bool, true, List, [], ◌∷◌, ◌++◌, length, drop, Option, Some, None, refl, ap, sym, subst, ◌∙◌, arith, cond, not, ◌&&◌, filter, option_and_then}
use Rattle.std.specs.List.{flat_map, range_with_len, last_or}
use Rattle.std.proofs.lemmas.Bool.{cond-false, le-leb, and_right}
use Rattle.link_model.specs.Numbers.{Numbered, is_opened, opened_numbers}
use Rattle.link_model.specs.Windows.{first_of, released_up_to}
use Rattle.link_model.proofs.Leaving.{past, passing, passing-over}
use Rattle.std.proofs.lemmas.List.Prefix.{front_rest}
use Rattle.link_model.proofs.Ranges.{nothing_in}

-- ---- numbers over a range

abbrev pub number_if : (ℕ → Bool) → ℕ → List ℕ
number_if test k = cond (test k) (k ∷ []) []

abbrev pub numbers_over : (ℕ → Bool) → ℕ → ℕ → List ℕ
numbers_over test a m = flat_map (number_if test) (range_with_len a m)

pub same_numbers : (test other : ℕ → Bool) (a m : ℕ) → ((k : ℕ) → test k ≡ other k) → numbers_over test a m ≡ numbers_over other a m
same_numbers test other a zero same = refl
same_numbers test other a (suc m) same = grind (arith, same_numbers test other (a + 1) m same)

pub fewer_numbers : (test keep : ℕ → Bool) (a m : ℕ) → filter keep (numbers_over test a m) ≡ numbers_over (λ k. test k && keep k) a m
fewer_numbers test keep a zero = refl
fewer_numbers test keep a (suc m) = grind (arith, fewer_numbers test keep (a + 1) m)

-- the opened pictures that pass a test
pub opened_over : (es : List Numbered) (test : ℕ → Bool) (n rest : ℕ) → past es + rest ≡ n → filter test (opened_numbers es) ≡ numbers_over (λ k. is_opened es k && test k) 0 n
opened_over es test n rest size = passing-over es test n rest size ∙ same_over (range_with_len 0 n)
  where
    by_tests : (k : ℕ) (was passes : Bool) → cond passes (cond was (k ∷ []) []) [] ≡ cond (was && passes) (k ∷ []) []
    by_tests k o b = grind arith

    same_over : (ks : List ℕ) → flat_map (passing es test) ks ≡ flat_map (number_if (λ k. is_opened es k && test k)) ks
    same_over [] = refl
    same_over (k ∷ ks) = grind (arith, by_tests, passing, same_over ks)

-- ---- the first of them

-- the first that passes a further test, where all below one that passes pass too
module _ (test go : ℕ → Bool) (down : (f g : ℕ) → f ≤ g → go g ≡ true → go f ≡ true) where
  pub first_that : (a m : ℕ) → first_of (numbers_over (λ k. test k && go k) a m) ≡ option_and_then (λ k. cond (go k) (Some k) None) (first_of (numbers_over test a m))
  first_that a zero = refl
  first_that a (suc m) = grind (arith, and_right, first_that (a + 1) m, nothing_in, cond-false)

-- ---- numbers that rise

abbrev Rises : ℕ → List ℕ → Type 0
Rises bound [] = Unit {0}
Rises bound (n ∷ ns) = (bound ≤ n) × Rises (n + 1) ns

rises_from : (a b : ℕ) (ns : List ℕ) → a ≤ b → Rises b ns → Rises a ns
rises_from a b [] less rises = tt
rises_from a b (n ∷ ns) less rises = (omega (arith, less, rises.0), rises.1)

numbers_rise : (test : ℕ → Bool) (a m : ℕ) → Rises a (numbers_over test a m)
numbers_rise test a zero = tt
numbers_rise test a (suc m) = grind (arith, rises_from, numbers_rise test (a + 1) m)

abbrev pub is_behind : Option ℕ → ℕ → Bool
is_behind last k = not (released_up_to last k)

all_behind : (last bound : ℕ) (ns : List ℕ) → last < bound → Rises bound ns → filter (is_behind (Some last)) ns ≡ ns
all_behind last bound [] less rises = refl
all_behind last bound (n ∷ ns) less rises =
    grind (arith, all_behind last (n + 1) ns (omega (arith, less, rises.0)) rises.1)

all_unreleased : (ns : List ℕ) → filter (is_behind None) ns ≡ ns
all_unreleased [] = refl
all_unreleased (n ∷ ns) = ap (λ (l : List ℕ). n ∷ l) (all_unreleased ns)

-- the last of some, which is at least the first
last_of : (n bound : ℕ) (ns more : List ℕ) → n < bound → Rises bound (ns ++ more) → (last : ℕ) × (last_or (Some n) ns ≡ Some last) × (n ≤ last)
last_of n bound [] more less rises = (n, refl, omega arith)
last_of n bound (m ∷ ns) more less rises = let rest = last_of m (m + 1) ns more (omega arith) rises.1 in (rest.0, rest.1, omega (arith, rest.2, less, rises.0))

behind_last : (n bound : ℕ) (ns more : List ℕ) → n < bound → Rises bound (ns ++ more) → filter (is_behind (last_or (Some n) ns)) (ns ++ more) ≡ more
behind_last n bound [] more less rises = all_behind n bound more less rises
behind_last n bound (m ∷ ns) more less rises =
    let last = last_of m (m + 1) ns more (omega arith) rises.1 in
    cond-false (not (released_up_to (last_or (Some m) ns) m)) (m ∷ filter (is_behind (last_or (Some m) ns)) (ns ++ more)) (filter (is_behind (last_or (Some m) ns)) (ns ++ more))
    (ap (λ (o : Option ℕ). not (released_up_to o m)) last.1 ∙ ap not (le-leb m last.0 last.2))
    ∙ behind_last m (m + 1) ns more (omega arith) rises.1

-- those after the last of some that stand first
pub behind_front : (test : ℕ → Bool) (a m : ℕ) (front more : List ℕ) → numbers_over test a m ≡ front ++ more → filter (is_behind (last_or None front)) (numbers_over test a m) ≡ more
behind_front test a m front more is = ap (filter (is_behind (last_or None front))) is ∙ by_front front (subst (Rises a) is (numbers_rise test a m))
  where
    by_front : (front : List ℕ) → Rises a (front ++ more) → filter (is_behind (last_or None front)) (front ++ more) ≡ more
    by_front [] rises = all_unreleased more
    by_front (n ∷ ns) rises =
        let last = last_of n (n + 1) ns more (omega arith) rises.1 in
        cond-false (not (released_up_to (last_or (Some n) ns) n)) (n ∷ filter (is_behind (last_or (Some n) ns)) (ns ++ more)) (filter (is_behind (last_or (Some n) ns)) (ns ++ more))
        (ap (λ (o : Option ℕ). not (released_up_to o n)) last.1 ∙ ap not (le-leb n last.0 last.2))
        ∙ behind_last n (n + 1) ns more (omega arith) rises.1

-- ---- a list that begins another

pub begins_with : (l front more : List ℕ) → l ≡ front ++ more → l ≡ front ++ drop (length front) l
begins_with l front more is = is ∙ ap (λ (k : List ℕ). front ++ k) (sym (front_rest l front more is))
