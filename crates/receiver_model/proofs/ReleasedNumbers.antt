-- Which pictures of a window are released, and which may be: those that stand after the last one.
use Rattle.std.proofs.Common.{◌≡◌, ℕ, zero, suc, ◌+◌, ◌<◌, ◌≤◌, Bool, true, false, refl, ap, sym}
use Rattle.std.proofs.Common.{List, [], ◌∷◌, ◌++◌, length, Option, Some, None, subst, ◌∙◌}
use Rattle.std.proofs.Common.{arith, inl, inr}
use Rattle.std.specs.Prelude.{◌&&◌, ◌||◌, not, filter}
use Rattle.std.specs.List.{last_or}
use Rattle.std.proofs.lemmas.Bool.{cases_eq, ne_eqb, eq-eqb, false≢true, or_left, or_right}
use Rattle.std.proofs.lemmas.Bool.{le-leb, lt-leb, leb-true, both_ways, and_parts, and_from}
use Rattle.std.proofs.lemmas.List.{append_assoc, length-map}
use Rattle.std.proofs.lemmas.List.Elements.{filter-append}
use Rattle.machine_model.specs.Feeders.{is_among, not_released}
use Rattle.link_model.specs.Numbers.{is_opened}
use Rattle.link_model.specs.Windows.{WindowPast, past_let_go, past_book, releasable_numbers}
use Rattle.link_model.specs.Windows.{released_up_to, is_needed, window_of, needed_numbers}
use Rattle.link_model.proofs.Leaving.{past}
use Rattle.link_model.proofs.LettingGo.{is_let_go_by, let_go_filtered, releasable_over}
use Rattle.link_model.proofs.Releasing.{let_go_before}
use Rattle.link_model.proofs.RisingNumbers.{numbers_over, opened_over, is_behind}
use Rattle.receiver_model.proofs.SessionPictures.{among_append, among_over}

-- ---- numbers that rise

abbrev pub AreRising : ℕ → List ℕ → Type 0
AreRising bound [] = Unit {0}
AreRising bound (n ∷ ns) = (bound ≤ n) × AreRising (n + 1) ns

rising_from : (a b : ℕ) (ns : List ℕ) → a ≤ b → AreRising b ns → AreRising a ns
rising_from a b [] less rises = tt
rising_from a b (n ∷ ns) less rises = (omega (arith, less, rises.0), rises.1)

pub numbers_rising : (test : ℕ → Bool) (a m : ℕ) → AreRising a (numbers_over test a m)
numbers_rising test a zero = tt
numbers_rising test a (suc m) =
    grind (arith, numbers_over, rising_from, numbers_rising test (a + 1) m)

module _ (n : ℕ) where
  pub among_rising : (bound : ℕ) (ns : List ℕ) → AreRising bound ns → is_among ns n ≡ true
      → bound ≤ n
  among_rising bound [] rises there = absurd (false≢true there)
  among_rising bound (k ∷ ns) rises there = grind (arith, among_rising (k + 1) ns rises.1)

  -- those after some are greater than the last of these
  higher : (k bound : ℕ) (ns more : List ℕ) → k < bound → AreRising bound (ns ++ more)
      → is_among more n ≡ true → released_up_to (last_or (Some k) ns) n ≡ false
  higher k bound [] more less rises there =
      lt-leb n k (omega (arith, less, among_rising bound more rises there))
  higher k bound (m ∷ ns) more less rises there =
      higher m (m + 1) ns more (omega arith) rises.1 there

  pub behind_is_higher : (bound : ℕ) (front more : List ℕ) → AreRising bound (front ++ more)
      → is_among more n ≡ true → released_up_to (last_or None front) n ≡ false
  behind_is_higher bound [] more rises there = refl
  behind_is_higher bound (k ∷ ns) more rises there =
      higher k (k + 1) ns more (omega arith) rises.1 there

-- the last of some, which is among them and at least the first
last_of : (k bound : ℕ) (ns more : List ℕ) → k < bound → AreRising bound (ns ++ more)
    → (last : ℕ) × (last_or (Some k) ns ≡ Some last) × (k ≤ last) × (is_among (k ∷ ns) last ≡ true)
last_of k bound [] more less rises =
    (k, refl, omega arith, ap (λ (b : Bool). b || false) (eq-eqb k k refl))
last_of k bound (m ∷ ns) more less rises = grind (arith, last_of m (m + 1) ns more (omega arith) rises.1)

-- some aren't greater than the last of them
lower : (n k bound : ℕ) (ns more : List ℕ) → k < bound → AreRising bound (ns ++ more)
    → is_among (k ∷ ns) n ≡ true → released_up_to (last_or (Some k) ns) n ≡ true
lower n k bound [] more less rises there = grind arith
lower n k bound (m ∷ ns) more less rises there = elim (cases_eq k n) [
  | inl same ↦ (let last = last_of m (m + 1) ns more (omega arith) rises.1 in
      ap (λ (o : Option ℕ). released_up_to o n) last.1
      ∙ le-leb n last.0 (omega (arith, same, last.2, less, rises.0)))
  | inr other ↦ lower n m (m + 1) ns more (omega arith) rises.1
      (sym (ap (λ (b : Bool). b || is_among (m ∷ ns) n) (ne_eqb k n other)) ∙ there)
]

front_is_lower : (n bound : ℕ) (front more : List ℕ) → AreRising bound (front ++ more)
    → is_among front n ≡ true → released_up_to (last_or None front) n ≡ true
front_is_lower n bound [] more rises there = absurd (false≢true there)
front_is_lower n bound (k ∷ ns) more rises there =
    lower n k (k + 1) ns more (omega arith) rises.1 there

-- the number just before the next one is the last of some, if it is one of them
pub just_before : (m bound : ℕ) (l more : List ℕ) → AreRising bound (l ++ (m + 1) ∷ more)
    → is_among l m ≡ true → (front : List ℕ) × (l ≡ front ++ m ∷ [])
just_before m bound [] more rises there = absurd (false≢true there)
just_before m bound (k ∷ []) more rises there = grind arith
just_before m bound (k ∷ j ∷ l) more rises there = elim (cases_eq k m) [
  | inl same ↦ absurd (too_low rises.1 same)
  | inr other ↦ (let rest = just_before m (k + 1) (j ∷ l) more rises.1
      (sym (ap (λ (b : Bool). b || is_among (j ∷ l) m) (ne_eqb k m other)) ∙ there) in
      (k ∷ rest.0, ap (λ (l : List ℕ). k ∷ l) rest.1))
]
  where
    above : (b : ℕ) (l : List ℕ) → AreRising b (l ++ (m + 1) ∷ more) → b ≤ m + 1
    above b [] rises = rises.0
    above b (i ∷ l) rises = omega (arith, rises.0, above (i + 1) l rises.1)

    too_low : AreRising (k + 1) ((j ∷ l) ++ (m + 1) ∷ more) → k ≡ m → ⊥
    too_low rises same = omega (arith, rises.0, above (j + 1) l rises.1, same)

-- ---- of a window's past

module _ (p : WindowPast) (in_order : past_let_go p ≡ p.released ++ releasable_numbers p) where
  abbrev is_gone : ℕ → Bool
  is_gone k = is_opened p.entries k && is_let_go_by p k

  let_go_over : (n rest : ℕ) → past p.entries + rest ≡ n
      → p.released ++ releasable_numbers p ≡ numbers_over is_gone 0 n
  let_go_over n rest size =
      sym in_order ∙ let_go_filtered p ∙ opened_over p.entries (is_let_go_by p) n rest size

  pub released_rise : AreRising 0 (p.released ++ releasable_numbers p)
  released_rise = subst (AreRising 0) (sym (let_go_over (past p.entries + 0) 0 refl))
      (numbers_rising is_gone 0 (past p.entries + 0))

  gone_among : (n : ℕ) → (is_among p.released n || is_among (releasable_numbers p) n) ≡ is_gone n
  gone_among n =
      sym (among_append p.released (releasable_numbers p) n)
      ∙ ap (λ (l : List ℕ). is_among l n) (let_go_over (past p.entries + (n + 1)) (n + 1) refl)
      ∙ among_over is_gone n 0 (past p.entries + (n + 1)) (omega arith) (omega arith)

  pub released_gone : (n : ℕ) → is_among p.released n ≡ true → is_let_go_by p n ≡ true
  released_gone n there = (and_parts (is_opened p.entries n) (is_let_go_by p n)
      (sym (gone_among n) ∙ or_left (is_among p.released n) (is_among (releasable_numbers p) n)
      there)).1

  pub released_opened : (n : ℕ) → is_among p.released n ≡ true → is_opened p.entries n ≡ true
  released_opened n there = (and_parts (is_opened p.entries n) (is_let_go_by p n)
      (sym (gone_among n) ∙ or_left (is_among p.released n) (is_among (releasable_numbers p) n)
      there)).0

  pub releasable_gone : (n : ℕ) → is_among (releasable_numbers p) n ≡ true
      → (is_opened p.entries n ≡ true) × (is_let_go_by p n ≡ true)
  releasable_gone n there = and_parts (is_opened p.entries n) (is_let_go_by p n)
      (sym (gone_among n) ∙ or_right (is_among p.released n) (is_among (releasable_numbers p) n)
      there)

  down : (f g : ℕ) → f ≤ g → is_let_go_by p g ≡ true → is_let_go_by p f ≡ true
  down f g less gone = grind (arith, let_go_before)

  -- the last one that was released is let go
  last_gone : (n : ℕ) → released_up_to (last_or None p.released) n ≡ true
      → is_let_go_by p n ≡ true
  last_gone n low = by_released p.released released_rise low refl
    where
      by_released : (l : List ℕ) → AreRising 0 (l ++ releasable_numbers p)
          → released_up_to (last_or None l) n ≡ true → l ≡ p.released
          → is_let_go_by p n ≡ true
      by_released [] rises low same = absurd (false≢true low)
      by_released (k ∷ ns) rises low same =
          let last = last_of k (k + 1) ns (releasable_numbers p) (omega arith) rises.1 in
          let there : is_among p.released last.0 ≡ true =
          subst (λ (l : List ℕ). is_among l last.0 ≡ true) same last.3 in
          let gone = and_parts (is_opened p.entries last.0) (is_let_go_by p last.0)
          (sym (gone_among last.0) ∙ or_left (is_among p.released last.0)
          (is_among (releasable_numbers p) last.0) there) in
          down n last.0
          (leb-true n last.0 (sym (ap (λ (o : Option ℕ). released_up_to o n) last.1) ∙ low)) gone.1

  -- a picture that is opened was released where it isn't after the last one
  pub released_is : (n : ℕ) → is_opened p.entries n ≡ true
      → is_among p.released n ≡ released_up_to (last_or None p.released) n
  released_is n opened =
      by_tests (is_among p.released n) refl (released_up_to (last_or None p.released) n) refl
    where
      by_tests : (a : Bool) → is_among p.released n ≡ a
          → (b : Bool) → released_up_to (last_or None p.released) n ≡ b → a ≡ b
      by_tests true there true low = refl
      by_tests false away false high = refl
      by_tests true there false high = grind (arith, front_is_lower, released_rise)
      by_tests false away true low = absurd (both_ways
          (released_up_to (last_or None p.released) n)
          (behind_is_higher n 0 p.released (releasable_numbers p) released_rise
          (sym (ap (λ (b : Bool). b || is_among (releasable_numbers p) n) away)
          ∙ gone_among n
          ∙ and_from (is_opened p.entries n) (is_let_go_by p n) opened (last_gone n low)))
          low)

  -- a picture that is opened before one that may be released was released, or may be
  pub gone_before : (n m : ℕ) → is_among (releasable_numbers p) n ≡ true → m ≤ n
      → is_opened p.entries m ≡ true
      → (is_among p.released m || is_among (releasable_numbers p) m) ≡ true
  gone_before n m there low opened =
      gone_among m ∙ and_from (is_opened p.entries m) (is_let_go_by p m) opened
      (down m n low (releasable_gone n there).1)

  pub releasable_unreleased : (n : ℕ) → is_among (releasable_numbers p) n ≡ true
      → is_among p.released n ≡ false
  releasable_unreleased n there =
      grind (arith, behind_is_higher, releasable_gone, released_is, released_rise)

  -- ---- there are at least as many books

  fewer : (f g : ℕ → Bool) → ((k : ℕ) → f k ≡ true → g k ≡ true) → (m a : ℕ)
      → length (numbers_over f a m) ≤ length (numbers_over g a m)
  fewer f g less zero a = omega arith
  fewer f g less (suc m) a = grind (arith, numbers_over, fewer f g less m (a + 1))

  needed_there : (k : ℕ)
      → ((is_opened p.entries k && is_behind (last_or None p.released) k) && is_let_go_by p k)
      ≡ true → (is_opened p.entries k && is_needed p k) ≡ true
  needed_there k passes = grind (arith, is_behind, is_let_go_by)

  pub books_enough : length (releasable_numbers p) ≤ length (window_of p).books
  unfolding window_of
  books_enough =
      let all = past p.entries + 0 in
      let fewer_numbers = fewer
      (λ k. (is_opened p.entries k && is_behind (last_or None p.released) k) && is_let_go_by p k)
      (λ k. is_opened p.entries k && is_needed p k) needed_there all 0 in
      let few : length (releasable_numbers p)
      ≡ length (numbers_over
      (λ k. (is_opened p.entries k && is_behind (last_or None p.released) k) && is_let_go_by p k)
      0 all) = ap length (releasable_over p in_order) in
      let many : length (needed_numbers p)
      ≡ length (numbers_over (λ k. is_opened p.entries k && is_needed p k) 0 all) =
      ap length (opened_over p.entries (is_needed p) all 0 refl) in
      omega (arith, fewer_numbers, few, many, length-map (needed_numbers p) (past_book p))

-- ---- pictures that are let go and weren't released

module _ (released : List ℕ) where
  abbrev stays : ℕ → Bool
  stays n = not (is_among released n)

  all_gone : (ns : List ℕ) → ((n : ℕ) → is_among ns n ≡ true → is_among released n ≡ true)
      → filter stays ns ≡ []
  all_gone [] each = refl
  all_gone (k ∷ ns) each = grind (arith, all_gone ns)

  all_stay : (ns : List ℕ) → ((n : ℕ) → is_among ns n ≡ true → is_among released n ≡ false)
      → filter stays ns ≡ ns
  all_stay [] each = refl
  all_stay (k ∷ ns) each = grind (arith, all_stay ns)

-- of some that stand before them, all of which were released
pub unreleased_are : (p : WindowPast) → past_let_go p ≡ p.released ++ releasable_numbers p
    → (before : List ℕ) → ((n : ℕ) → is_opened p.entries n ≡ true → is_among before n ≡ false)
    → not_released (before ++ p.released) (before ++ past_let_go p) ≡ releasable_numbers p
unreleased_are p in_order before apart =
    ap (λ (l : List ℕ). not_released released l)
    (ap (λ (l : List ℕ). before ++ l) in_order
    ∙ sym (append_assoc before p.released (releasable_numbers p)))
    ∙ filter-append (λ n. not (is_among released n)) released (releasable_numbers p)
    ∙ ap (λ (l : List ℕ). l ++ filter (λ n. not (is_among released n)) (releasable_numbers p))
    (all_gone released released (λ n there. there))
    ∙ all_stay released (releasable_numbers p) away
  where
    released : List ℕ
    released = before ++ p.released

    away : (n : ℕ) → is_among (releasable_numbers p) n ≡ true
        → is_among (before ++ p.released) n ≡ false
    away n there = grind (arith, among_append, releasable_gone, releasable_unreleased)
