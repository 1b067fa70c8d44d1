-- How much steps may raise the magnitudes of a line's samples.
use Rattle.std.proofs.Common.{◌≡◌, ℕ, zero, suc, ◌+◌, ◌-◌, ◌*◌, ◌/◌, ◌%◌, ◌^◌, ◌<◌, ◌≤◌, ◌≢◌, List, [], ◌∷◌}
use Rattle.std.proofs.Common.{length, take, get_or, take_all, ℤ, pos, negsuc, ◌+ℤ◌, ◌*ℤ◌, arith, subst, sym}
use Rattle.std.proofs.Common.{ap, refl, ◌∙◌, unsigned_abs, Bool, true, false, inl, inr, min, IsTrue}
use Rattle.std.specs.Prelude.{if◌then◌else◌, nat_le, ◌==◌, ◌&&◌}
use Rattle.std.specs.List.{sum_by}
use Rattle.std.specs.Int.{int_shr}
use Rattle.std.proofs.lemmas.Bool.{cases_eq, false≢true}
use Rattle.std.proofs.lemmas.Bool.Decides.{nat_tests}
use Rattle.std.proofs.lemmas.Int.{ints, unsigned_abs-mul}
use Rattle.std.proofs.lemmas.List.Sums.{sum_by_more, sum_by-take-le}
use Rattle.std.proofs.Math.Nat.{mul-le-mul_left, mul-le-mul_right, le_of_mul-le-mul_right, div-mul-le_self}
use Rattle.std.proofs.Math.Nat.{lt-div-mul-add, mul_assoc}
use Rattle.std.proofs.Math.Numerals.{add-one}
use Rattle.std.proofs.Math.Pow.{pow_pos}
use Rattle.std.proofs.Math.Seq.{take-nil}
use Rattle.vc_types.specs.Lifting.{half_of, changed_by}
use Rattle.vc_types.specs.Wavelets.{synthesis_steps}
use Rattle.vc_lift.specs.CountedSteps.{CountedStep, place_met, sum_met, change_at, lift, lift_all, undone}
use Rattle.vc_lift.specs.CountedSteps.{sum_below}
use Rattle.vc_lift.proofs.CountedSteps.{counted_steps}
use Rattle.vc_lift.proofs.WeightedSums.{abs-add}
use Rattle.vc_lift.specs.Growth.{IsWithin, IsLittle, weight, IsPlain, is_plain, raised, stays_little}
use Rattle.vc_lift.specs.Growth.{grows_little}

-- c times the magnitude of each sample of a parity is at most b
pub record Rises (x : ℕ → ℤ) (half parity c b : ℕ) : Type 0 where
  pub rises : (n : ℕ) → n < half → c * unsigned_abs (x (2 * n + parity)) ≤ b

-- the same of a sum of products
term : (c b : ℕ) (t z : ℤ) → c * unsigned_abs z ≤ b → c * unsigned_abs (t *ℤ z) ≤ unsigned_abs t * b
term c b t z h = rw (unsigned_abs-mul t z) (grind (arith, mul-le-mul_left (unsigned_abs t) h))

pub sum_rises : (c b : ℕ) (taps : List ℤ) (f : ℕ → ℤ) (j : ℕ) → j ≤ length taps
    → ((k : ℕ) → c * unsigned_abs (f k) ≤ b)
    → c * unsigned_abs (sum_below j (λ k. get_or taps k (pos 0) *ℤ f k)) ≤ sum_by unsigned_abs
    (take j taps) * b
unfolding sum_below
sum_rises c b taps f zero h small = omega arith
sum_rises c b taps f (suc j) h small =
    let before = sum_rises c b taps f j (omega arith) small in
    let here = term c b (get_or taps j (pos 0)) (f j) (small j) in
    let more : sum_by unsigned_abs (take (suc j) taps)
    ≡ sum_by unsigned_abs (take j taps) + unsigned_abs (get_or taps j (pos 0)) =
    rw (← add-one) (sum_by_more unsigned_abs taps j (pos 0) h) in
    let added = mul-le-mul_left c
    (abs-add (sum_below j (λ k. get_or taps k (pos 0) *ℤ f k)) (get_or taps j (pos 0) *ℤ f j)) in
    rw more (omega (arith, before, here, added))

-- the samples that a step reads are bounded, and so is the weighted sum
weighted_rises : (s : CountedStep) (half c b : ℕ) (x : ℕ → ℤ) (n : ℕ) → 0 < half
    → Rises x half (1 - s.parity) c b → c * unsigned_abs (sum_met s half x n) ≤ weight s * b
unfolding sum_met
weighted_rises s half c b x n some r =
    let sum = sum_rises c b s.taps (λ j. x (place_met s half n j)) (length s.taps) (omega arith)
    (λ j. r.rises (min (n + j - s.back) (half - 1)) (omega arith)) in
    let part = mul-le-mul_right b (sum_by-take-le unsigned_abs s.taps (length s.taps)) in
    omega (arith, sum, part)

-- a shift down divides, up to one
shr_rises : (z : ℤ) (k : ℕ) → unsigned_abs (int_shr z k) * 2 ^ k ≤ unsigned_abs z + 2 ^ k
shr_rises (pos n) k = omega (arith, div-mul-le_self n (2 ^ k))
shr_rises (negsuc n) k = omega (arith, div-mul-le_self n (2 ^ k))

-- q times d is within d of w
quotient : (w d : ℕ) → 0 < d → w ≤ w / d * d + d
quotient w d h = omega (arith, lt-div-mul-add {a = w} h)

-- what a change of a sample may amount to
change_rises : (g d a v m : ℕ) → 0 < d → 8192 ≤ m → a * d ≤ v + d / 2 + d → 4096 * v ≤ g * m
    → 4096 * a ≤ (g / d + 2) * m
change_rises g d a v m some large shifted sum =
    let scaled : 4096 * a * d ≤ (g / d + 2) * m * d =
    (let q = mul-le-mul_right m (quotient g d some) in
    let l = mul-le-mul_right d large in
    let half : d / 2 ≤ d = omega arith in
    omega (arith, q, l, shifted, sum, half)) in
    le_of_mul-le-mul_right scaled some

-- a sample of the changed parity after the step
pub lifted_at : (s : CountedStep) (half : ℕ) (x : ℕ → ℤ) (n : ℕ) → s.parity < 2 → n < half
    → lift s half x (2 * n + s.parity) ≡ changed_by s.adds (x (2 * n + s.parity)) (change_at s half x n)
unfolding lift
lifted_at s half x n h k = grind arith

pub kept_at : (s : CountedStep) (half : ℕ) (x : ℕ → ℤ) (n : ℕ) → s.parity < 2
    → lift s half x (2 * n + (1 - s.parity)) ≡ x (2 * n + (1 - s.parity))
unfolding lift
kept_at s half x n h = let other : (2 * n + (1 - s.parity)) % 2 ≢ s.parity = omega arith in
    grind (arith, nat_tests)

pub abs-moved : (adds : Bool) (a c : ℤ) → unsigned_abs (changed_by adds a c) ≤ unsigned_abs a + unsigned_abs c
abs-moved true a c = omega (arith, ints)
abs-moved false a c = omega (arith, ints)

module _ (s : CountedStep) (half : ℕ) (x : ℕ → ℤ) (own other m : ℕ) (h : s.parity < 2) (some : 0 < half)
    (large : 8192 ≤ m) (mine : Rises x half s.parity 4096 (own * m))
    (met : Rises x half (1 - s.parity) 4096 (other * m)) where
  change_bound : (n : ℕ)
      → 4096 * unsigned_abs (change_at s half x n) ≤ (weight s * other / 2 ^ s.shift + 2) * m
  unfolding change_at
  change_bound n =
      let sum = weighted_rises s half 4096 (other * m) x n some met in
      let sum' : 4096 * unsigned_abs (sum_met s half x n) ≤ weight s * other * m = rw mul_assoc sum in
      change_rises (weight s * other) (2 ^ s.shift) (unsigned_abs (change_at s half x n))
      (unsigned_abs (sum_met s half x n)) m (pow_pos s.shift) large
      (omega (
        arith,
        shr_rises (sum_met s half x n +ℤ pos (half_of s.shift)) s.shift,
        abs-add (sum_met s half x n) (pos (half_of s.shift)),
      )) sum'

  pub step_rises : Rises (lift s half x) half s.parity 4096 (raised s own other * m)
  step_rises = record {
    rises = λ n k.
        rw (lifted_at s half x n h k)
        (let c = change_bound n in
        let a = mine.rises n k in
        let both = mul-le-mul_left 4096 (abs-moved s.adds (x (2 * n + s.parity)) (change_at s half x n)) in
        omega (arith, both, a, c));
  }

  pub step_keeps : Rises (lift s half x) half (1 - s.parity) 4096 (other * m)
  step_keeps = record { rises = λ n k. rw (kept_at s half x n h) (met.rises n k) }

-- ---- over a list of steps
pub plain_parity : (s : CountedStep) → is_plain s ≡ true → s.parity < 2
plain_parity s h = grind (arith, nat_tests)

pub plain_few : (s : CountedStep) → is_plain s ≡ true → length s.taps ≤ 8
plain_few s h = grind (arith, nat_tests)

pub plain_light : (s : CountedStep) → is_plain s ≡ true → weight s < 2 ^ 14
plain_light s h = grind (arith, nat_tests)

pub plain_shift : (s : CountedStep) → is_plain s ≡ true → s.shift ≤ 12
plain_shift s h = grind (arith, nat_tests)

first_of_and : (p q : Bool) → (p && q) ≡ true → p ≡ true
first_of_and true q h = refl
first_of_and false q h = h

second_of_and : (p q : Bool) → (p && q) ≡ true → q ≡ true
second_of_and true q h = h
second_of_and false q h = absurd (false≢true h)

pub plain_at : (most : ℕ) (steps : List CountedStep) (e o : ℕ) (i : ℕ) (d : CountedStep)
    → stays_little most steps e o ≡ true → i < length steps → is_plain (get_or steps i d) ≡ true
plain_at most [] e o i d h k = absurd (omega arith)
plain_at most (s ∷ steps) e o zero d h k =
    first_of_and _ _ (second_of_and (nat_le e (4096 * most) && nat_le o (4096 * most)) _ h)
plain_at most (s ∷ steps) e o (suc i) d h k =
    plain_at most steps _ _ i d
    (second_of_and (is_plain s) _ (second_of_and (nat_le e (4096 * most) && nat_le o (4096 * most)) _ h))
    (omega arith)

little : (most : ℕ) (x : ℕ → ℤ) (half p e m : ℕ) → e ≤ 4096 * most → Rises x half p 4096 (e * m)
    → IsWithin x half p (most * m)
little most x half p e m h r =
    record { within = λ n k. (let a = r.rises n k in let b = mul-le-mul_right m h in omega (arith, a, b)) }

chosen_even : (q : ℕ) (y : ℕ → ℤ) (half e o r t m : ℕ) → q ≡ 0 → Rises y half 0 4096 (r * m)
    → Rises y half 1 4096 (o * m)
    → (Rises y half 0 4096 ((if q == 0 then r else e) * m))
    × (Rises y half 1 4096 ((if q == 0 then o else t) * m))
chosen_even q y half e o r t m p rises keeps = rw p (rises, keeps)

chosen_odd : (q : ℕ) (y : ℕ → ℤ) (half e o r t m : ℕ) → q ≡ 1 → Rises y half 0 4096 (e * m)
    → Rises y half 1 4096 (t * m)
    → (Rises y half 0 4096 ((if q == 0 then r else e) * m))
    × (Rises y half 1 4096 ((if q == 0 then o else t) * m))
chosen_odd q y half e o r t m p keeps rises = rw p (keeps, rises)

module _ (s : CountedStep) (half : ℕ) (x : ℕ → ℤ) (e o m : ℕ) (plain : is_plain s ≡ true) (some : 0 < half)
    (large : 8192 ≤ m) (even : Rises x half 0 4096 (e * m)) (odd : Rises x half 1 4096 (o * m)) where
  when_even : s.parity ≡ 0
      → (Rises (lift s half x) half 0 4096 ((if s.parity == 0 then raised s e o else e) * m))
      × (Rises (lift s half x) half 1 4096 ((if s.parity == 0 then o else raised s o e) * m))
  when_even p =
      let mine : Rises x half s.parity 4096 (e * m) = rw p even in
      let met : Rises x half (1 - s.parity) 4096 (o * m) = rw p odd in
      let rises : Rises (lift s half x) half 0 4096 (raised s e o * m) =
      subst (λ q. Rises (lift s half x) half q 4096 (raised s e o * m)) p
      (step_rises s half x e o m (plain_parity s plain) some large mine met) in
      let keeps : Rises (lift s half x) half 1 4096 (o * m) =
      subst (λ q. Rises (lift s half x) half (1 - q) 4096 (o * m)) p
      (step_keeps s half x e o m (plain_parity s plain) some large mine met) in
      chosen_even s.parity (lift s half x) half e o (raised s e o) (raised s o e) m p rises keeps

  when_odd : s.parity ≡ 1
      → (Rises (lift s half x) half 0 4096 ((if s.parity == 0 then raised s e o else e) * m))
      × (Rises (lift s half x) half 1 4096 ((if s.parity == 0 then o else raised s o e) * m))
  when_odd p =
      let mine : Rises x half s.parity 4096 (o * m) = rw p odd in
      let met : Rises x half (1 - s.parity) 4096 (e * m) = rw p even in
      let rises : Rises (lift s half x) half 1 4096 (raised s o e * m) =
      subst (λ q. Rises (lift s half x) half q 4096 (raised s o e * m)) p
      (step_rises s half x o e m (plain_parity s plain) some large mine met) in
      let keeps : Rises (lift s half x) half 0 4096 (e * m) =
      subst (λ q. Rises (lift s half x) half (1 - q) 4096 (e * m)) p
      (step_keeps s half x o e m (plain_parity s plain) some large mine met) in
      chosen_odd s.parity (lift s half x) half e o (raised s e o) (raised s o e) m p keeps rises

  pub next : (Rises (lift s half x) half 0 4096 ((if s.parity == 0 then raised s e o else e) * m))
      × (Rises (lift s half x) half 1 4096 ((if s.parity == 0 then o else raised s o e) * m))
  next = elim (cases_eq s.parity 0) [
    | inl p ↦ when_even p
    | inr apart ↦
        (let p : s.parity ≡ 1 = omega (arith, plain_parity s plain) in when_odd p)
  ]

pub little_at : (most : ℕ) (steps : List CountedStep) (e o half m : ℕ) (x : ℕ → ℤ) (i : ℕ)
    → stays_little most steps e o ≡ true → 0 < half → 8192 ≤ m → Rises x half 0 4096 (e * m)
    → Rises x half 1 4096 (o * m) → IsLittle (lift_all (take i steps) half x) half (most * m)
unfolding lift_all
little_at most [] e o half m x i h some large even odd =
    rw take-nil (record {
      even = little most x half 0 e m
          (grind (arith, nat_tests)) even;
      odd = little most x half 1 o m (grind (arith, nat_tests)) odd;
    })
little_at most (s ∷ steps) e o half m x zero h some large even odd =
    let both = first_of_and (nat_le e (4096 * most) && nat_le o (4096 * most)) _ h in
    record {
      even = little most x half 0 e m (grind (arith, nat_tests)) even;
      odd = little most x half 1 o m
          (grind (arith, nat_tests)) odd;
    }
little_at most (s ∷ steps) e o half m x (suc i) h some large even odd =
    let rest = second_of_and (nat_le e (4096 * most) && nat_le o (4096 * most)) _ h in
    let n = next s half x e o m (first_of_and _ _ rest) some large even odd in
    little_at most steps _ _ half m (lift s half x) i (second_of_and (is_plain s) _ rest) some large n.0 n.1

pub plain : (s : CountedStep) → is_plain s ≡ true → IsPlain s
plain s h = record {
  parity = plain_parity s h;
  few = plain_few s h;
  light = plain_light s h;
  shift =
      plain_shift s h;
}

-- ---- where the next of a list of steps is made

module _ (most : ℕ) (steps : List CountedStep) (little : IsTrue (grows_little most steps)) where
  pub plain_now : (i : ℕ) (s : CountedStep) → s ≡ get_or steps i s → i < length steps → is_plain s ≡ true
  plain_now i s e h = ap is_plain e ∙ plain_at most steps 4096 4096 i s little h

  pub little_now : (half m : ℕ) (x y : ℕ → ℤ) (i : ℕ) → 0 < half → 8192 ≤ m
      → ((k : ℕ) → k < 2 * half → unsigned_abs (x k) ≤ m) → y ≡ lift_all (take i steps) half x
      → IsLittle y half (most * m)
  little_now half m x y i some large small e =
      let from : (p : ℕ) → p < 2 → Rises x half p 4096 (4096 * m) =
      λ p h. record {
        rises = λ n k.
            (let a : unsigned_abs (x (2 * n + p)) ≤ m = small (2 * n + p) (omega arith) in omega arith);
      } in
      rw e (little_at most steps 4096 4096 half m x i little some large (from 0 (omega arith))
      (from 1 (omega arith)))

pub by_parity : (y : ℕ → ℤ) (half b p : ℕ) → p < 2 → IsLittle y half b → IsWithin y half p b
by_parity y half b p h l =
    elim (cases_eq p 0) [ inl e ↦ rw e l.even | inr apart ↦ (let e : p ≡ 1 = omega arith in rw e l.odd) ]

pub by_other : (y : ℕ → ℤ) (half b p : ℕ) → p < 2 → IsLittle y half b → IsWithin y half (1 - p) b
by_other y half b p h l = by_parity y half b (1 - p) (omega arith) l

below_times : (most m a : ℕ) → 0 < most → 0 < m → a ≤ most * (m - 1) → a < most * m
below_times most m a some more h = grind arith

pub grows : (most : ℕ) (steps : List CountedStep) → 0 < most → IsTrue (grows_little most steps)
    → (half m : ℕ) (x : ℕ → ℤ) → 0 < half → 2 ^ 16 ≤ m → ((k : ℕ) → k < 2 * half → unsigned_abs (x k) < m)
    → (k : ℕ) → k < 2 * half → unsigned_abs (lift_all steps half x k) < most * m
grows most steps more little half m x some large below k h =
    let all : lift_all steps half x ≡ lift_all (take (length steps) steps) half x =
    ap (λ ss. lift_all ss half x) (sym (take_all (length steps) steps (omega arith))) in
    let l = little_now most steps little half (m - 1) x (lift_all steps half x) (length steps) some
    (omega arith) (λ k h. omega (arith, below k h)) all in
    let w = (by_parity (lift_all steps half x) half (most * (m - 1)) (k % 2) (omega arith) l).within (k / 2)
    (omega arith) in
    let place : 2 * (k / 2) + k % 2 ≡ k = omega arith in
    below_times most m (unsigned_abs (lift_all steps half x k)) more (omega arith) (rw place at w)

pub synthesis_little : (w : ℕ) → grows_little 16 (counted_steps w) ≡ true
unfolding synthesis_steps counted_steps
synthesis_little w = grind arith

pub analysis_little : (w : ℕ) → grows_little 16 (undone (counted_steps w)) ≡ true
unfolding synthesis_steps counted_steps
analysis_little w = grind arith

-- analysis stays within 8 times
pub analysis_lower : (w : ℕ) → grows_little 8 (undone (counted_steps w)) ≡ true
unfolding synthesis_steps counted_steps
analysis_lower w = grind arith
