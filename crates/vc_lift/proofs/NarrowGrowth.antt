-- Bounds on a line's samples are carried through steps, as `bound_after` reckons them.
use Rattle.std.proofs.Common.{◌≡◌, ◌≢◌, ℕ, zero, suc, ◌+◌, ◌-◌, ◌*◌, ◌/◌, ◌%◌, ◌^◌, ◌<◌, ◌≤◌, inl, inr, List}
use Rattle.std.proofs.Common.{[], ◌∷◌, length, take, get_or, drop, ℤ, arith, ap, sym, ◌∙◌, refl, subst, max}
use Rattle.std.proofs.Common.{unsigned_abs, Bool, true, IsTrue, Option, Some, None}
use Rattle.std.specs.Prelude.{if◌then◌else◌, nat_lt, ◌==◌, ◌&&◌}
use Rattle.std.specs.Option.{option_and_then}
use Rattle.std.proofs.lemmas.Bool.{cases_eq}
use Rattle.std.proofs.lemmas.Bool.Decides.{nat_tests}
use Rattle.std.proofs.lemmas.Option.{option_and_then_some, same_Some}
use Rattle.std.proofs.Math.Numerals.{add-one}
use Rattle.std.proofs.Math.Seq.{drop-cons}
use Rattle.vc_lift.specs.CountedSteps.{CountedStep, change_at, lift, lift_all}
use Rattle.vc_lift.specs.Growth.{IsWithin, grows_little}
use Rattle.vc_lift.specs.Ranges.{HasRange, StaysNarrow, rounded_sum, stretched, stretched_below, bound_after}
use Rattle.vc_lift.specs.Ranges.{counted_synthesis, counted_analysis, narrow_bound, narrow_analysis_bound}
use Rattle.vc_types.specs.Wavelets.{synthesised, analysed}
use Rattle.vc_lift.proofs.CountedSteps.{counted_steps, synthesised_counted, analysed_counted}
use Rattle.vc_lift.proofs.LineGrowth.{abs-moved, kept_at, lifted_at, plain_parity, plain_at, synthesis_little}
use Rattle.vc_lift.proofs.LineGrowth.{analysis_little}
use Rattle.vc_lift.proofs.NarrowSums.{shr_at_most, sum_met_within}
use Rattle.vc_lift.proofs.WeightedSums.{abs-add}

-- what stays below the limit says that it does
both_below : (a b : Bool) (n m : ℕ) → (if a && b then Some n else None) ≡ Some m
    → (a ≡ true) × (b ≡ true) × (n ≡ m)
both_below a b n m e = grind arith

module _ (limit : ℕ) (s : CountedStep) (half own other more : ℕ) (x : ℕ → ℤ) (p : s.parity < 2)
    (some : 0 < half) (fits : stretched_below limit s own other ≡ Some more)
    (mine : IsWithin x half s.parity own) (met : IsWithin x half (1 - s.parity) other) where
  pub range : HasRange limit s half x
  range = grind arith

  change_small : (n : ℕ) → unsigned_abs (change_at s half x n) ≤ rounded_sum s other / 2 ^ s.shift + 1
  unfolding change_at
  change_small n = grind (arith, sum_met_within, shr_at_most, abs-add)

  pub changed_within : IsWithin (lift s half x) half s.parity more
  changed_within = grind (arith, lifted_at, abs-moved, change_small)

  pub kept_within : IsWithin (lift s half x) half (1 - s.parity) other
  kept_within = record { within = λ n h. rw (kept_at s half x n p) (met.within n h) }

-- ---- one step of several

-- a step that stays below the limit, and the bounds after it
pub record Stepped (limit : ℕ) (s : CountedStep) (steps : List CountedStep) (half after : ℕ)
    (x : ℕ → ℤ) : Type 0 where
  pub even : ℕ
  pub odd : ℕ
  pub fits : bound_after limit steps even odd ≡ Some after
  pub even_within : IsWithin (lift s half x) half 0 even
  pub odd_within : IsWithin (lift s half x) half 1 odd
  pub here : HasRange limit s half x

first_chosen : (q : ℕ) (a b : Option ℕ) → q ≡ 0 → (if q == 0 then a else b) ≡ a
first_chosen q a b e = grind (arith, nat_tests)

second_chosen : (q : ℕ) (a b : Option ℕ) → q ≢ 0 → (if q == 0 then a else b) ≡ b
second_chosen q a b ne = grind (arith, nat_tests)

module _ (limit : ℕ) (s : CountedStep) (steps : List CountedStep) (e o half after : ℕ) (x : ℕ → ℤ)
    (some : 0 < half) (p : s.parity < 2) (fits : bound_after limit (s ∷ steps) e o ≡ Some after)
    (even : IsWithin x half 0 e) (odd : IsWithin x half 1 o) where
  on_even : s.parity ≡ 0 → Stepped limit s steps half after x
  unfolding bound_after
  on_even zeroth =
      option_and_then_some (λ more. bound_after limit steps more o) (stretched_below limit s e o) after
      (sym (first_chosen s.parity _ _ zeroth) ∙ fits)
      (λ more is rest.
      (let mine : IsWithin x half s.parity e = rw zeroth even in
      let met : IsWithin x half (1 - s.parity) o = rw zeroth odd in
      record {
        even = more;
        odd = o;
        fits = rest;
        even_within = subst (λ q. IsWithin (lift s half x) half q more) zeroth
            (changed_within limit s half e o more x p some is mine met);
        odd_within = subst (λ q. IsWithin (lift s half x) half (1 - q) o) zeroth
            (kept_within limit s half e o more x p some is mine met);
        here = range limit s half e o more x p some is mine met;
      }))

  on_odd : s.parity ≡ 1 → Stepped limit s steps half after x
  unfolding bound_after
  on_odd first =
      let ne : s.parity ≢ 0 = omega arith in
      option_and_then_some (λ more. bound_after limit steps e more) (stretched_below limit s o e) after
      (sym (second_chosen s.parity _ _ ne) ∙ fits)
      (λ more is rest.
      (let mine : IsWithin x half s.parity o = rw first odd in
      let met : IsWithin x half (1 - s.parity) e = rw first even in
      record {
        even = e;
        odd = more;
        fits = rest;
        even_within = subst (λ q. IsWithin (lift s half x) half (1 - q) e) first
            (kept_within limit s half o e more x p some is mine met);
        odd_within = subst (λ q. IsWithin (lift s half x) half q more) first
            (changed_within limit s half o e more x p some is mine met);
        here = range limit s half o e more x p some is mine met;
      }))

  pub stepped : Stepped limit s steps half after x
  stepped = elim (cases_eq s.parity 0) [
    | inl e0 ↦ on_even e0
    | inr ne ↦
        (let e1 : s.parity ≡ 1 = omega arith in on_odd e1)
  ]

-- ---- all steps

abbrev pub HaveParities : List CountedStep → Type 0
HaveParities steps = (j : ℕ) (d : CountedStep) → j < length steps → (get_or steps j d).parity < 2

pub parities_of : (steps : List CountedStep) → IsTrue (grows_little 16 steps) → HaveParities steps
parities_of steps little j d h = plain_parity (get_or steps j d) (plain_at 16 steps 4096 4096 j d little h)

pub range_at : (limit : ℕ) (steps : List CountedStep) (e o half after : ℕ) (x : ℕ → ℤ) (i : ℕ)
    (d : CountedStep) → 0 < half → HaveParities steps → bound_after limit steps e o ≡ Some after
    → IsWithin x half 0 e → IsWithin x half 1 o → i < length steps
    → HasRange limit (get_or steps i d) half (lift_all (take i steps) half x)
unfolding lift_all
range_at limit [] e o half after x i d some p fits even odd lt = absurd (omega arith)
range_at limit (s ∷ steps) e o half after x zero d some p fits even odd lt =
    (stepped limit s steps e o half after x some (p 0 s (omega arith)) fits even odd).here
range_at limit (s ∷ steps) e o half after x (suc i) d some p fits even odd lt =
    let next = stepped limit s steps e o half after x some (p 0 s (omega arith)) fits even odd in
    range_at limit steps next.even next.odd half after (lift s half x) i d some
    (λ j t h. p (suc j) t (omega arith)) next.fits next.even_within next.odd_within (omega arith)

pub after_within : (limit : ℕ) (steps : List CountedStep) (e o half after : ℕ) (x : ℕ → ℤ) → 0 < half
    → HaveParities steps → bound_after limit steps e o ≡ Some after → IsWithin x half 0 e
    → IsWithin x half 1 o
    → (k : ℕ) → k < 2 * half → unsigned_abs (lift_all steps half x k) ≤ after
unfolding lift_all bound_after
after_within limit [] e o half after x some p fits even odd k lt =
    let is : max e o ≡ after = same_Some (max e o) after fits in
    elim (cases_eq (k % 2) 0) [
      | inl zeroth ↦ (let place : 2 * (k / 2) + 0 ≡ k = omega arith in
          let small = even.within (k / 2) (omega arith) in
          omega (arith, subst (λ j. unsigned_abs (x j) ≤ e) place small, is))
      | inr ne ↦ (let place : 2 * (k / 2) + 1 ≡ k = omega arith in
          let small = odd.within (k / 2) (omega arith) in
          omega (arith, subst (λ j. unsigned_abs (x j) ≤ o) place small, is))
    ]
after_within limit (s ∷ steps) e o half after x some p fits even odd k lt =
    let next = stepped limit s steps e o half after x some (p 0 s (omega arith)) fits even odd in
    after_within limit steps next.even next.odd half after (lift s half x) some
    (λ j t h. p (suc j) t (omega arith)) next.fits next.even_within next.odd_within k lt

-- ---- from one bound on a line

pub of_parity : (x : ℕ → ℤ) (half m q : ℕ) → q < 2 → ((k : ℕ) → k < 2 * half → unsigned_abs (x k) ≤ m)
    → IsWithin x half q m
of_parity x half m q lt small = record { within = λ n h. small (2 * n + q) (omega arith) }

same_within : (x y : ℕ → ℤ) (half q m : ℕ) → q < 2 → ((k : ℕ) → k < 2 * half → y k ≡ x k)
    → IsWithin x half q m → IsWithin y half q m
same_within x y half q m lt same w =
    record { within = λ n h. rw (same (2 * n + q) (omega arith)) (w.within n h) }

pub range_now : (steps : List CountedStep) (half : ℕ) (x y : ℕ → ℤ) (i : ℕ) (s : CountedStep) → 0 < half
    → HaveParities steps → StaysNarrow steps half x → s ≡ get_or steps i s → i < length steps
    → ((k : ℕ) → k < 2 * half → y k ≡ lift_all (take i steps) half x k) → HasRange (2 ^ 31) s half y
range_now steps half x y i s some p narrow e lt same =
    let r = subst (λ t. HasRange (2 ^ 31) t half (lift_all (take i steps) half x)) (sym e)
    (range_at (2 ^ 31) steps narrow.most narrow.most half narrow.after x i s some p narrow.fits
    (of_parity x half narrow.most 0 (omega arith) narrow.small)
    (of_parity x half narrow.most 1 (omega arith) narrow.small) lt) in
    let q : s.parity < 2 = subst (λ t. t.parity < 2) (sym e) (p i s lt) in
    record {
      own = r.own;
      other = r.other;
      changed = same_within (lift_all (take i steps) half x) y half s.parity r.own q same r.changed;
      met = same_within (lift_all (take i steps) half x) y half (1 - s.parity) r.other
          (omega arith) same r.met;
      sum = r.sum;
      result = r.result;
    }

-- the bound that a line keeps
pub narrow_after : (steps : List CountedStep) (half most after : ℕ) (x : ℕ → ℤ) → 0 < half
    → HaveParities steps → bound_after (2 ^ 31) steps most most ≡ Some after
    → ((k : ℕ) → k < 2 * half → unsigned_abs (x k) ≤ most) → (k : ℕ) → k < 2 * half
    → unsigned_abs (lift_all steps half x k) ≤ after
narrow_after steps half most after x some p fits small =
    after_within (2 ^ 31) steps most most half after x some p fits
    (of_parity x half most 0 (omega arith) small) (of_parity x half most 1 (omega arith) small)

-- ---- the bound that the code reckons

pub bound_even : (limit : ℕ) (s : CountedStep) (steps : List CountedStep) (e o : ℕ) → s.parity ≡ 0
    → bound_after limit (s ∷ steps) e o
    ≡ option_and_then (λ more. bound_after limit steps more o) (stretched_below limit s e o)
unfolding bound_after
bound_even limit s steps e o zeroth = first_chosen s.parity _ _ zeroth

pub bound_odd : (limit : ℕ) (s : CountedStep) (steps : List CountedStep) (e o : ℕ) → s.parity ≢ 0
    → bound_after limit (s ∷ steps) e o
    ≡ option_and_then (λ more. bound_after limit steps e more) (stretched_below limit s o e)
unfolding bound_after
bound_odd limit s steps e o ne = second_chosen s.parity _ _ ne

pub bound_none : (limit : ℕ) (e o : ℕ) → bound_after limit [] e o ≡ Some (max e o)
unfolding bound_after
bound_none limit e o = refl

-- the rest of the steps from one of them on
pub rest_of : (steps : List CountedStep) (i : ℕ) (s : CountedStep) → s ≡ get_or steps i s → i < length steps
    → drop i steps ≡ s ∷ drop (i + 1) steps
rest_of steps i s e lt = drop-cons steps i s lt ∙ ap (λ t. t ∷ drop (suc i) steps) (sym e)
    ∙ ap (λ n. s ∷ drop n steps) (sym (add-one i))

-- ---- a bound that is carried on is no less than it was

more_covers : (limit : ℕ) (s : CountedStep) (own other more : ℕ)
    → stretched_below limit s own other ≡ Some more → own ≤ more
more_covers limit s own other more fits =
    (let is : stretched s own other
    ≡ more = (both_below (nat_lt (rounded_sum s other) limit) (nat_lt (stretched s own other) limit)
    (stretched s own other) more fits).2 in omega (arith, is))

pub bound_covers : (limit : ℕ) (steps : List CountedStep) (e o m : ℕ) → bound_after limit steps e o ≡ Some m
    → (e ≤ m) × (o ≤ m)
bound_covers limit [] e o m fits =
    (let is : max e o ≡ m = same_Some (max e o) m (sym (bound_none limit e o) ∙ fits) in
    (omega (arith, is), omega (arith, is)))
bound_covers limit (s ∷ steps) e o m fits = elim (cases_eq s.parity 0) [
  | inl zeroth ↦ option_and_then_some (λ (more : ℕ). bound_after limit steps more o)
      (stretched_below limit s e o) m (sym (bound_even limit s steps e o zeroth) ∙ fits)
      (λ more is rest. (let first = more_covers limit s e o more is in
      let c = bound_covers limit steps more o m rest in (omega (arith, first, c.0), c.1)))
  | inr ne ↦ option_and_then_some (λ (more : ℕ). bound_after limit steps e more)
      (stretched_below limit s o e) m (sym (bound_odd limit s steps e o ne) ∙ fits)
      (λ more is rest. (let first = more_covers limit s o e more is in
      let c = bound_covers limit steps e more m rest in (c.0, omega (arith, first, c.1))))
]

pub narrow_covers : (wavelet most after : ℕ) → narrow_bound wavelet most ≡ Some after → most ≤ after
narrow_covers wavelet most after fits =
    (bound_covers (2 ^ 31) (counted_synthesis wavelet) most most after fits).0

-- what synthesis makes of a line
pub synthesis_after : (wavelet half most after : ℕ) (x : ℕ → ℤ) → 0 < half
    → narrow_bound wavelet most ≡ Some after → ((k : ℕ) → k < 2 * half → unsigned_abs (x k) ≤ most) → (k : ℕ)
    → k < 2 * half → unsigned_abs (synthesised wavelet (2 * half) x k) ≤ after
unfolding counted_steps
synthesis_after wavelet half most after x some fits small k h =
    rw (ap (λ f. f k) (synthesised_counted wavelet half x))
    (narrow_after (counted_synthesis wavelet) half most after x some
    (parities_of (counted_synthesis wavelet) (synthesis_little wavelet)) fits small k h)

pub narrow_analysis_covers : (wavelet most after : ℕ) → narrow_analysis_bound wavelet most ≡ Some after
    → most ≤ after
narrow_analysis_covers wavelet most after fits =
    (bound_covers (2 ^ 31) (counted_analysis wavelet) most most after fits).0

-- what analysis makes of a line
pub analysis_after : (wavelet half most after : ℕ) (x : ℕ → ℤ) → 0 < half
    → narrow_analysis_bound wavelet most ≡ Some after → ((k : ℕ) → k < 2 * half → unsigned_abs (x k) ≤ most)
    → (k : ℕ) → k < 2 * half → unsigned_abs (analysed wavelet (2 * half) x k) ≤ after
unfolding counted_steps
analysis_after wavelet half most after x some fits small k h =
    rw (ap (λ f. f k) (analysed_counted wavelet half x))
    (narrow_after (counted_analysis wavelet) half most after x some
    (parities_of (counted_analysis wavelet) (analysis_little wavelet)) fits small k h)
