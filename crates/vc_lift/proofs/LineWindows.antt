-- What steps make of a part of a line: away from an end at which it was cut, what they make of the whole line.
use Rattle.std.proofs.Common.{◌≡◌, ℕ, ◌+◌, ◌*◌, ◌/◌, ◌%◌, ◌<◌, ◌≤◌, ◌⊎◌, inl, inr, ◌-◌, zero, suc, List, []}
use Rattle.std.proofs.Common.{◌∷◌, length, ℤ, pos, ◌+ℤ◌, ◌*ℤ◌, arith, ap, refl, sym, ◌∙◌, slice_index_or, drop, get_or}
use Rattle.std.specs.Int.{int_shr}
use Rattle.std.proofs.lemmas.Bool.Decides.{nat_tests}
use Rattle.vc_types.specs.Lifting.{half_of}
use Rattle.vc_types.specs.Wavelets.{synthesis_steps, synthesised}
use Rattle.vc_lift.specs.CountedSteps.{CountedStep, place_met, sum_met, change_at, lift, lift_all, sum_below}
use Rattle.vc_lift.specs.Ranges.{counted_synthesis}
use Rattle.vc_lift.specs.Reach.{steps_back, steps_ahead, reach_back, reach_ahead, HoldsPairs}
use Rattle.vc_lift.proofs.CountedSteps.{counted_steps, synthesised_counted}
use Rattle.vc_lift.proofs.NarrowGrowth.{rest_of}

-- sums of terms that are the same
same_sum : (n : ℕ) (f g : ℕ → ℤ) → ((j : ℕ) → j < n → f j ≡ g j) → sum_below n f ≡ sum_below n g
unfolding sum_below
same_sum zero f g e = refl
same_sum (suc n) f g e = ap (λ z. z +ℤ f n) (same_sum n f g (λ j l. e j (omega (arith, l)))) ∙ ap (λ z. sum_below n g +ℤ z) (e n (omega arith))

-- the part has the pairs a to a + m - 1 of the h pairs of the whole line
module _ (a m h : ℕ) (some : 0 < m) (inside : a + m ≤ h) where
  -- a part and a whole line have the same samples in the pairs lo to hi - 1 of the whole line
  abbrev pub Agree : ℕ → ℕ → (ℕ → ℤ) → (ℕ → ℤ) → Type 0
  Agree lo hi y x = (k : ℕ) → lo ≤ a + k / 2 → a + k / 2 < hi → y k ≡ x (2 * a + k)

  -- pairs from lo to hi agree before a step, and those from lo2 to hi2 behind it
  pub record Shrinks (s : CountedStep) (lo hi lo2 hi2 : ℕ) : Type 0 where
    pub first : a ≤ lo
    pub last : hi ≤ a + m
    pub less : lo ≤ lo2
    pub fewer : hi2 ≤ hi
    pub left : (a ≡ 0) × (lo ≡ 0) ⊎ (lo + s.back ≤ lo2)
    pub right : (a + m ≡ h) × (hi ≡ h) ⊎ (hi2 + length s.taps ≤ hi + s.back + 1)

  same_met : (s : CountedStep) (lo hi lo2 hi2 : ℕ) → Shrinks s lo hi lo2 hi2 → (n j : ℕ) → lo2 ≤ a + n → a + n < hi2 → j < length s.taps → 2 * a + place_met s m n j ≡ place_met s h (a + n) j
  same_met s lo hi lo2 hi2 c n j l u t = elim c.left [
    | inl b ↦ (elim c.right [
      | inl d ↦ omega (arith, c.first, c.last, c.less, c.fewer, b.0, b.1, d.0, d.1, l, u, t)
      | inr d ↦ omega (arith, c.first, c.last, c.less, c.fewer, b.0, b.1, d, l, u, t)
    ])
    | inr b ↦ (elim c.right [
      | inl d ↦ omega (arith, c.first, c.last, c.less, c.fewer, b, d.0, d.1, l, u, t)
      | inr d ↦ omega (arith, c.first, c.last, c.less, c.fewer, b, d, l, u, t)
    ])
  ]

  met_inside : (s : CountedStep) (lo hi lo2 hi2 : ℕ) → Shrinks s lo hi lo2 hi2 → (n j : ℕ) → lo2 ≤ a + n → a + n < hi2 → j < length s.taps → (lo ≤ a + place_met s m n j / 2) × (a + place_met s m n j / 2 < hi)
  met_inside s lo hi lo2 hi2 c n j l u t = elim c.left [
    | inl b ↦ (elim c.right [
      | inl d ↦ (omega (arith, c.first, c.last, c.less, c.fewer, b.0, b.1, d.0, d.1, l, u, t), omega (arith, c.first, c.last, c.less, c.fewer, b.0, b.1, d.0, d.1, l, u, t))
      | inr d ↦ (omega (arith, c.first, c.last, c.less, c.fewer, b.0, b.1, d, l, u, t), omega (arith, c.first, c.last, c.less, c.fewer, b.0, b.1, d, l, u, t))
    ])
    | inr b ↦ (elim c.right [
      | inl d ↦ (omega (arith, c.first, c.last, c.less, c.fewer, b, d.0, d.1, l, u, t), omega (arith, c.first, c.last, c.less, c.fewer, b, d.0, d.1, l, u, t))
      | inr d ↦ (omega (arith, c.first, c.last, c.less, c.fewer, b, d, l, u, t), omega (arith, c.first, c.last, c.less, c.fewer, b, d, l, u, t))
    ])
  ]

  same_change : (s : CountedStep) (lo hi lo2 hi2 : ℕ) → Shrinks s lo hi lo2 hi2 → (y x : ℕ → ℤ) → Agree lo hi y x → (n : ℕ) → lo2 ≤ a + n → a + n < hi2 → change_at s m y n ≡ change_at s h x (a + n)
  unfolding change_at sum_met
  same_change s lo hi lo2 hi2 c y x e n l u =
      ap (λ z. int_shr (z +ℤ pos (half_of s.shift)) s.shift)
      (same_sum (length s.taps) (λ j. slice_index_or s.taps j (pos 0) *ℤ y (place_met s m n j)) (λ j. slice_index_or s.taps j (pos 0) *ℤ x (place_met s h (a + n) j))
      (λ j t. let within = met_inside s lo hi lo2 hi2 c n j l u t in
      ap (λ z. slice_index_or s.taps j (pos 0) *ℤ z) (e (place_met s m n j) within.0 within.1 ∙ ap x (same_met s lo hi lo2 hi2 c n j l u t))))

  -- a step on the part
  pub part_lift : (s : CountedStep) (lo hi lo2 hi2 : ℕ) → Shrinks s lo hi lo2 hi2 → (y x : ℕ → ℤ) → Agree lo hi y x → Agree lo2 hi2 (lift s m y) (lift s h x)
  unfolding lift
  part_lift s lo hi lo2 hi2 c y x e k l u =
      let half : (2 * a + k) / 2 ≡ a + k / 2 = omega arith in
      let rest : (2 * a + k) % 2 ≡ k % 2 = omega arith in
      let here : k / 2 < m = omega (arith, c.last, c.fewer, u) in
      let there : a + k / 2 < h = omega (arith, here, inside) in
      let same : y k ≡ x (2 * a + k) = e k (omega (arith, c.less, l)) (omega (arith, c.fewer, u)) in
      let change = same_change s lo hi lo2 hi2 c y x e (k / 2) l u in
      rw half (rw rest (grind (arith, nat_tests, same, change, here, there)))

  -- and steps one after another, each of which leaves fewer pairs
  pub Shrink : List CountedStep → ℕ → ℕ → ℕ → ℕ → Type 0
  Shrink [] lo hi lo2 hi2 = (lo ≤ lo2) × (hi2 ≤ hi)
  Shrink (s ∷ steps) lo hi lo2 hi2 = (lo1 : ℕ) × (hi1 : ℕ) × Shrinks s lo hi lo1 hi1 × Shrink steps lo1 hi1 lo2 hi2

  pub part_lift_all : (steps : List CountedStep) (lo hi lo2 hi2 : ℕ) → Shrink steps lo hi lo2 hi2 → (y x : ℕ → ℤ) → Agree lo hi y x → Agree lo2 hi2 (lift_all steps m y) (lift_all steps h x)
  unfolding lift_all Shrink
  part_lift_all [] lo hi lo2 hi2 c y x e k l u = e k (omega (arith, c.0, l)) (omega (arith, c.1, u))
  part_lift_all (s ∷ steps) lo hi lo2 hi2 (lo1, hi1, c, more) y x e k l u = part_lift_all steps lo1 hi1 lo2 hi2 more (lift s m y) (lift s h x) (part_lift s lo hi lo1 hi1 c y x e) k l u

  -- as far as all steps reach together, except at an end of the whole line
  pub shrink_of : (steps : List CountedStep) (lo hi lo2 hi2 : ℕ) → a ≤ lo → hi ≤ a + m → lo ≤ lo2 → hi2 ≤ hi
      → (a ≡ 0) × (lo ≡ 0) ⊎ (lo + steps_back steps ≤ lo2)
      → (a + m ≡ h) × (hi ≡ h) ⊎ (hi2 + steps_ahead steps ≤ hi) → Shrink steps lo hi lo2 hi2
  unfolding Shrink steps_back steps_ahead
  shrink_of [] lo hi lo2 hi2 first last less fewer left right = (less, fewer)
  shrink_of (s ∷ steps) lo hi lo2 hi2 first last less fewer (inl b) (inl d) = (
    lo,
    hi,
    record { first = first; last = last; less = omega arith; fewer = omega arith; left = inl b; right = inl d },
    shrink_of steps lo hi lo2 hi2 first last less fewer (inl b) (inl d),
  )
  shrink_of (s ∷ steps) lo hi lo2 hi2 first last less fewer (inl b) (inr d) =
      let hi1 = hi - (length s.taps - s.back - 1) in (
        lo,
        hi1,
        record {
          first = first;
          last = last;
          less = omega arith;
          fewer = omega arith;
          left = inl b;
          right = inr (omega (arith, d));
        },
        shrink_of steps lo hi1 lo2 hi2 first (omega (arith, last)) less (omega (arith, d)) (inl b)
            (inr (omega (arith, d))),
      )
  shrink_of (s ∷ steps) lo hi lo2 hi2 first last less fewer (inr b) (inl d) = (
    lo + s.back,
    hi,
    record {
      first = first;
      last = last;
      less = omega arith;
      fewer = omega arith;
      left = inr (omega arith);
      right = inl d;
    },
    shrink_of steps (lo + s.back) hi lo2 hi2 (omega (arith, first)) last (omega (arith, b)) fewer
        (inr (omega (arith, b))) (inl d),
  )
  shrink_of (s ∷ steps) lo hi lo2 hi2 first last less fewer (inr b) (inr d) =
      let hi1 = hi - (length s.taps - s.back - 1) in (
        lo + s.back,
        hi1,
        record {
          first = first;
          last = last;
          less = omega arith;
          fewer = omega arith;
          left = inr (omega arith);
          right = inr (omega (arith, d));
        },
        shrink_of steps (lo + s.back) hi1 lo2 hi2 (omega (arith, first)) (omega (arith, last)) (omega (arith, b))
            (omega (arith, d)) (inr (omega (arith, b))) (inr (omega (arith, d))),
      )

-- ---- synthesis

-- a part of a line that holds enough pairs for some of them gives of these what the whole line gives
pub synthesis_in_part : (wavelet h from to first pairs : ℕ) → HoldsPairs wavelet h from to first pairs
    → (y x : ℕ → ℤ) → ((k : ℕ) → k < 2 * pairs → y k ≡ x (2 * first + k)) → (k : ℕ) → from ≤ first + k / 2
    → first + k / 2 < to → synthesised wavelet (2 * pairs) y k ≡ synthesised wavelet (2 * h) x (2 * first + k)
unfolding counted_steps
synthesis_in_part wavelet h from to first pairs holds y x same k low high =
    let steps = counted_synthesis wavelet in
    let left : (first ≡ 0) × (first ≡ 0) ⊎ (first + steps_back steps ≤ from) =
    elim holds.left [ inl e ↦ inl (e, e) | inr l ↦ inr l ] in
    let right : (first + pairs ≡ h) × (first + pairs ≡ h) ⊎ (to + steps_ahead steps ≤ first + pairs) =
    elim holds.right [ inl e ↦ inl (e, e) | inr l ↦ inr l ] in
    ap (λ f. f k) (synthesised_counted wavelet pairs y)
    ∙ part_lift_all first pairs h holds.some holds.inside steps first (first + pairs) from to
    (shrink_of first pairs h holds.some holds.inside steps first (first + pairs) from to (omega arith)
    (omega arith) holds.begins holds.ends left right)
    y x (λ j l u. same j (omega (arith, u))) k low high
    ∙ sym (ap (λ f. f (2 * first + k)) (synthesised_counted wavelet h x))

-- ---- sums of the reaches of steps

pub back_rest : (steps : List CountedStep) (i : ℕ) (s : CountedStep) → s ≡ get_or steps i s → i < length steps
    → steps_back (drop i steps) ≡ s.back + steps_back (drop (i + 1) steps)
unfolding steps_back
back_rest steps i s e lt = ap steps_back (rest_of steps i s e lt)

pub ahead_rest : (steps : List CountedStep) (i : ℕ) (s : CountedStep) → s ≡ get_or steps i s → i < length steps
    → steps_ahead (drop i steps) ≡ length s.taps - s.back - 1 + steps_ahead (drop (i + 1) steps)
unfolding steps_ahead
ahead_rest steps i s e lt = ap steps_ahead (rest_of steps i s e lt)

-- of the seven wavelets
pub reach_small : (wavelet : ℕ) → reach_back wavelet + reach_ahead wavelet ≤ 16
unfolding synthesis_steps steps_back steps_ahead
reach_small zero = omega arith
reach_small (suc zero) = omega arith
reach_small (suc (suc zero)) = omega arith
reach_small (suc (suc (suc zero))) = omega arith
reach_small (suc (suc (suc (suc zero)))) = omega arith
reach_small (suc (suc (suc (suc (suc zero))))) = omega arith
reach_small (suc (suc (suc (suc (suc (suc zero)))))) = omega arith
reach_small (suc (suc (suc (suc (suc (suc (suc n))))))) = omega arith
