-- A run along a line whose halves are whole, all of whose samples have their taps inside it.
use Rattle.std.proofs.Common.{◌≡◌, ◌≢◌, ℕ, ◌+◌, ◌-◌, ◌*◌, ◌/◌, ◌%◌, ◌<◌, ◌≤◌, ◌⊎◌, inl, inr, List, length, ℤ}
use Rattle.std.proofs.Common.{arith, ap, sym, ◌∙◌, subst, min}
use Rattle.std.proofs.lemmas.Bool.{cases_eq, cases_lt}
use Rattle.vc_types.specs.Lifting.{line_of, changed_by}
use Rattle.vc_lift.specs.declared.halves.Halves.{Halves}
use Rattle.vc_lift.specs.CountedSteps.{CountedStep, place_met, change_at, lift_between}
use Rattle.vc_lift.specs.Halves.{half_start, halves_place, line_in, AreLines, AreMade, StandApart, CanRun}
use Rattle.vc_lift.specs.Ranges.{HasRangeAt}
use Rattle.vc_lift.specs.Runs.{IsChanged}
use Rattle.vc_lift.proofs.HalfPlaces.{place_at, outside_run}
use Rattle.vc_lift.proofs.NarrowSums.{same_change, same_room}
use Rattle.vc_lift.proofs.Betweens.{between_in, between_below, between_past, between_other}

-- two stretches without a cell in common lie apart
stretches_apart : (a b n : ℕ) → ((x y : ℕ) → x < n → y < n → a + x ≢ b + y) → StandApart n a b
stretches_apart a b n none = elim (cases_lt b (a + n)) [
  | inr past ↦ inl past
  | inl within ↦ elim (cases_lt a (b + n)) [
    | inr past ↦ inr past
    | inl both ↦ elim (cases_lt a b) [
      | inl before ↦ absurd (none (b - a) 0 (omega arith) (omega arith) (omega arith))
      | inr after ↦ absurd (none 0 (a - b) (omega arith) (omega arith) (omega arith))
    ]
  ]
]

one_apart : (i j : ℕ) → StandApart 1 i j → i ≢ j
one_apart i j (inl before) e = omega arith
one_apart i j (inr past) e = omega arith

module _ (s : CountedStep) (h : Halves) (lo hi len : ℕ) (p : s.parity < 2) (whole : h.pitch ≡ 1)
    (some : lo < hi) (within : hi ≤ h.half) (left : s.back ≤ lo)
    (right : hi + length s.taps ≤ h.half + s.back + 1) (lines : AreLines h 1 len) where
  -- sample number n of a parity, counted from number lo
  along : (q n : ℕ) → q < 2 → halves_place h (2 * n + q) ≡ half_start h q + n
  along q n lt = place_at h n q lt ∙ ap (λ m. half_start h q + n * m) whole ∙ omega arith

  own_along : (n : ℕ) → lo ≤ n
      → halves_place h (2 * n + s.parity) ≡ halves_place h (2 * lo + s.parity) + (n - lo)
  own_along n from = along s.parity n p ∙ omega (arith, along s.parity lo p)

  -- the number of the sample that tap j meets beside number lo + x
  inner : (j x : ℕ) → j < length s.taps → x < hi - lo
      → min (lo + x + j - s.back) (h.half - 1) ≡ lo - s.back + j + x
  inner j x lt below = omega arith

  met_start : (j x : ℕ) → j < length s.taps → x < hi - lo
      → halves_place h (place_met s h.half (lo + x) j) ≡ half_start h (1 - s.parity) + (lo - s.back + j) + x
  met_start j x lt below = along (1 - s.parity) (min (lo + x + j - s.back) (h.half - 1)) (omega arith)
      ∙ ap (λ m. half_start h (1 - s.parity) + m) (inner j x lt below) ∙ omega arith

  first_met : (j : ℕ) → j < length s.taps
      → halves_place h (place_met s h.half lo j) ≡ half_start h (1 - s.parity) + (lo - s.back + j)
  first_met j lt =
      let none : lo + 0 ≡ lo = omega arith in
      ap (λ n. halves_place h (place_met s h.half n j)) (sym none) ∙ met_start j 0 lt (omega arith)
      ∙ omega arith

  met_along : (j x : ℕ) → j < length s.taps → x < hi - lo
      → halves_place h (place_met s h.half lo j) + x ≡ halves_place h (place_met s h.half (lo + x) j)
  met_along j x lt below = ap (λ n. n + x) (first_met j lt) ∙ sym (met_start j x lt below)

  met_inside : (n j : ℕ) → place_met s h.half n j < 2 * h.half
  met_inside n j = (let half = lines.some in omega arith)

  distinct : (j x y : ℕ) → j < length s.taps → x < hi - lo → y < hi - lo
      → halves_place h (place_met s h.half lo j) + x ≢ halves_place h (2 * lo + s.parity) + y
  distinct j x y lt a b e =
      let parities : place_met s h.half (lo + x) j ≢ 2 * (lo + y) + s.parity = λ same. omega arith in
      let number : lo + y - lo ≡ y = omega arith in
      one_apart (halves_place h (place_met s h.half (lo + x) j)) (halves_place h (2 * (lo + y) + s.parity))
      (lines.apart (place_met s h.half (lo + x) j) (2 * (lo + y) + s.parity) (met_inside (lo + x) j)
      (omega arith) parities)
      (sym (met_along j x lt a) ∙ e
      ∙ sym (own_along (lo + y) (omega arith) ∙ ap (λ n. halves_place h (2 * lo + s.parity) + n) number))

  pub inside_run : CanRun s h lo (hi - lo) len
  inside_run = record {
    at = (let last = lines.inside (2 * (hi - 1) + s.parity) (omega arith) in
        let place = own_along (hi - 1) (omega arith) in omega (arith, last, place));
    met = λ j lt.
        (let last = lines.inside (place_met s h.half (lo + (hi - lo - 1)) j)
        (met_inside (lo + (hi - lo - 1)) j) in
        let place = met_along j (hi - lo - 1) lt (omega arith) in
        omega (arith, last, place));
    apart = λ j lt. stretches_apart (halves_place h (place_met s h.half lo j))
        (halves_place h (2 * lo + s.parity)) (hi - lo) (λ x y a b. distinct j x y lt a b);
  }

  -- the line x places on, beside number lo, is the line itself beside number lo + x
  line_along : (cells : List ℤ) (j x : ℕ) → j < length s.taps → x < hi - lo
      → line_in h cells x (place_met s h.half lo j) ≡ line_in h cells 0 (place_met s h.half (lo + x) j)
  line_along cells j x lt below = ap (line_of cells) (met_along j x lt below ∙ omega arith)

  sample_along : (cells : List ℤ) (x : ℕ)
      → line_in h cells x (2 * lo + s.parity) ≡ line_in h cells 0 (2 * (lo + x) + s.parity)
  sample_along cells x =
      (let number : lo + x - lo ≡ x = omega arith in let place = own_along (lo + x) (omega arith) in
      ap (line_of cells) (omega (arith, place, number)))

  pub inside_room : (limit : ℕ) (cells : List ℤ) (x : ℕ) → x < hi - lo
      → HasRangeAt limit s h.half (line_in h cells 0) (lo + x)
      → HasRangeAt limit s h.half (line_in h cells x) lo
  inside_room limit cells x below room =
      same_room s h.half (line_in h cells x) (line_in h cells 0) lo (lo + x) limit
      (λ j lt. line_along cells j x lt below) (sample_along cells x) room

  module _ (old new : List ℤ) (run : IsChanged s h lo (hi - lo) old new) where
    -- a cell outside the run
    outside : (i : ℕ) → ((x : ℕ) → x < hi - lo → i ≢ halves_place h (2 * lo + s.parity) + x)
        → line_of new i ≡ line_of old i
    outside i none = run.off i (outside_run i (halves_place h (2 * lo + s.parity)) (hi - lo) none)

    run_place : (x : ℕ) → halves_place h (2 * lo + s.parity) + x
        ≡ halves_place h (2 * (lo + x) + s.parity) + 0
    run_place x = (let number : lo + x - lo ≡ x = omega arith in
        let place = own_along (lo + x) (omega arith) in omega (arith, place, number))

    kept : (k : ℕ) → k < 2 * h.half → ((x : ℕ) → x < hi - lo → k ≢ 2 * (lo + x) + s.parity)
        → line_in h new 0 k ≡ line_in h old 0 k
    kept k below none = outside (halves_place h k + 0) (λ x lt e.
        one_apart (halves_place h k) (halves_place h (2 * (lo + x) + s.parity))
        (lines.apart k (2 * (lo + x) + s.parity) below (omega arith) (none x lt))
        (omega (arith, e, run_place x)))

    changed : (x : ℕ) → x < hi - lo
        → line_in h new 0 (2 * (lo + x) + s.parity)
        ≡ lift_between s h.half lo hi (line_in h old 0) (2 * (lo + x) + s.parity)
    changed x lt =
        let parity : (2 * (lo + x) + s.parity) % 2 ≡ s.parity = omega arith in
        let number : (2 * (lo + x) + s.parity) / 2 ≡ lo + x = omega arith in
        ap (line_of new) (sym (run_place x)) ∙ run.on x lt
        ∙ ap (λ z. changed_by s.adds z (change_at s h.half (line_in h old x) lo)) (sample_along old x)
        ∙ ap (changed_by s.adds (line_in h old 0 (2 * (lo + x) + s.parity)))
        (same_change s h.half (line_in h old x) (line_in h old 0) lo (lo + x)
        (λ j below. line_along old j x below lt))
        ∙ ap (λ m. changed_by s.adds (line_in h old 0 (2 * (lo + x) + s.parity))
        (change_at s h.half (line_in h old 0) m)) (sym number)
        ∙ sym (between_in s h.half lo hi (line_in h old 0) (2 * (lo + x) + s.parity) (omega (arith, number))
        (omega (arith, number)) parity)

    at_sample : (k : ℕ) → k < 2 * h.half → (k % 2 ≡ s.parity) ⊎ (k % 2 ≢ s.parity)
        → (k / 2 < lo) ⊎ (lo ≤ k / 2) → (k / 2 < hi) ⊎ (hi ≤ k / 2)
        → line_in h new 0 k ≡ lift_between s h.half lo hi (line_in h old 0) k
    at_sample k below (inr other) any each = kept k below (λ x lt e. other (ap (λ n. n % 2) e ∙ omega arith))
        ∙ sym (between_other s h.half lo hi (line_in h old 0) k other)
    at_sample k below (inl same) (inl before) any = kept k below (λ x lt e. omega arith)
        ∙ sym (between_below s h.half lo hi (line_in h old 0) k before)
    at_sample k below (inl same) (inr from) (inr past) = kept k below (λ x lt e. omega arith)
        ∙ sym (between_past s h.half lo hi (line_in h old 0) k past)
    at_sample k below (inl same) (inr from) (inl inside) =
        let place : 2 * (lo + (k / 2 - lo)) + s.parity ≡ k = omega arith in
        subst (λ n. line_in h new 0 n ≡ lift_between s h.half lo hi (line_in h old 0) n) place
        (changed (k / 2 - lo) (omega arith))

    pub inside_made : AreMade (lift_between s h.half lo hi) h 1 old new
    inside_made = record {
      on = λ x k one below. (let first : 0 ≡ x = omega arith in
          subst (λ u. line_in h new u k ≡ lift_between s h.half lo hi (line_in h old u) k) first
          (at_sample k below (cases_eq (k % 2) s.parity) (cases_lt (k / 2) lo) (cases_lt (k / 2) hi)));
      off = λ i none. outside i
          (λ x lt e. none 0 (2 * (lo + x) + s.parity) (omega arith) (omega arith) (e ∙ run_place x));
    }
