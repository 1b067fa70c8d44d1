-- Steps on some samples of a line, and where they are made in cells.
use Rattle.std.proofs.Common.{◌≡◌, ◌≢◌, ℕ, ◌+◌, ◌-◌, ◌*◌, ◌/◌, ◌%◌, ◌<◌, ◌≤◌, ◌⊎◌, inl, inr, List, ℤ, arith}
use Rattle.std.proofs.Common.{ap, sym, ◌∙◌, min}
use Rattle.std.proofs.lemmas.Bool.{cases_eq, cases_lt}
use Rattle.std.proofs.lemmas.Bool.Decides.{nat_tests}
use Rattle.vc_types.specs.Lifting.{changed_by}
use Rattle.vc_lift.specs.declared.halves.Halves.{Halves}
use Rattle.vc_lift.specs.CountedSteps.{CountedStep, place_met, change_at, lift, lift_between}
use Rattle.vc_lift.specs.Halves.{halves_place, line_in, AreLines, AreMade, CanRun}
use Rattle.vc_lift.specs.Ranges.{HasRangeAt, HasRange}
use Rattle.vc_lift.specs.Runs.{IsChanged}
use Rattle.vc_lift.proofs.HalfPlaces.{outside_run}
use Rattle.vc_lift.proofs.NarrowSums.{same_change, same_room}

-- ---- at a sample

pub between_in : (s : CountedStep) (half lo hi : ℕ) (x : ℕ → ℤ) (k : ℕ) → lo ≤ k / 2 → k / 2 < hi
    → k % 2 ≡ s.parity → lift_between s half lo hi x k ≡ changed_by s.adds (x k) (change_at s half x (k / 2))
unfolding lift_between
between_in s half lo hi x k a b c = grind (arith, nat_tests)

pub between_below : (s : CountedStep) (half lo hi : ℕ) (x : ℕ → ℤ) (k : ℕ) → k / 2 < lo
    → lift_between s half lo hi x k ≡ x k
unfolding lift_between
between_below s half lo hi x k a = grind (arith, nat_tests)

pub between_past : (s : CountedStep) (half lo hi : ℕ) (x : ℕ → ℤ) (k : ℕ) → hi ≤ k / 2
    → lift_between s half lo hi x k ≡ x k
unfolding lift_between
between_past s half lo hi x k a = grind (arith, nat_tests)

pub between_other : (s : CountedStep) (half lo hi : ℕ) (x : ℕ → ℤ) (k : ℕ) → k % 2 ≢ s.parity
    → lift_between s half lo hi x k ≡ x k
unfolding lift_between
between_other s half lo hi x k a = grind (arith, nat_tests)

pub between_none : (s : CountedStep) (half lo : ℕ) (x : ℕ → ℤ) (k : ℕ) → x k ≡ lift_between s half lo lo x k
between_none s half lo x k =
    elim (cases_lt (k / 2) lo) [
      | inl h ↦ sym (between_below s half lo lo x k h)
      | inr h ↦ sym
          (between_past s half lo lo x k h)
    ]

pub between_all : (s : CountedStep) (half : ℕ) (x : ℕ → ℤ) (k : ℕ) → k < 2 * half
    → lift_between s half 0 half x k ≡ lift s half x k
unfolding lift_between lift
between_all s half x k h = grind (arith, nat_tests)

met_below : (s : CountedStep) (half n j : ℕ) → 0 < half → s.parity < 2 → place_met s half n j < 2 * half
met_below s half n j some p = omega arith

met_parity : (s : CountedStep) (half n j : ℕ) → s.parity < 2 → place_met s half n j % 2 ≢ s.parity
met_parity s half n j p e = omega arith

-- ---- some samples more

module _ (s : CountedStep) (half lo mid hi : ℕ) (x y : ℕ → ℤ) (some : 0 < half) (p : s.parity < 2)
    (low : lo ≤ mid) (high : mid ≤ hi)
    (same : (k : ℕ) → k < 2 * half → y k ≡ lift_between s half lo mid x k) where
  met_same : (n j : ℕ) → y (place_met s half n j) ≡ x (place_met s half n j)
  met_same n j = same (place_met s half n j) (met_below s half n j some p)
      ∙ between_other s half lo mid x (place_met s half n j) (met_parity s half n j p)

  at_parity : (k : ℕ) → k < 2 * half → k % 2 ≡ s.parity → (k / 2 < mid) ⊎ (mid ≤ k / 2)
      → (k / 2 < lo) ⊎ (lo ≤ k / 2) → (k / 2 < hi) ⊎ (hi ≤ k / 2)
      → lift_between s half mid hi y k ≡ lift_between s half lo hi x k
  at_parity k h e (inl before) (inl below) any = between_below s half mid hi y k before ∙ same k h
      ∙ between_below s half lo mid x k below ∙ sym (between_below s half lo hi x k below)
  at_parity k h e (inl before) (inr from) any = between_below s half mid hi y k before ∙ same k h
      ∙ between_in s half lo mid x k from before e ∙ sym (between_in s half lo hi x k from (omega arith) e)
  at_parity k h e (inr after) any (inl within) =
      between_in s half mid hi y k after within e
      ∙ ap (λ z. changed_by s.adds z (change_at s half y (k / 2)))
      (same k h ∙ between_past s half lo mid x k after)
      ∙ ap (changed_by s.adds (x k)) (same_change s half y x (k / 2) (k / 2) (λ j lt. met_same (k / 2) j))
      ∙ sym (between_in s half lo hi x k (omega arith) within e)
  at_parity k h e (inr after) any (inr past) = between_past s half mid hi y k past ∙ same k h
      ∙ between_past s half lo mid x k after ∙ sym (between_past s half lo hi x k past)

  between_more : (k : ℕ) → k < 2 * half → lift_between s half mid hi y k ≡ lift_between s half lo hi x k
  between_more k h = elim (cases_eq (k % 2) s.parity) [
    | inl e ↦ at_parity k h e (cases_lt (k / 2) mid) (cases_lt (k / 2) lo) (cases_lt (k / 2) hi)
    | inr ne ↦ between_other s half mid hi y k ne ∙ same k h ∙ between_other s half lo mid x k ne
        ∙ sym (between_other s half lo hi x k ne)
  ]

  -- the samples that are left have the same room
  room_left : (limit n : ℕ) → mid ≤ n → n < half → HasRangeAt limit s half x n → HasRangeAt limit s half y n
  room_left limit n from lt room =
      let number : (2 * n + s.parity) / 2 ≡ n = omega arith in
      same_room s half y x n n limit (λ j h. met_same n j)
      (same (2 * n + s.parity) (omega arith)
      ∙ between_past s half lo mid x (2 * n + s.parity) (omega (arith, number))) room

-- bounds on a line give room beside each sample
pub room_at : (limit : ℕ) (s : CountedStep) (half : ℕ) (x : ℕ → ℤ) (n : ℕ) → n < half
    → HasRange limit s half x → HasRangeAt limit s half x n
room_at limit s half x n h r = record {
  other = r.other;
  met = λ j lt. r.met.within (min (n + j - s.back) (half - 1)) (omega arith);
  sum = r.sum;
  result = (let own = r.changed.within n h in omega (arith, own, r.result));
}

-- ---- one number of each line

module _ (s : CountedStep) (h : Halves) (n width len : ℕ) (p : s.parity < 2) (at : n < h.half)
    (lines : AreLines h width len) where
  pub number_run : CanRun s h n width len
  number_run = record {
    at = lines.inside (2 * n + s.parity) (omega arith);
    met = λ j lt. lines.inside (place_met s h.half n j) (met_below s h.half n j lines.some p);
    apart = λ j lt. lines.apart (place_met s h.half n j) (2 * n + s.parity)
        (met_below s h.half n j lines.some p) (omega arith)
        (λ e. met_parity s h.half n j p (ap (λ k. k % 2) e ∙ omega arith));
  }

  module _ (old new : List ℤ) (changed : IsChanged s h n width old new) where
    number_kept : (x k : ℕ) → x < width → k < 2 * h.half → k ≢ 2 * n + s.parity
        → line_in h new x k ≡ line_in h old x k
    number_kept x k lt below ne =
        changed.off (halves_place h k + x)
        (elim (lines.apart k (2 * n + s.parity) below
        (omega arith) ne) [ inl before ↦ inl (omega arith) | inr past ↦ inr (omega arith) ])

    number_at : (x k : ℕ) → x < width → k < 2 * h.half → (k ≡ 2 * n + s.parity) ⊎ (k ≢ 2 * n + s.parity)
        → line_in h new x k ≡ lift_between s h.half n (n + 1) (line_in h old x) k
    number_at x k lt below (inl e) =
        let parity : (2 * n + s.parity) % 2 ≡ s.parity = omega arith in
        let number : (2 * n + s.parity) / 2 ≡ n = omega arith in
        rw e
        (changed.on x lt ∙ ap
        (λ m. changed_by s.adds (line_in h old x (2 * n + s.parity))
        (change_at s h.half (line_in h old x) m)) (sym number)
        ∙ sym (between_in s h.half n (n + 1) (line_in h old x) (2 * n + s.parity) (omega (arith, number))
        (omega (arith, number)) parity))
    number_at x k lt below (inr ne) = number_kept x k lt below ne
        ∙ sym (elsewhere (cases_eq (k % 2) s.parity) (cases_lt (k / 2) n))
      where
        elsewhere : (k % 2 ≡ s.parity) ⊎ (k % 2 ≢ s.parity) → (k / 2 < n) ⊎ (n ≤ k / 2)
            → lift_between s h.half n (n + 1) (line_in h old x) k ≡ line_in h old x k
        elsewhere (inr other) any = between_other s h.half n (n + 1) (line_in h old x) k other
        elsewhere (inl e) (inl before) = between_below s h.half n (n + 1) (line_in h old x) k before
        elsewhere (inl e) (inr from) = between_past s h.half n (n + 1) (line_in h old x) k (omega arith)

    pub number_made : AreMade (lift_between s h.half n (n + 1)) h width old new
    number_made = record {
      on = λ x k lt below. number_at x k lt below (cases_eq k (2 * n + s.parity));
      off = λ i none. changed.off i
          (outside_run i (halves_place h (2 * n + s.parity)) width
          (λ x lt. none x (2 * n + s.parity) lt (omega arith)));
    }

-- ---- one number after another

module _ (s : CountedStep) (h : Halves) (lo mid width : ℕ) (old new : List ℤ) (some : 0 < h.half)
    (p : s.parity < 2) (low : lo ≤ mid) (made : AreMade (lift_between s h.half lo mid) h width old new) where
  pub made_more : (hi : ℕ) (last : List ℤ) → mid ≤ hi
      → AreMade (lift_between s h.half mid hi) h width new last
      → AreMade (lift_between s h.half lo hi) h width old last
  made_more hi last high more = record {
    on = λ x k lt below. more.on x k lt below
        ∙ between_more s h.half lo mid hi (line_in h old x) (line_in h new x) some p low high
        (λ j under. made.on x j lt under) k below;
    off = λ i none. more.off i none ∙ made.off i none;
  }

  -- the samples that are left have the same room
  pub room_after : (limit x n : ℕ) → x < width → mid ≤ n → n < h.half
      → HasRangeAt limit s h.half (line_in h old x) n → HasRangeAt limit s h.half (line_in h new x) n
  room_after limit x n lt =
      room_left s h.half lo mid mid (line_in h old x) (line_in h new x) some p low (omega arith)
      (λ k below. made.on x k lt below) limit n

pub whole_made : (s : CountedStep) (h : Halves) (width : ℕ) (old new : List ℤ)
    → AreMade (lift_between s h.half 0 h.half) h width old new → AreMade (lift s h.half) h width old new
whole_made s h width old new made = record {
  on = λ x k lt below. made.on x k lt below ∙ between_all s h.half (line_in h old x) k below;
  off = made.off;
}
