-- A line after a step on its first samples alone: what a sweep has reached.
use Rattle.std.proofs.Common.{◌≡◌, ℕ, ◌+◌, ◌-◌, ◌*◌, ◌/◌, ◌%◌, ◌<◌, ◌≤◌, ◌≢◌, length, ℤ, pos, ◌+ℤ◌, ◌*ℤ◌}
use Rattle.std.proofs.Common.{arith, sym, ap, refl, ◌∙◌, ◌⊎◌, inl, inr, unsigned_abs, slice_index_or, min}
use Rattle.std.specs.Prelude.{if◌then◌else◌, nat_lt, ◌==◌, ◌&&◌}
use Rattle.std.specs.Int.{int_shr}
use mathlib.Core.Path.{fun_ext}
use Rattle.std.proofs.lemmas.Bool.Decides.{nat_tests}
use Rattle.std.proofs.lemmas.Bool.{cases_eq}
use Rattle.vc_types.specs.Lifting.{half_of, changed_by}
use Rattle.vc_lift.specs.CountedSteps.{CountedStep, sum_met, change_at, lift, sum_below}
use Rattle.vc_lift.specs.Growth.{IsWithin}
use Rattle.vc_lift.specs.Columns.{one_changed}
use Rattle.vc_lift.proofs.Places.{sample_same, sample_other}

unfoldable pub part : CountedStep → ℕ → ℕ → (ℕ → ℤ) → ℕ → ℤ
part s half m x k = if nat_lt (k / 2) m && (k % 2 == s.parity) then changed_by s.adds (x k)
    (change_at s half x (k / 2)) else x k

pub part_none : (s : CountedStep) (half : ℕ) (x : ℕ → ℤ) → x ≡ part s half 0 x
unfolding part
part_none s half x = fun_ext (λ k. grind (arith, nat_tests))

pub part_all : (s : CountedStep) (half : ℕ) (x : ℕ → ℤ) → part s half half x ≡ lift s half x
unfolding part lift
part_all s half x = refl

part_other : (s : CountedStep) (half m : ℕ) (x : ℕ → ℤ) (n : ℕ) → s.parity < 2
    → part s half m x (2 * n + (1 - s.parity)) ≡ x (2 * n + (1 - s.parity))
unfolding part
part_other s half m x n h = let odd : (2 * n + (1 - s.parity)) % 2 ≢ s.parity = omega arith in
    grind (arith, nat_tests)

change_part : (s : CountedStep) (half m : ℕ) (x : ℕ → ℤ) (n : ℕ) → s.parity < 2
    → change_at s half (part s half m x) n ≡ change_at s half x n
unfolding change_at sum_met
change_part s half m x n h =
    ap (λ z. int_shr (z +ℤ pos (half_of s.shift)) s.shift)
    (ap (sum_below (length s.taps))
    (fun_ext (λ j. ap (λ z. slice_index_or s.taps j (pos 0) *ℤ z)
    (part_other s half m x (min (n + j - s.back) (half - 1)) h))))

at_place : (s : CountedStep) (half m : ℕ) (x : ℕ → ℤ) → s.parity < 2
    → part s half m x (2 * m + s.parity) ≡ x (2 * m + s.parity)
unfolding part
at_place s half m x h = let below : (2 * m + s.parity) / 2 ≡ m = omega arith in grind (arith, nat_tests)

here : (s : CountedStep) (half m : ℕ) (x : ℕ → ℤ) → s.parity < 2
    → part s half (m + 1) x (2 * m + s.parity)
    ≡ changed_by s.adds (x (2 * m + s.parity)) (change_at s half x m)
unfolding part
here s half m x h = grind arith

elsewhere : (s : CountedStep) (half m : ℕ) (x : ℕ → ℤ) (k : ℕ) → s.parity < 2 → k ≢ 2 * m + s.parity
    → part s half (m + 1) x k ≡ part s half m x k
unfolding part
elsewhere s half m x k h ne = grind (arith, nat_tests)

module _ (s : CountedStep) (half m : ℕ) (x : ℕ → ℤ) (h : s.parity < 2) where
  place : (k : ℕ) → (k ≡ 2 * m + s.parity) ⊎ (k ≢ 2 * m + s.parity)
      → one_changed s half m (part s half m x) k ≡ part s half (m + 1) x k
  place k (inl e) =
      sample_same (part s half m x) (2 * m + s.parity) k _ e
      ∙ ap (λ z. changed_by s.adds z (change_at s half (part s half m x) m)) (at_place s half m x h)
      ∙ ap (changed_by s.adds (x (2 * m + s.parity))) (change_part s half m x m h)
      ∙ sym (ap (part s half (m + 1) x) e ∙ here s half m x h)
  place k (inr ne) = sample_other (part s half m x) (2 * m + s.parity) k _ ne
      ∙ sym (elsewhere s half m x k h ne)

  -- one sample more
  pub part_more : one_changed s half m (part s half m x) ≡ part s half (m + 1) x
  part_more = fun_ext (λ k. place k (cases_eq k (2 * m + s.parity)))

-- the samples that are left to a sweep, and those that it reads, are those of the line that it began with
module _ (s : CountedStep) (half m b : ℕ) (x y : ℕ → ℤ) (h : s.parity < 2) (e : y ≡ part s half m x) where
  pub within_part : IsWithin x half (1 - s.parity) b → IsWithin y half (1 - s.parity) b
  within_part w = record {
    within = λ n k. rw
        (ap (λ f. f (2 * n + (1 - s.parity))) e ∙ part_other s half m x n h) (w.within n k);
  }

  pub next_part : m < half → IsWithin x half s.parity b → unsigned_abs (y (2 * m + s.parity)) ≤ b
  next_part lt w = rw (ap (λ f. f (2 * m + s.parity)) e ∙ at_place s half m x h) (w.within m lt)
