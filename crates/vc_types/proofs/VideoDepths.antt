-- The bits of the samples of an excursion.
use Rattle.std.proofs.Common.{◌≡◌, ◌⊎◌, ℕ, List, ◌+◌, ◌*◌, ◌^◌, ◌<◌, ◌≤◌, Bool, true, false, leb, length, get_or, refl, sym, ap, ◌∙◌, arith, inl, inr}
use Rattle.std.specs.List.{position_or_len, range_with_len}
use Rattle.std.proofs.lemmas.Nat.{pow-add}
use Rattle.std.proofs.Math.Pow.{pow_mono}
use Rattle.std.proofs.lemmas.Bool.{leb-true, le-leb}
use Rattle.std.proofs.lemmas.Bool.Decides.{nat_tests}
use Rattle.std.proofs.lemmas.List.FromFn.{get_or-range_with_len, length-range_with_len}
use Rattle.std.proofs.lemmas.List.Sums.{position_or_len_is, fails_before_first, passes_at_first}
use Rattle.vc_types.specs.Video.{video_depth, IsLeastDepth}

-- d bits are enough
abbrev is_enough : ℕ → ℕ → Bool
is_enough excursion d = leb (excursion + 1) (2 ^ d)

abbrev depths : List ℕ
depths = range_with_len 0 17

too_few : (a b : ℕ) → leb a b ≡ false → b < a
too_few a b h = grind (arith, nat_tests)

not_enough : (a b : ℕ) → b < a → leb a b ≡ false
not_enough a b h = grind (arith, nat_tests)

below_or_from : (m n : ℕ) → (m < n) ⊎ (n ≤ m)
below_or_from m n = by_test (leb n m) refl
  where
    by_test : (b : Bool) → leb n m ≡ b → (m < n) ⊎ (n ≤ m)
    by_test true h = inr (leb-true n m h)
    by_test false h = inl (too_few n m h)

at_number : (excursion d : ℕ) → d < 17 → is_enough excursion (get_or depths d 0) ≡ is_enough excursion d
at_number excursion d below =
    let number : 0 + d ≡ d = omega arith in
    ap (is_enough excursion) (get_or-range_with_len 0 17 d 0 below ∙ number)

module _ (excursion : ℕ) (high : excursion ≤ 65535) where
  abbrev place : ℕ
  place = position_or_len (is_enough excursion) depths

  earlier : (d : ℕ) → d < 17 → d < place → 2 ^ d < excursion + 1
  earlier d few below = too_few (excursion + 1) (2 ^ d) (sym (at_number excursion d few) ∙ fails_before_first (is_enough excursion) depths d 0 below)

  few_bits : place < 17
  few_bits = elim (below_or_from place 17) [
    | inl few ↦ few
    | inr many ↦ absurd (let none = earlier 16 (omega arith) (omega (arith, many)) in omega (arith, none, high))
  ]

  at_least : (other : ℕ) → excursion + 1 ≤ 2 ^ other → place ≤ other
  at_least other enough = elim (below_or_from other place) [
    | inl below ↦ absurd (let none = earlier other (omega (arith, below, few_bits)) below in omega (arith, none, enough))
    | inr from ↦ from
  ]

  pub is_least : IsLeastDepth excursion (video_depth excursion)
  unfolding video_depth
  is_least =
      let inside : place < length depths = omega (arith, few_bits, length-range_with_len 0 17) in
      record {
        enough = leb-true (excursion + 1) (2 ^ place) (sym (at_number excursion place few_bits) ∙ passes_at_first (is_enough excursion) depths 0 inside);
        least = at_least;
      }

  -- the depth by the logarithm
  pub depth_by_log : (log : ℕ) → 2 ^ log ≤ excursion → excursion < 2 * 2 ^ log → log + 1 ≡ video_depth excursion
  unfolding video_depth
  depth_by_log log low next = sym (position_or_len_is (is_enough excursion) depths (log + 1) 0 (omega (arith, long, small)) fewer enough)
    where
      long : length depths ≡ 17
      long = length-range_with_len 0 17

      small : log < 16
      small = elim (below_or_from log 16) [
        | inl few ↦ few
        | inr many ↦ absurd (let more : 2 ^ 16 ≤ 2 ^ log = pow_mono many in omega (arith, more, low, high))
      ]

      fewer : (k : ℕ) → k < log + 1 → is_enough excursion (get_or depths k 0) ≡ false
      fewer k below =
          let up : 2 ^ k ≤ 2 ^ log = pow_mono (let h : k ≤ log = omega (arith, below) in h) in
          at_number excursion k (omega (arith, below, small)) ∙ not_enough (excursion + 1) (2 ^ k) (omega (arith, up, low))

      enough : log + 1 < length depths → is_enough excursion (get_or depths (log + 1) 0) ≡ true
      enough inside =
          let twice : 2 ^ (log + 1) ≡ 2 ^ log * 2 = pow-add 2 log 1 in
          at_number excursion (log + 1) (omega (arith, small)) ∙ le-leb (excursion + 1) (2 ^ (log + 1)) (omega (arith, next, twice))
