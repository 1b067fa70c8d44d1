-- A picture closes after its closing place, and after no place before it.
use Rattle.std.proofs.Common.{◌≡◌, ℕ, zero, suc, ◌+◌, ◌<◌, ◌≤◌, Bool, true, false, List, [], ◌∷◌, length, ap, arith, cond, not, take_while}
use Rattle.std.specs.List.{range_with_len}
use Rattle.std.proofs.lemmas.Bool.{not-false, not-true}
use Rattle.std.proofs.lemmas.List.Sums.{take_while-cons}
use Rattle.link_model.specs.Output.{is_closed_behind, closing_place}

module _ (test : ℕ → Bool) where
  abbrev reached : ℕ → ℕ → ℕ
  reached a m = length (take_while test (range_with_len a m))

  step : (a m : ℕ) → reached a (suc m) ≡ length (cond (test a) (a ∷ take_while test (range_with_len (a + 1) m)) [])
  step a m = ap (λ (l : List ℕ). length l) (take_while-cons test a (range_with_len (a + 1) m))

  -- all before it pass
  before_reached : (a m k : ℕ) → a ≤ k → k < a + reached a m → test k ≡ true
  before_reached a zero k from to = absurd (omega arith)
  before_reached a (suc m) k from to = grind (arith, step, before_reached (a + 1) m k)

  -- and it doesn't
  at_reached : (a m : ℕ) → reached a m < m → test (a + reached a m) ≡ false
  at_reached a zero short = absurd (omega (arith, short))
  at_reached a (suc m) short = grind (arith, step, at_reached (a + 1) m)

module _ (window : ℕ) (datagrams : List (List ℕ)) (n : ℕ) where
  pub open_before : (k : ℕ) → k < closing_place window datagrams n → is_closed_behind window datagrams n k ≡ false
  unfolding closing_place
  open_before k before = not-true (is_closed_behind window datagrams n k)
      (before_reached (λ k. not (is_closed_behind window datagrams n k)) 0 (length datagrams) k (omega arith) (omega (arith, before)))

  pub closed_at : closing_place window datagrams n < length datagrams → is_closed_behind window datagrams n (closing_place window datagrams n) ≡ true
  unfolding closing_place
  closed_at short = grind (arith, at_reached, not-false)

pub ruleset laws = (open_before, closed_at)
