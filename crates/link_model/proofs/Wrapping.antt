-- A picture's number has the 32 bits that were sent, is the nearest such number to the greatest one, and fits 64 bits.
use Rattle.std.proofs.Common.{◌≡◌, ℕ, ◌+◌, ◌-◌, ◌%◌, ◌^◌, ◌<◌, ◌≤◌, false, List, [], ◌∷◌, arith, fold, nat_le, nat_lt}
use Rattle.std.proofs.lemmas.Bool.{or_parts, leb-false, cond-true, cond-false, lt-ltb, le-ltb}
use Rattle.link_model.specs.Numbers.{Numbered, greatest, distance, nearest, is_closed, is_late, enters, entered}
use Rattle.link_model.specs.Session.{Fragment}
use Rattle.link_model.proofs.Numbering.{late_changes_nothing, early_enters, greatest-append}

module _ (g bits : ℕ) (large : 2 ^ 32 ≤ g) (small : bits < 2 ^ 32) where
  nearest-above : distance g bits < 2 ^ 31 → nearest g bits ≡ g + distance g bits
  unfolding nearest
  nearest-above h = cond-true (nat_lt (distance g bits) (2 ^ 31)) (g + distance g bits) (g + distance g bits - 2 ^ 32) (lt-ltb (distance g bits) (2 ^ 31) h)

  nearest-below : 2 ^ 31 ≤ distance g bits → nearest g bits ≡ g + distance g bits - 2 ^ 32
  unfolding nearest
  nearest-below h = cond-false (nat_lt (distance g bits) (2 ^ 31)) (g + distance g bits) (g + distance g bits - 2 ^ 32) (le-ltb (distance g bits) (2 ^ 31) h)

  pub nearest-bits : nearest g bits % 2 ^ 32 ≡ bits
  nearest-bits = grind (arith, nearest-above, nearest-below)

  pub nearest-not_above : nearest g bits < g + 2 ^ 31
  nearest-not_above = grind (arith, nearest-above, nearest-below)

  pub nearest-not_below : g ≤ nearest g bits + 2 ^ 31
  nearest-not_below = grind (arith, nearest-above, nearest-below)

-- ---- all numbers that enter fit

unlate : (window : ℕ) (es : List Numbered) (n : ℕ) → is_late window es n ≡ false → n < 2 ^ 64 - 16
unfolding is_late
unlate window es n early = leb-false (2 ^ 64 - 16) n (or_parts (is_closed window es n) (nat_le (2 ^ 64 - 16) n) early).1

pub enters_fits : (base window : ℕ) (es : List Numbered) (f : Fragment) → greatest es < 2 ^ 64 - 16 → greatest (enters base window es f) < 2 ^ 64 - 16
unfolding greatest
enters_fits base window es f fits = grind (arith, early_enters, late_changes_nothing, unlate, greatest-append)

pub entered_fits : (base window : ℕ) (fragments : List Fragment) → greatest (entered base window fragments) < 2 ^ 64 - 16
unfolding greatest
entered_fits base window fragments = all_fit [] fragments (omega arith)
  where
    all_fit : (es : List Numbered) (fragments : List Fragment) → greatest es < 2 ^ 64 - 16 → greatest (fold (enters base window) es fragments) < 2 ^ 64 - 16
    all_fit es [] fits = fits
    all_fit es (f ∷ fragments) fits = all_fit (enters base window es f) fragments (enters_fits base window es f fits)

pub ruleset laws = (nearest-bits, nearest-not_above, nearest-not_below, entered_fits)
