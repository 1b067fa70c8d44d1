-- The numbers of a session are above all of the earlier ones.
use Rattle.std.proofs.Common.{◌≡◌, ℕ, ◌+◌, ◌%◌, ◌^◌, ◌<◌, ◌≤◌, true, false, List, [], ◌∷◌, ◌++◌, refl, sym, subst, inl, inr, arith, ◌⊎◌, fold}
use Rattle.link_model.specs.Numbers.{Numbered, greatest, base_above, picture_number, is_opened, enters, entered, parts_of}
use Rattle.link_model.specs.Output.{greatest_of, entered_behind, is_opened_in}
use Rattle.link_model.specs.Session.{Fragment, HeardSession}
use Rattle.link_model.proofs.Numbering.{greatest_one, greatest-append, parts_of-append, parts_of-other, parts_of-outside, early_is, late_changes_nothing, early_enters}

-- ---- where numbers begin: the least multiple of 2 ^ 32 that is more than 8 above

pub base_is_above : (number : ℕ) → number + 8 < base_above number
unfolding base_above
base_is_above number = omega arith

pub base_is_near : (number : ℕ) → base_above number ≤ number + 8 + 2 ^ 32
unfolding base_above
base_is_near number = omega arith

pub base_is_multiple : (number : ℕ) → base_above number % 2 ^ 32 ≡ 0
unfolding base_above
base_is_multiple number = omega arith

-- ---- nothing enters with a number of the earlier sessions

module _ (number window n : ℕ) (small : window ≤ 8) (low : n ≤ number) where
  abbrev IsAbove : List Numbered → Type 0
  IsAbove es = (es ≡ []) ⊎ ((base_above number ≤ greatest es) × (parts_of n es ≡ []))

  one_more : (es : List Numbered) (e : Numbered) → base_above number ≤ greatest (es ++ e ∷ []) → parts_of n es ≡ [] → number < e.number
      → (base_above number ≤ greatest (es ++ e ∷ [])) × (parts_of n (es ++ e ∷ []) ≡ [])
  one_more es e above none high = grind (arith, parts_of-append, parts_of-other)

  no_parts : parts_of n [] ≡ []
  unfolding parts_of
  no_parts = refl

  first_number : (bits : ℕ) → picture_number (base_above number) [] bits ≡ base_above number + bits
  unfolding picture_number
  first_number bits = refl

  adds : (es : List Numbered) (f : Fragment) → IsAbove es → greatest es < picture_number (base_above number) es f.number + window
      → (base_above number ≤ greatest (es ++ record { number = picture_number (base_above number) es f.number; part = f.part } ∷ []))
      × (parts_of n (es ++ record { number = picture_number (base_above number) es f.number; part = f.part } ∷ []) ≡ [])
  adds es f (inl none) early = subst
      (λ (es : List Numbered). (base_above number ≤ greatest (es ++ record { number = picture_number (base_above number) es f.number; part = f.part } ∷ []))
      × (parts_of n (es ++ record { number = picture_number (base_above number) es f.number; part = f.part } ∷ []) ≡ []))
      (sym none)
      (let e : Numbered = record { number = picture_number (base_above number) [] f.number; part = f.part } in
      one_more [] e (omega (arith, greatest_one e, first_number f.number)) no_parts (omega (arith, first_number f.number, base_is_above number)))
  adds es f (inr above) early =
      let e : Numbered = record { number = picture_number (base_above number) es f.number; part = f.part } in
      one_more es e (omega (arith, greatest-append es (e ∷ []), above.0)) above.1 (omega (arith, above.0, early, small, base_is_above number))

  all_above : (es : List Numbered) (fragments : List Fragment) → IsAbove es → IsAbove (fold (enters (base_above number) window) es fragments)
  all_above es [] above = above
  all_above es (f ∷ fragments) above = all_above (enters (base_above number) window es f) fragments (grind (arith, adds, early_enters, early_is, late_changes_nothing))

  pub nothing_below : (fragments : List Fragment) → parts_of n (entered (base_above number) window fragments) ≡ []
  nothing_below fragments = grind (arith, all_above, no_parts)

-- ---- of sessions

module _ (window : ℕ) where
  pub unopened_above : (hs : List HeardSession) (n : ℕ) → greatest_of window hs < n → is_opened_in window hs n ≡ false
  unfolding greatest_of
  unopened_above [] n above = refl
  unopened_above (h ∷ hs) n above =
      grind (arith, parts_of-outside, unopened_above hs n (omega (arith, above)))

pub sessions_apart : (window : ℕ) (hs : List HeardSession) (h : HeardSession) (n : ℕ) → window ≤ 8 → is_opened_in window hs n ≡ true → is_opened (entered_behind window hs h) n ≡ false
sessions_apart window hs h n small was = grind (arith, nothing_below, unopened_above)

pub ruleset laws = (base_is_above, base_is_near, base_is_multiple, sessions_apart)
