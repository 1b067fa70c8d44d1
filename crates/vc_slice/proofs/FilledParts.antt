-- Coefficients that are put into cells part by part: none is written over.
use Rattle.std.proofs.Common.{◌≡◌, ◌≢◌, ℕ, ◌+◌, ◌-◌, ◌<◌, ◌≤◌, List, ℤ, arith, ap, sym, ◌∙◌, inl, inr}
use Rattle.std.proofs.lemmas.Bool.{cases_lt}
use Rattle.vc_types.specs.Lifting.{line_of}

module _ (count : ℕ) (place : ℕ → ℕ) where
  -- the first coefficients stand at their places
  abbrev pub FirstStand : (ℕ → ℤ) → ℕ → List ℤ → Type 0
  FirstStand coeffs n cells = (i : ℕ) → i < n → line_of cells (place i) ≡ coeffs i

  -- cells of none of them are as before
  abbrev pub OthersStay : List ℤ → List ℤ → Type 0
  OthersStay old cells = (k : ℕ) → ((i : ℕ) → i < count → k ≢ place i) → line_of cells k ≡ line_of old k

  -- a part more
  module _ (apart : (i j : ℕ) → i < count → j < count → place i ≡ place j → i ≡ j)
      (from n : ℕ) (within : from + n ≤ count) (cell : ℕ → ℕ) (there : (j : ℕ) → j < n → cell j ≡ place (from + j)) (coeffs : ℕ → ℤ) (old new : List ℤ)
      (on : (j : ℕ) → j < n → line_of new (cell j) ≡ coeffs (from + j))
      (off : (k : ℕ) → ((j : ℕ) → j < n → k ≢ cell j) → line_of new k ≡ line_of old k) where
    pub part_stands : FirstStand coeffs from old → FirstStand coeffs (from + n) new
    part_stands before i h = elim (cases_lt i from) [
      | inl lt ↦ off (place i) (λ j g e. (
          let same = apart i (from + j) (omega (arith, within)) (omega (arith, within)) (e ∙ there j g) in
          omega (arith, same))) ∙ before i lt
      | inr ge ↦ (
          let number : from + (i - from) ≡ i = omega arith in
          let here : i - from < n = omega arith in
          ap (λ k. line_of new (place k)) (sym number) ∙ ap (line_of new) (sym (there (i - from) here)) ∙ on (i - from) here ∙ ap coeffs number)
    ]

    pub part_stays : (first : List ℤ) → OthersStay first old → OthersStay first new
    part_stays first before k none = off k (λ j g e. none (from + j) (omega (arith, within)) (e ∙ there j g)) ∙ before k none
