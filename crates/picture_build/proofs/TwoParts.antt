-- Cells in two parts each, or in their low parts alone.
use Rattle.std.proofs.Common.{◌≡◌, ℕ, Bool, true, false, List, [], ◌∷◌, length, replicate, ℤ, pos, arith, refl, sym, ap, ◌∙◌, inl, inr}
use Rattle.std.specs.List.{zip}
use Rattle.std.proofs.lemmas.Bool.{cases_lt}
use Rattle.std.proofs.lemmas.List.{length-map, length-replicate, get_or-replicate, get_or_past, get_or-map}
use Rattle.std.proofs.lemmas.Int.{ints}
use Rattle.std.proofs.lemmas.Slice.Zip.{get_or-zip}
use Rattle.vc_types.specs.Lifting.{line_of}
use Rattle.picture_build.specs.Cells.{whole_number, cells_in}

length_pairs : (xs ys : List ℤ) → length xs ≡ length ys → length (zip xs ys) ≡ length ys
length_pairs [] [] e = refl
length_pairs [] (y ∷ ys) e = absurd (omega arith)
length_pairs (x ∷ xs) [] e = absurd (omega arith)
length_pairs (x ∷ xs) (y ∷ ys) e = let more = length_pairs xs ys (omega arith) in omega (arith, more)

pub length_in : (wide : Bool) (high low : List ℤ) → (wide ≡ true → length high ≡ length low) → length (cells_in wide high low) ≡ length low
length_in true high low e = length-map (zip high low) _ ∙ length_pairs high low (e refl)
length_in false high low e = refl

pub narrow_at : (wide : Bool) (high low : List ℤ) (k : ℕ) → wide ≡ false → line_of (cells_in wide high low) k ≡ line_of low k
narrow_at true high low k e = absurd cc
narrow_at false high low k e = refl

pub wide_at : (wide : Bool) (high low : List ℤ) (k : ℕ) → wide ≡ true → length high ≡ length low → line_of (cells_in wide high low) k ≡ whole_number (line_of high k) (line_of low k)
wide_at false high low k e long = absurd cc
wide_at true high low k e long = elim (cases_lt k (length low)) [
  | inl lt ↦ (
      let pairs = length_pairs high low long in
      get_or-map (λ (z : ℤ × ℤ). whole_number z.0 z.1) (zip high low) k (pos 0, pos 0) (pos 0) (omega (arith, pairs))
      ∙ ap (λ (z : ℤ × ℤ). whole_number z.0 z.1) (get_or-zip high low k (pos 0, pos 0) (omega (arith, long)) lt))
  | inr ge ↦ (
      let all = length_in true high low (λ _. long) in
      get_or_past (cells_in true high low) k (pos 0) (omega (arith, all))
      ∙ sym (ap (λ (z : ℤ). whole_number z (line_of low k)) (get_or_past high k (pos 0) (omega (arith, long))) ∙ ap (whole_number (pos 0)) (get_or_past low k (pos 0) ge)))
]

pub zeros_at : (n k : ℕ) → line_of (replicate n (pos 0)) k ≡ pos 0
zeros_at n k = elim (cases_lt k n) [
  | inl lt ↦ get_or-replicate n k (pos 0) (pos 0) lt
  | inr ge ↦ (let long = length-replicate n (pos 0) in get_or_past (replicate n (pos 0)) k (pos 0) (omega (arith, long)))
]

no_high : (z : ℤ) → whole_number (pos 0) z ≡ z
no_high z = omega (arith, ints)

-- ---- cells as they are seen

module _ (wide : Bool) (high low now : List ℤ) (view : cells_in wide high low ≡ now) (even : wide ≡ true → length high ≡ length low) where
  pub length_seen : length now ≡ length low
  length_seen = sym (ap length view) ∙ length_in wide high low even

  pub seen_narrow : (k : ℕ) → wide ≡ false → line_of now k ≡ line_of low k
  seen_narrow k e = sym (ap (λ (xs : List ℤ). line_of xs k) view) ∙ narrow_at wide high low k e

  pub seen_wide : (k : ℕ) → wide ≡ true → line_of now k ≡ whole_number (line_of high k) (line_of low k)
  seen_wide k e = sym (ap (λ (xs : List ℤ). line_of xs k) view) ∙ wide_at wide high low k e (even e)

  -- both parts are written, in cells that have them
  module _ (e : wide ≡ true) (high2 low2 : List ℤ) (even2 : length high2 ≡ length low2) where
    pub written_length : length low2 ≡ length low → length (cells_in wide high2 low2) ≡ length now
    written_length same = length_in wide high2 low2 (λ _. even2) ∙ same ∙ sym length_seen

    pub written_off : (k : ℕ) → line_of high2 k ≡ line_of high k → line_of low2 k ≡ line_of low k → line_of (cells_in wide high2 low2) k ≡ line_of now k
    written_off k same_high same_low =
        wide_at wide high2 low2 k e even2
        ∙ ap (λ (z : ℤ). whole_number z (line_of low2 k)) same_high
        ∙ ap (whole_number (line_of high k)) same_low
        ∙ sym (seen_wide k e)

    pub written_on : (k : ℕ) (h l : ℤ) → line_of high2 k ≡ h → line_of low2 k ≡ l → line_of (cells_in wide high2 low2) k ≡ whole_number h l
    written_on k h l is_high is_low =
        wide_at wide high2 low2 k e even2
        ∙ ap (λ (z : ℤ). whole_number z (line_of low2 k)) is_high
        ∙ ap (whole_number h) is_low

    pub written_low : (k : ℕ) (l : ℤ) → line_of high2 k ≡ pos 0 → line_of low2 k ≡ l → line_of (cells_in wide high2 low2) k ≡ l
    written_low k l is_high is_low = written_on k (pos 0) l is_high is_low ∙ no_high l

  -- cells get a second part
  module _ (e : wide ≡ false) (high2 low2 : List ℤ) (even2 : length high2 ≡ length low2) where
    pub widened_length : length low2 ≡ length low → length (cells_in true high2 low2) ≡ length now
    widened_length same = length_in true high2 low2 (λ _. even2) ∙ same ∙ sym length_seen

    pub widened_off : (k : ℕ) → line_of high2 k ≡ pos 0 → line_of low2 k ≡ line_of low k → line_of (cells_in true high2 low2) k ≡ line_of now k
    widened_off k none same =
        wide_at true high2 low2 k refl even2
        ∙ ap (λ (z : ℤ). whole_number z (line_of low2 k)) none
        ∙ no_high (line_of low2 k)
        ∙ same
        ∙ sym (seen_narrow k e)

    pub widened_on : (k : ℕ) (h l : ℤ) → line_of high2 k ≡ h → line_of low2 k ≡ l → line_of (cells_in true high2 low2) k ≡ whole_number h l
    widened_on k h l is_high is_low =
        wide_at true high2 low2 k refl even2
        ∙ ap (λ (z : ℤ). whole_number z (line_of low2 k)) is_high
        ∙ ap (whole_number h) is_low
