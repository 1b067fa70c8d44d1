-- A coefficient of a slice with LL as it has grown: a value of LL, or the one before.
use Rattle.std.proofs.Common.{◌≡◌, ℕ, ◌<◌, ◌≤◌, List, length, get_or, ℤ, pos, sym, ◌∙◌, arith, inl, inr}
use Rattle.std.specs.Prelude.{nat_lt}
use Rattle.std.proofs.lemmas.Bool.{cases_lt, lt-ltb, le-ltb, cond-true, cond-false}
use Rattle.std.proofs.lemmas.List.FromFn.{length-map-range_with_len, get_or-map-range_with_len}
use Rattle.vc_types.specs.declared.video.Component.{Component}
use Rattle.vc_types.specs.Lifting.{line_of}
use Rattle.vc_types.specs.Quantisation.{dequantised}
use Rattle.vc_types.specs.Slices.{quantisers}
use Rattle.vc_types.specs.Subbands.{area, place_in, slice_coefficient_count}
use Rattle.vc_types.specs.TransformParameters.{Parameters}
use Rattle.vc_types.specs.Transforms.{Cells}
use Rattle.vc_golomb.specs.Numbers.{number_at}
use Rattle.vc_lowdelay.specs.Bands.{lowest_rectangle}
use Rattle.vc_lowdelay.specs.Grown.{grown_or, value_at, with_lowest}
use Rattle.vc_lowdelay.specs.LowDelay.{LowSlice, low_coefficients}
use Rattle.vc_lowdelay.specs.Placed.{place_of_number}
use Rattle.vc_lowdelay.proofs.LowCoefficients.{block_of, length-low, low_at}

module _ (p : Parameters) (c : Component) (n : ℕ) (lowest : Cells) where
  pub grown_first : (f : ℕ → ℤ) (i : ℕ) → i < area (lowest_rectangle p c n) → grown_or p c n lowest f i ≡ value_at lowest (place_in (lowest_rectangle p c n) i)
  grown_first f i h = cond-true (nat_lt i (area (lowest_rectangle p c n))) (value_at lowest (place_in (lowest_rectangle p c n) i)) (f i) (lt-ltb i (area (lowest_rectangle p c n)) h)

  pub grown_other : (f : ℕ → ℤ) (i : ℕ) → area (lowest_rectangle p c n) ≤ i → grown_or p c n lowest f i ≡ f i
  grown_other f i h = cond-false (nat_lt i (area (lowest_rectangle p c n))) (value_at lowest (place_in (lowest_rectangle p c n) i)) (f i) (le-ltb i (area (lowest_rectangle p c n)) h)

  pub grown_same : (f g : ℕ → ℤ) (i : ℕ) → f i ≡ g i → grown_or p c n lowest f i ≡ grown_or p c n lowest g i
  grown_same f g i e = elim (cases_lt i (area (lowest_rectangle p c n))) [
    | inl lt ↦ grown_first f i lt ∙ sym (grown_first g i lt)
    | inr ge ↦ grown_other f i ge ∙ e ∙ sym (grown_other g i ge)
  ]

  -- numbers to whose front LL is put
  pub put_first : (f : ℕ → ℤ) (old new : List ℤ) (i : ℕ)
      → ((k : ℕ) → k < area (lowest_rectangle p c n) → line_of new k ≡ value_at lowest (place_in (lowest_rectangle p c n) k))
      → ((k : ℕ) → area (lowest_rectangle p c n) ≤ k → line_of new k ≡ line_of old k)
      → line_of old i ≡ f i → line_of new i ≡ grown_or p c n lowest f i
  put_first f old new i on off e = elim (cases_lt i (area (lowest_rectangle p c n))) [
    | inl lt ↦ on i lt ∙ sym (grown_first f i lt)
    | inr ge ↦ off i ge ∙ e ∙ sym (grown_other f i ge)
  ]

  module _ (s : LowSlice) where
    -- coefficient k before prediction
    abbrev pub coefficient : ℕ → ℤ
    coefficient k = dequantised (number_at (block_of s c) (place_of_number c k)) (get_or (quantisers p c n s.index) k 0)

    pub length-with : length (with_lowest p c n lowest (low_coefficients p n s c)) ≡ slice_coefficient_count p c n
    length-with = length-map-range_with_len (grown_or p c n lowest (line_of (low_coefficients p n s c))) 0 (length (low_coefficients p n s c)) ∙ length-low p n s c

    pub with_at : (i : ℕ) → i < slice_coefficient_count p c n → grown_or p c n lowest coefficient i ≡ line_of (with_lowest p c n lowest (low_coefficients p n s c)) i
    with_at i h =
        grown_same coefficient (line_of (low_coefficients p n s c)) i (sym (low_at p n s c i h))
        ∙ sym (get_or-map-range_with_len (grown_or p c n lowest (line_of (low_coefficients p n s c))) 0 (length (low_coefficients p n s c)) i i (pos 0) (omega (arith, h, length-low p n s c)) (omega arith))
