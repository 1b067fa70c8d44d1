-- The coefficients of a slice from its numbers, as they are put into cells subband by subband.
use Rattle.std.proofs.Common.{◌≡◌, ℕ, ◌+◌, ◌-◌, ◌<◌, ◌≤◌, ◌^◌, List, ℤ, unsigned_abs, false, arith, ap, refl, sym, subst, ◌∙◌, inl, inr}
use Rattle.std.specs.List.{list_any}
use Rattle.std.specs.Prelude.{slice_index_or, Result, Ok, Err, OnOk}
use Rattle.std.proofs.lemmas.Bool.{cases_lt}
use Rattle.vc_types.specs.declared.rect.Rect.{Rect}
use Rattle.vc_types.specs.declared.video.Component.{Component}
use Rattle.vc_types.specs.Lifting.{line_of}
use Rattle.vc_types.specs.Quantisation.{dequantised}
use Rattle.vc_types.specs.Slices.{is_large}
use Rattle.vc_types.specs.Subbands.{area}
use Rattle.vc_types.specs.TransformParameters.{parameters_of}
use Rattle.vc_types.proofs.SliceRectangles.{coefficients_before}
use Rattle.vc_quant.specs.Narrow.{IsNarrow}
use Rattle.vc_quant.proofs.Magnitudes.{narrow_coefficient}
use Rattle.vc_slice.specs.declared.bands.SliceBands.{SliceBands}
use Rattle.vc_slice.specs.Bands.{band_count, coefficient_count, coefficients_of_block, numbered_in, quantisers_of, rectangle}
use Rattle.vc_slice.specs.FilledCells.{FillsAt, PutsAt}
use Rattle.vc_slice.specs.Numbers.{AreBlockNumbers}
use Rattle.vc_slice.proofs.NarrowRuns as runs

module _ (bands : SliceBands) (c : Component) (numbers : List ℤ) where
  abbrev coefficient : ℕ → ℤ
  coefficient = numbered_in bands c numbers

  module _ (b from q : ℕ) (r : Rect) (inside : b < band_count bands.parts.now) (is : r ≡ rectangle bands.parts.now c b) (at : from ≡ coefficients_before (parameters_of bands.parts.now.plan) c bands.parts.now.slice b)
      (own : q ≡ bands.index - slice_index_or bands.parts.now.plan.matrix b 0) where
    -- by the quantiser of its subband
    pub coefficient_in : (j : ℕ) → j < area r → dequantised (line_of numbers (from + j)) q ≡ coefficient (from + j)
    coefficient_in j h =
        let whole : from + area r ≡ from + area (rectangle bands.parts.now c b) = omega (arith, ap area is) in
        ap (dequantised (line_of numbers (from + j))) (own ∙ sym (runs.index_in (parameters_of bands.parts.now.plan) c bands.parts.now.slice bands.index b (from + j) from (from + area r) inside at whole (omega arith) (omega arith)))

    -- and narrow
    pub narrow_more : (greatest : ℕ) → IsNarrow greatest q → ((j : ℕ) → j < area r → unsigned_abs (line_of numbers (from + j)) ≤ greatest)
        → ((i : ℕ) → i < from → unsigned_abs (coefficient i) < 2 ^ 29) → (i : ℕ) → i < from + area r → unsigned_abs (coefficient i) < 2 ^ 29
    narrow_more greatest narrow small before i h = elim (cases_lt i from) [
      | inl lt ↦ before i lt
      | inr ge ↦ (
          let j = i - from in
          let here : j < area r = omega arith in
          let place : from + j ≡ i = omega arith in
          subst (λ k. unsigned_abs (coefficient k) < 2 ^ 29) place (subst (λ z. unsigned_abs z < 2 ^ 29) (coefficient_in j here) (narrow_coefficient (line_of numbers (from + j)) greatest q (small j here) narrow)))
    ]

-- ---- the numbers of a block, put at the places of its coefficients

module _ (place : ℕ → ℕ) (bands : SliceBands) (c : Component) (block : List ℕ) (numbers old new : List ℤ) (read : AreBlockNumbers (coefficient_count bands.parts.now c) block numbers) where
  -- the coefficients are put
  abbrev pub ArePut : Type 0
  ArePut = PutsAt (coefficient_count bands.parts.now c) place (numbered_in bands c numbers) old new

  in_block : (i : ℕ) → i < coefficient_count bands.parts.now c → numbered_in bands c numbers i ≡ line_of (coefficients_of_block bands c block) i
  in_block i h =
      ap (λ z. dequantised z (slice_index_or (quantisers_of bands c) i 0)) (read i h)
      ∙ sym (runs.coefficient_of (parameters_of bands.parts.now.plan) c bands.parts.now.slice bands.index block i h)

  pub filled : {E : Type 0} (done : Result (Unit {0}) E) → OnOk done ArePut → OnOk done (FillsAt (coefficient_count bands.parts.now c) place (coefficients_of_block bands c block) old new)
  filled (Ok all) puts = record { only = puts.only; own = λ i h. puts.on i h ∙ in_block i h }
  filled (Err e) puts = puts

  pub sound : {E : Type 0} (done : Result (Unit {0}) E) → OnOk done ArePut → OnOk done (list_any is_large (coefficients_of_block bands c block) ≡ false)
  sound (Ok all) puts =
      let zs = coefficients_of_block bands c block in
      runs.none_large zs zs (coefficient_count bands.parts.now c) (runs.length-block (parameters_of bands.parts.now.plan) c bands.parts.now.slice bands.index block) (λ i h. refl) (λ i h. subst (λ z. unsigned_abs z < 2 ^ 29) (in_block i h) (puts.narrow i h))
  sound (Err e) puts = puts
