-- The coefficients of a slice from its numbers, where they may be wide.
use Rattle.std.proofs.Common.{◌≡◌, ℕ, ◌+◌, ◌-◌, ◌<◌, ◌≤◌, ◌^◌, List, length, ℤ, pos, unsigned_abs, false, FitsSigned, to_z, of_z, arith, ap, sym, subst, ◌∙◌, inl, inr}
use Rattle.std.specs.Int.{w32, w64, w128}
use Rattle.std.specs.List.{list_any}
use Rattle.std.specs.Prelude.{slice_index_or, Result, Ok, Err, OnOk}
use Rattle.std.proofs.lemmas.Bool.{cases_lt}
use Rattle.std.proofs.lemmas.Bool.Decides.{nat_tests}
use Rattle.std.proofs.lemmas.Int.{ints, to_z-of_z}
use Rattle.std.proofs.lemmas.List.Elements.{All-from_get_or}
use Rattle.std.proofs.lemmas.List.Folds.{list_any_none}
use Rattle.std.proofs.Math.Nat.{mul-le-mul_right}
use Rattle.vc_types.specs.declared.video.Component.{Component}
use Rattle.vc_types.specs.Lifting.{line_of}
use Rattle.vc_types.specs.Quantisation.{dequantised, dequantised_magnitude, quant_factor, quant_offset}
use Rattle.vc_types.specs.Slices.{is_large}
use Rattle.vc_types.specs.TransformParameters.{parameters_of}
use Rattle.vc_types.proofs.Quantisers.{unsigned_abs-with_sign_of}
use Rattle.vc_slice.specs.declared.bands.SliceBands.{SliceBands}
use Rattle.vc_slice.specs.Bands.{coefficient_count, coefficients_of_block, numbered_in, quantisers_of}
use Rattle.vc_slice.specs.Numbers.{AreBlockNumbers}
use Rattle.vc_slice.proofs.NarrowRuns as runs
use Rattle.picture_build.specs.PartsKept.{FillsPart, PutsSound}

-- ---- a greatest number

grows : (m n factor offset : ℕ) → m ≤ n → dequantised_magnitude m factor offset ≤ dequantised_magnitude n factor offset
grows m n factor offset h = (let more = mul-le-mul_right factor h in grind (arith, more))

-- no coefficient is larger than that of the greatest number
pub below_greatest : (z : ℤ) (greatest q limit : ℕ) → unsigned_abs z ≤ greatest → unsigned_abs (dequantised (pos greatest) q) < limit → unsigned_abs (dequantised z q) < limit
unfolding dequantised
below_greatest z greatest q limit h small =
    let own = unsigned_abs-with_sign_of z (dequantised_magnitude (unsigned_abs z) (quant_factor q) (quant_offset q)) in
    let more = grows (unsigned_abs z) greatest (quant_factor q) (quant_offset q) h in
    omega (arith, own, more, small)

-- ---- one coefficient, dequantised in 128 bits

-- the number is widened first
pub widened_number : (z got r : ℤ) (q : ℕ) → FitsSigned w32 z → got ≡ to_z w32 (of_z w32 z) → r ≡ dequantised (to_z w64 (of_z w64 got)) q → r ≡ dequantised z q
widened_number z got r q fits is made =
    let own : got ≡ z = is ∙ to_z-of_z w32 z fits in
    made ∙ ap (λ (y : ℤ). dequantised (to_z w64 (of_z w64 y)) q) own ∙ ap (λ (y : ℤ). dequantised y q) (to_z-of_z w64 z (omega (arith, ints, fits)))

-- and the coefficient fits 64 bits
module _ (r : ℤ) (small : unsigned_abs r < 2 ^ 60) where
  same : to_z w128 (of_z w128 r) ≡ r
  same = to_z-of_z w128 r (omega (arith, ints, small))

  fits_own : FitsSigned w64 r
  fits_own = omega (arith, ints, small)

  pub cast_fits : FitsSigned w64 (to_z w128 (of_z w128 r))
  cast_fits = subst (FitsSigned w64) (sym same) fits_own

  pub cast_is : to_z w64 (of_z w64 (to_z w128 (of_z w128 r))) ≡ r
  cast_is = ap (λ (y : ℤ). to_z w64 (of_z w64 y)) same ∙ to_z-of_z w64 r fits_own

-- so many coefficients more are below a limit
pub small_more : (limit from n : ℕ) (coeffs : ℕ → ℤ) → ((j : ℕ) → j < n → unsigned_abs (coeffs (from + j)) < limit)
    → ((i : ℕ) → i < from → unsigned_abs (coeffs i) < limit) → (i : ℕ) → i < from + n → unsigned_abs (coeffs i) < limit
small_more limit from n coeffs small before i h = elim (cases_lt i from) [
  | inl lt ↦ before i lt
  | inr ge ↦ (
      let place : from + (i - from) ≡ i = omega arith in
      subst (λ k. unsigned_abs (coeffs k) < limit) place (small (i - from) (omega arith)))
]

-- ---- the numbers of a block

none_large : (zs : List ℤ) → ((i : ℕ) → i < length zs → unsigned_abs (line_of zs i) < 2 ^ 60) → list_any is_large zs ≡ false
none_large zs small = list_any_none is_large zs (All-from_get_or (λ (z : ℤ). is_large z ≡ false) zs (pos 0) (λ i h. not_large (line_of zs i) (small i h)))
  where
    not_large : (z : ℤ) → unsigned_abs z < 2 ^ 60 → is_large z ≡ false
    not_large z h = grind (arith, nat_tests)

module _ (bands : SliceBands) (c : Component) (block : List ℕ) (numbers old new : List ℤ) (read : AreBlockNumbers (coefficient_count bands.parts.now c) block numbers) where
  in_block : (i : ℕ) → i < coefficient_count bands.parts.now c → numbered_in bands c numbers i ≡ line_of (coefficients_of_block bands c block) i
  in_block i h =
      ap (λ z. dequantised z (slice_index_or (quantisers_of bands c) i 0)) (read i h)
      ∙ sym (runs.coefficient_of (parameters_of bands.parts.now.plan) c bands.parts.now.slice bands.index block i h)

  -- the coefficients are put
  abbrev ArePut : Type 0
  ArePut = PutsSound bands c (numbered_in bands c numbers) old new

  pub filled : {E : Type 0} (done : Result (Unit {0}) E) → OnOk done ArePut → OnOk done (FillsPart bands.parts.now c (coefficients_of_block bands c block) old new)
  filled (Ok all) puts = record { only = puts.only; own = λ i h. puts.on i h ∙ in_block i h }
  filled (Err e) puts = puts

  pub sound : {E : Type 0} (done : Result (Unit {0}) E) → OnOk done ArePut → OnOk done (list_any is_large (coefficients_of_block bands c block) ≡ false)
  sound (Ok all) puts =
      none_large (coefficients_of_block bands c block) (λ i h.
      (let within : i < coefficient_count bands.parts.now c = omega (arith, h, runs.length-block (parameters_of bands.parts.now.plan) c bands.parts.now.slice bands.index block) in
      subst (λ z. unsigned_abs z < 2 ^ 60) (in_block i within) (puts.small i within)))
  sound (Err e) puts = puts
