-- The numbers of a block that are coded: all coefficients quantised, up to the last number that isn't 0.
use Rattle.std.proofs.Common.{◌≡◌, ℕ, zero, suc, ◌+◌, ◌*◌, ◌^◌, ◌<◌, ◌≤◌, List, [], ◌∷◌, length, take, get_or, ℤ, pos, unsigned_abs, of_z, w32, arith, refl, sym, ap, ◌∙◌}
use Rattle.std.specs.List.{zip}
use Rattle.std.proofs.lemmas.List.{ext_get_or, get_or-map, length-map}
use Rattle.std.proofs.lemmas.Slice.Zip.{get_or-zip}
use Rattle.std.proofs.Math.Nat.{mul-le-mul}
use Rattle.vc_geometry.specs.Rectangles.{AreSliceRectangles}
use Rattle.vc_types.specs.declared.rect.Rect.{Rect}
use Rattle.vc_types.specs.declared.video.Component.{Component}
use Rattle.vc_types.specs.declared.video.Component.TheVariants.{Y, C1, C2}
use Rattle.vc_types.specs.Encoding.{kept_before, quantised_numbers, without_last_zeros}
use Rattle.vc_types.specs.Lifting.{line_of}
use Rattle.vc_types.specs.Quantisation.{quantised, subband_count}
use Rattle.vc_types.specs.Slices.{quantisers}
use Rattle.vc_types.specs.Subbands.{area, slice_coefficient_count, slice_rectangle, subband_at}
use Rattle.vc_types.specs.TransformParameters.{Parameters, parameters_of}
use Rattle.vc_types.proofs.SliceRectangles.{coefficients_before, coefficients_before-none, coefficients_before-more, coefficients_before-all}
use Rattle.vc_slice.specs.declared.bands.SliceParts.{SliceParts}
use Rattle.vc_slice.specs.Bands.{coefficient_count}
use Rattle.vc_slice.proofs.BlockCodes.{kept_other}
use Rattle.vc_slice.proofs.BlockCoefficients.{length-quantisers}
use Rattle.vc_slice.proofs.NarrowRuns.{length-pairs}

-- zeros at the end are left out
zero_kept : (z : ℤ) → unsigned_abs z ≡ 0 → kept_before [] z ≡ []
zero_kept z none = rw none refl

pub kept_front : (n : ℕ) (zs : List ℤ) → n ≤ length zs → ((i : ℕ) → n ≤ i → i < length zs → line_of zs i ≡ pos 0) → ((m : ℕ) → n ≡ suc m → 0 < unsigned_abs (line_of zs m)) → take n zs ≡ without_last_zeros zs
unfolding without_last_zeros
kept_front zero [] within zeros last = refl
kept_front (suc n) [] within zeros last = absurd (omega arith)
kept_front zero (z ∷ zs) within zeros last =
    let rest : [] ≡ without_last_zeros zs = kept_front zero zs (omega arith) (λ i low high. zeros (suc i) (omega arith) (omega arith)) (λ m e. absurd (omega (arith, e))) in
    sym (zero_kept z (ap unsigned_abs (zeros 0 (omega arith) (omega arith)))) ∙ ap (λ (xs : List ℤ). kept_before xs z) rest
kept_front (suc zero) (z ∷ zs) within zeros last =
    let rest : [] ≡ without_last_zeros zs = kept_front zero zs (omega arith) (λ i low high. zeros (suc i) (omega arith) (omega arith)) (λ m e. absurd (omega (arith, e))) in
    sym (kept_other z [] (last 0 refl)) ∙ ap (λ (xs : List ℤ). kept_before xs z) rest
kept_front (suc (suc n)) (z ∷ []) within zeros last = absurd (omega arith)
kept_front (suc (suc n)) (z ∷ x ∷ xs) within zeros last =
    let rest : take (suc n) (x ∷ xs) ≡ without_last_zeros (x ∷ xs) = kept_front (suc n) (x ∷ xs) (omega arith) (λ i low high. zeros (suc i) (omega arith) (omega arith)) (λ m e. last (suc m) (ap suc e)) in
    ap (λ (ys : List ℤ). kept_before ys z) rest

-- a number whose bits aren't 0
pub some_bits : (z : ℤ) → (of_z w32 z ≡ 0 → ⊥) → 0 < unsigned_abs z
some_bits z other = grind arith

-- the numbers of a component, place by place
pub all_quantised : (p : Parameters) (c : Component) (slice index : ℕ) (coefficients numbers : List ℤ) → length coefficients ≡ slice_coefficient_count p c slice → length numbers ≡ length coefficients
    → ((i : ℕ) → i < length coefficients → line_of numbers i ≡ quantised (line_of coefficients i) (get_or (quantisers p c slice index) i 0)) → numbers ≡ quantised_numbers p c slice index coefficients
unfolding quantised_numbers
all_quantised p c slice index coefficients numbers whole long each =
    let indices = quantisers p c slice index in
    let many = length-quantisers p c slice index in
    let pairs = length-pairs coefficients indices (whole ∙ sym many) in
    let f : ℤ × ℕ → ℤ = λ z. quantised z.0 z.1 in
    ext_get_or (pos 0) numbers (quantised_numbers p c slice index coefficients) (long ∙ sym pairs ∙ sym (length-map (zip coefficients indices) f))
    (λ i below.
    let inside : i < length coefficients = omega (arith, long) in
    each i inside
    ∙ ap f (sym (get_or-zip coefficients indices i (pos 0, 0) inside (omega (arith, whole, many))))
    ∙ sym (get_or-map f (zip coefficients indices) i (pos 0, 0) (pos 0) (omega (arith, pairs))))

-- a slice has few coefficients
product : (w h : ℕ) → w ≤ 8192 → h ≤ 8192 → w * h ≤ 8192 * 8192
product w h across down = mul-le-mul across down

module _ (p : Parameters) (c : Component) (slice : ℕ) (rects : List Rect) (are : AreSliceRectangles p c slice rects) where
  few_before : (b : ℕ) → b ≤ subband_count p.depth_ho p.depth → coefficients_before p c slice b ≤ b * 2 ^ 26
  few_before zero within = omega (arith, coefficients_before-none p c slice)
  few_before (suc b) within =
      let none = slice_rectangle p c (subband_at p.depth_ho p.depth b) slice in
      let small = are.small b none (omega arith) in
      let r = get_or rects b none in
      let own : r.width * r.height ≤ 8192 * 8192 = product r.width r.height (omega (arith, small.0)) (omega (arith, small.1)) in
      let same : area r ≡ area none = ap area (are.parts b none (omega arith)) in
      let more = coefficients_before-more p c slice b (omega arith) in
      let next : b + 1 ≡ suc b = omega arith in
      let whole = ap (coefficients_before p c slice) next in
      omega (arith, own, same, more, whole, few_before b (omega arith))

  few_in : p.depth_ho + p.depth ≤ 5 → slice_coefficient_count p c slice < 2 ^ 31
  few_in levels =
      let all = coefficients_before-all p c slice (subband_count p.depth_ho p.depth) refl in
      omega (arith, all, few_before (subband_count p.depth_ho p.depth) (omega arith))

pub few_coefficients : (parts : SliceParts) (c : Component) → coefficient_count parts c < 2 ^ 31
few_coefficients parts Y = few_in (parameters_of parts.plan) Y parts.slice parts.luma parts.of_luma (omega (arith, parts.plan.few_levels))
few_coefficients parts C1 = few_in (parameters_of parts.plan) C1 parts.slice parts.colour parts.of_colour (omega (arith, parts.plan.few_levels))
few_coefficients parts C2 = few_in (parameters_of parts.plan) C2 parts.slice parts.colour parts.of_other (omega (arith, parts.plan.few_levels))
