-- At quantisation index 0 the coefficients of a slice that was encoded come back.
use Rattle.std.proofs.Common.{◌≡◌, ◌<◌, ℕ, suc, ◌+◌, ◌-◌, ◌*◌, ℤ, pos, unsigned_abs, Bool, true, false, List, [], ◌∷◌, ◌++◌, length, map, replicate, Ok, refl, sym, ap, ◌∙◌, arith, length-append, inl, inr, ◌==◌, slice_index_or}
use Rattle.std.specs.List.{flat_map, list_any, enumerate_from, zip, sum_by}
use Rattle.std.proofs.lemmas.Bool.{cases_Bool, eqb-true}
use Rattle.std.proofs.lemmas.List.{length-replicate, replicate-append-replicate}
use Rattle.std.proofs.lemmas.List.Concat.{flat_map-cons}
use Rattle.std.proofs.lemmas.List.Folds.{list_any-append}
use Rattle.std.proofs.lemmas.List.Sums.{sum_by-cons}
use Rattle.vc_types.specs.Bits.{bits_of}
use Rattle.vc_types.specs.Bounded.{bounded_sints}
use Rattle.vc_types.specs.Codes.{sint_bits}
use Rattle.vc_types.specs.Encoding.{is_too_long, kept_before, without_last_zeros, quantised_numbers, block_bits}
use Rattle.vc_types.specs.Quantisation.{quantised, dequantised}
use Rattle.vc_types.specs.Slices.{Coefficients, coefficients_of, is_large, quantisers, block_coefficients, all_coefficients, in_range, decoded_slice}
use Rattle.vc_types.specs.Subbands.{area, Subband, subbands, slice_rectangle, slice_coefficient_count}
use Rattle.vc_types.specs.TransformParameters.{Parameters}
use Rattle.vc_types.specs.declared.video.Component.{Component}
use Rattle.vc_types.specs.declared.video.Component.TheVariants.{Y, C1, C2}
use Rattle.picture_build.proofs.BoundedLists.{bounded_sints-written, bounded_sints-ones}
use Rattle.link_laws.proofs.CodedSlices.{units_of, block_bytes, bits_of-block_bytes, coded}
use Rattle.vc_types.proofs.Quantisers.{comes_back}

-- what can be encoded: lists of the lengths that the slice has, and magnitudes below 2 ^ 60
pub record AreCoefficients (p : Parameters) (slice : ℕ) (s : Coefficients) : Type 0 where
  pub lengths : (c : Component) → length (coefficients_of s c) ≡ slice_coefficient_count p c slice
  pub small : (c : Component) → list_any is_large (coefficients_of s c) ≡ false

-- ---- numbers up to the last that isn't 0, and zeros

pub record EndsInZeros (zs : List ℤ) : Type 0 where
  pub zeros : ℕ
  pub is : zs ≡ without_last_zeros zs ++ replicate zeros (pos 0)

is_zero : (z : ℤ) → unsigned_abs z ≡ 0 → z ≡ pos 0
is_zero z none = grind arith

first_kept : (z : ℤ) (zs kept : List ℤ) (n : ℕ) → zs ≡ kept ++ replicate n (pos 0) → (m : ℕ) × (z ∷ zs ≡ kept_before kept z ++ replicate m (pos 0))
first_kept z zs (k ∷ kept) n is = (n, ap (λ (l : List ℤ). z ∷ l) is)
first_kept z zs [] n is = elim (cases_Bool (unsigned_abs z == 0)) [
  | inl none ↦ (suc n, (λ i. is_zero z (eqb-true (unsigned_abs z) 0 none) i ∷ is i) ∙ rw none refl)
  | inr some ↦ (n, ap (λ (l : List ℤ). z ∷ l) is ∙ rw some refl)
]

ends_in_zeros : (zs : List ℤ) → EndsInZeros zs
unfolding without_last_zeros
ends_in_zeros [] = record { zeros = 0; is = refl }
ends_in_zeros (z ∷ zs) =
    let behind = ends_in_zeros zs in
    let all = first_kept z zs (without_last_zeros zs) behind.zeros behind.is in
    record { zeros = all.0; is = all.1 }

-- the block of numbers is read as the numbers
pub numbers_back : (zs : List ℤ) (m : ℕ) → bounded_sints (length zs) (flat_map sint_bits (without_last_zeros zs) ++ replicate m true) ≡ zs
numbers_back zs m =
    let ends = ends_in_zeros zs in
    let kept : List ℤ = without_last_zeros zs in
    let long : length zs ≡ length kept + ends.zeros = ap length ends.is ∙ length-append kept (replicate ends.zeros (pos 0)) ∙ ap (λ (n : ℕ). length kept + n) (length-replicate {A = ℤ} ends.zeros (pos 0)) in
    grind (arith, bounded_sints-ones, bounded_sints-written, long)

-- ---- at index 0 every quantiser is 0

quantisers_from : (p : Parameters) (c : Component) (slice n : ℕ) (bs : List Subband)
    → flat_map (λ b. replicate (area (slice_rectangle p c b.1 slice)) (0 - slice_index_or p.matrix b.0 0)) (enumerate_from n bs) ≡ replicate (sum_by area (map (λ b. slice_rectangle p c b slice) bs)) 0
quantisers_from p c slice n [] = refl
quantisers_from p c slice n (b ∷ bs) =
    let own : ℕ = area (slice_rectangle p c b slice) in
    let behind : ℕ = sum_by area (map (λ b. slice_rectangle p c b slice) bs) in
    let none : 0 - slice_index_or p.matrix n 0 ≡ 0 = omega arith in
    flat_map-cons (λ (b : ℕ × Subband). replicate (area (slice_rectangle p c b.1 slice)) (0 - slice_index_or p.matrix b.0 0)) (n, b) (enumerate_from (n + 1) bs)
    ∙ (λ i. replicate own (none i) ++ quantisers_from p c slice (n + 1) bs i)
    ∙ replicate-append-replicate own behind 0
    ∙ ap (λ (k : ℕ). replicate k 0) (sym (sum_by-cons area (slice_rectangle p c b slice) (map (λ b. slice_rectangle p c b slice) bs)))

quantisers-zero : (p : Parameters) (c : Component) (slice : ℕ) → quantisers p c slice 0 ≡ replicate (slice_coefficient_count p c slice) 0
unfolding quantisers slice_coefficient_count
quantisers-zero p c slice = quantisers_from p c slice 0 (subbands p.depth_ho p.depth)

-- ---- a block

by_zeros : (f : ℤ → ℕ → ℤ) (zs : List ℤ) → map (λ z. f z.0 z.1) (zip zs (replicate (length zs) 0)) ≡ map (λ z. f z 0) zs
by_zeros f [] = refl
by_zeros f (z ∷ zs) = ap (λ (l : List ℤ). f z 0 ∷ l) (by_zeros f zs)

both_back : (zs : List ℤ) → map (λ z. dequantised z 0) (map (λ z. quantised z 0) zs) ≡ zs
both_back [] = refl
both_back (z ∷ zs) = λ i. comes_back z i ∷ both_back zs i

long : (zs : List ℤ) → length (map (λ z. quantised z 0) zs) ≡ length zs
long [] = refl
long (z ∷ zs) = ap suc (long zs)

module _ (p : Parameters) (slice : ℕ) (some : 0 < p.scaler) where
  numbers-zero : (c : Component) (zs : List ℤ) → length zs ≡ slice_coefficient_count p c slice → quantised_numbers p c slice 0 zs ≡ map (λ z. quantised z 0) zs
  unfolding quantised_numbers
  numbers-zero c zs count = cc (quantisers-zero p c slice, count, by_zeros quantised zs)

  block_back : (c : Component) (zs : List ℤ) → length zs ≡ slice_coefficient_count p c slice → block_coefficients p c slice 0 (block_bytes p.scaler (block_bits p c slice 0 zs)) ≡ zs
  unfolding block_coefficients block_bits
  block_back c zs count =
      let ns : List ℤ = quantised_numbers p c slice 0 zs in
      let same : ns ≡ map (λ z. quantised z 0) zs = numbers-zero c zs count in
      let many : slice_coefficient_count p c slice ≡ length ns = sym count ∙ sym (long zs) ∙ ap length (sym same) in
      let bits : List Bool = flat_map sint_bits (without_last_zeros ns) in
      let read : bounded_sints (slice_coefficient_count p c slice) (bits_of (block_bytes p.scaler bits)) ≡ ns =
      (λ i. bounded_sints (many i) (bits_of-block_bytes p.scaler bits some i)) ∙ numbers_back ns (8 * (units_of p.scaler bits * p.scaler) - length bits) in
      (λ i. map (λ z. dequantised z.0 z.1) (zip (read i) ((quantisers-zero p c slice ∙ ap (λ (n : ℕ). replicate n 0) many) i)))
      ∙ by_zeros dequantised ns
      ∙ ap (map (λ z. dequantised z 0)) same
      ∙ both_back zs

-- ---- a slice

abbrev coefficients : List ℤ → List ℤ → List ℤ → Coefficients
coefficients y c1 c2 = record { y = y; c1 = c1; c2 = c2 }

in_range-small : (s : Coefficients) → list_any is_large (s.y ++ s.c1 ++ s.c2) ≡ false → in_range s ≡ Ok s
in_range-small s small = rw small refl

-- the index and the blocks stand for the coefficients
pub decoded_slice-coded : (p : Parameters) (slice : ℕ) (s : Coefficients) (some : 0 < p.scaler) (known : 0 < 256) (fits : is_too_long p slice 0 s ≡ false) → AreCoefficients p slice s → decoded_slice p slice (coded p slice 0 s some known fits) ≡ Ok s
unfolding decoded_slice
decoded_slice-coded p slice s some known fits are =
    let all : all_coefficients p slice (coded p slice 0 s some known fits) ≡ s =
    (λ i. coefficients (block_back p slice some Y s.y (are.lengths Y) i) (block_back p slice some C1 s.c1 (are.lengths C1) i) (block_back p slice some C2 s.c2 (are.lengths C2) i)) in
    ap in_range all ∙ in_range-small s (list_any-append is_large (s.y ++ s.c1) s.c2 ∙ rw (are.small C2) (rw (list_any-append is_large s.y s.c1) (rw ((are.small Y), (are.small C1)) refl)))
