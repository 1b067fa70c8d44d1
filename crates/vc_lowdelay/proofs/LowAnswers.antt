-- What a picture decodes to.
use Rattle.std.proofs.Common.{◌≡◌, ℕ, ◌<◌, ◌≤◌, true, List, length, refl, ap, ◌∙◌, arith}
use Rattle.std.specs.Prelude.{nat_lt, slice_index_or, if◌then◌else◌, Result, Ok, Err}
use Rattle.std.proofs.lemmas.Bool.{lt-ltb, le-ltb, cond-true, cond-false}
use Rattle.std.proofs.lemmas.List.FromFn.{length-map-range_with_len, get_or-map-range_with_len}
use Rattle.vc_types.specs.declared.video.Component.{Component}
use Rattle.vc_types.specs.declared.video.Component.TheVariants.{Y, C1, C2}
use Rattle.vc_types.specs.Planes.{Planes}
use Rattle.vc_types.specs.Slices.{Coefficients, coefficients_of}
use Rattle.vc_types.specs.Subbands.{slice_count, slice_coefficient_count}
use Rattle.picture_build.specs.Kept.{no_coefficients}
use Rattle.vc_lowdelay.specs.declared.refusal.LowRefusal.{LowRefusal}
use Rattle.vc_lowdelay.specs.declared.refusal.LowRefusal.TheVariants.{Short, CoefficientRange}
use Rattle.vc_lowdelay.specs.Decoded.{IsDecodable}
use Rattle.vc_lowdelay.specs.LowDelay.{LowParameters, low_slice_start, low_slices, low_coefficients, all_low_coefficients, slice_at, are_large, low_planes, low_planes_of}
use Rattle.vc_lowdelay.proofs.LowCoefficients.{length-low}

module _ (p : LowParameters) (bytes : List ℕ) where
  abbrev slices : List Coefficients
  slices = low_slices p bytes

  abbrev whole : ℕ
  whole = low_slice_start p.numerator p.denominator (slice_count p.parameters)

  abbrev long_answer : Result Planes LowRefusal
  long_answer = if are_large p.parameters slices then Err CoefficientRange else Ok (low_planes_of p.parameters slices)

  pub is_short : length bytes < whole → low_planes p bytes ≡ Err Short
  unfolding low_planes
  is_short h = cond-true (nat_lt (length bytes) whole) (Err Short) long_answer (lt-ltb (length bytes) whole h)

  if_long : whole ≤ length bytes → low_planes p bytes ≡ long_answer
  unfolding low_planes
  if_long h = cond-false (nat_lt (length bytes) whole) (Err Short) long_answer (le-ltb (length bytes) whole h)

  pub is_large_picture : whole ≤ length bytes → are_large p.parameters slices ≡ true → low_planes p bytes ≡ Err CoefficientRange
  is_large_picture h large = if_long h ∙ cond-true (are_large p.parameters slices) (Err CoefficientRange) (Ok (low_planes_of p.parameters slices)) large

  pub is_decoded : IsDecodable p bytes → low_planes p bytes ≡ Ok (low_planes_of p.parameters slices)
  is_decoded d = if_long d.whole ∙ cond-false (are_large p.parameters slices) (Err CoefficientRange) (Ok (low_planes_of p.parameters slices)) d.small

  -- ---- its slices

  pub length-low_slices : length (low_slices p bytes) ≡ slice_count p.parameters
  unfolding low_slices
  length-low_slices = length-map-range_with_len (λ i. all_low_coefficients p.parameters i (slice_at p bytes i)) 0 (slice_count p.parameters)

  pub low_slice_at : (n : ℕ) → n < slice_count p.parameters → slice_index_or (low_slices p bytes) n no_coefficients ≡ all_low_coefficients p.parameters n (slice_at p bytes n)
  unfolding low_slices
  low_slice_at n h = get_or-map-range_with_len (λ i. all_low_coefficients p.parameters i (slice_at p bytes i)) 0 (slice_count p.parameters) n n no_coefficients h (omega arith)

  pub low_coefficients_at : (n : ℕ) (c : Component) → n < slice_count p.parameters → coefficients_of (slice_index_or (low_slices p bytes) n no_coefficients) c ≡ low_coefficients p.parameters n (slice_at p bytes n) c
  low_coefficients_at n c h = ap (λ (s : Coefficients). coefficients_of s c) (low_slice_at n h) ∙ own c
    where
      own : (c : Component) → coefficients_of (all_low_coefficients p.parameters n (slice_at p bytes n)) c ≡ low_coefficients p.parameters n (slice_at p bytes n) c
      own Y = refl
      own C1 = refl
      own C2 = refl

  pub low_counts : (c : Component) (n : ℕ) → n < length (low_slices p bytes) → length (coefficients_of (slice_index_or (low_slices p bytes) n no_coefficients) c) ≡ slice_coefficient_count p.parameters c n
  low_counts c n h =
      ap length (low_coefficients_at n c (omega (arith, h, length-low_slices)))
      ∙ length-low p.parameters n (slice_at p bytes n) c
