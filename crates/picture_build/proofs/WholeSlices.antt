-- Slices that were decoded are whole, and their coefficients are small.
use Rattle.std.proofs.Common.{◌≡◌, ℕ, ◌^◌, ◌<◌, Bool, true, false, List, [], ◌∷◌, ◌++◌, length, ℤ, pos, unsigned_abs, arith, refl, ap, sym, ◌∙◌, inl, inr, length-append}
use Rattle.std.specs.Prelude.{slice_index_or, nat_le, nat_lt, if◌then◌else◌, ◌||◌, Result, Ok, Err}
use Rattle.std.specs.List.{list_any}
use Rattle.std.proofs.lemmas.Bool.{cases_eq}
use Rattle.std.proofs.lemmas.Bool.Decides.{nat_tests}
use Rattle.std.proofs.lemmas.List.{get_or_append_left, get_or_push}
use Rattle.std.proofs.lemmas.List.Folds.{list_any-append, list_any_at}
use Rattle.vc_types.specs.declared.refusal.Unsound.{Unsound}
use Rattle.vc_types.specs.declared.refusal.Unsound.TheVariants.{IndexRange, CoefficientRange}
use Rattle.vc_types.specs.declared.video.Component.{Component}
use Rattle.vc_types.specs.declared.video.Component.TheVariants.{Y, C1, C2}
use Rattle.vc_types.specs.Slices.{CodedSlice, coded_slice, Coefficients, coefficients_of, is_large, in_range, all_coefficients, decoded_slice, decoded_from, slice_coefficients}
use Rattle.vc_types.specs.Subbands.{slice_coefficient_count}
use Rattle.vc_types.specs.TransformParameters.{Parameters}
use Rattle.vc_slice.proofs.NarrowRuns.{length-block}
use Rattle.vc_types.specs.SliceCoefficients.{AreSliceCoefficients}
use Rattle.picture_build.specs.PictureCoefficients.{ArePictureCoefficients}

-- ---- how many coefficients a slice has

length-all : (p : Parameters) (n : ℕ) (coded : CodedSlice) (c : Component) → length (coefficients_of (all_coefficients p n coded) c) ≡ slice_coefficient_count p c n
length-all p n coded Y = length-block p Y n coded.index coded.y
length-all p n coded C1 = length-block p C1 n coded.index coded.c1
length-all p n coded C2 = length-block p C2 n coded.index coded.c2

-- ---- none is large

either-false : (a b : Bool) → (a || b) ≡ false → (a ≡ false) × (b ≡ false)
either-false true b e = absurd cc
either-false false b e = (refl, e)

none_large : (s : Coefficients) (c : Component) → list_any is_large (s.y ++ s.c1 ++ s.c2) ≡ false → list_any is_large (coefficients_of s c) ≡ false
none_large s c e = each c (either-false _ _ (sym (list_any-append is_large (s.y ++ s.c1) s.c2) ∙ e))
  where
    each : (c : Component) → (list_any is_large (s.y ++ s.c1) ≡ false) × (list_any is_large s.c2 ≡ false) → list_any is_large (coefficients_of s c) ≡ false
    each Y h = (either-false _ _ (sym (list_any-append is_large s.y s.c1) ∙ h.0)).0
    each C1 h = (either-false _ _ (sym (list_any-append is_large s.y s.c1) ∙ h.0)).1
    each C2 h = h.1

-- ---- a decoded slice

module _ (p : Parameters) (n : ℕ) (s : Coefficients) where
  whole_in_range : (all : Coefficients) (large : Bool) → ((c : Component) → length (coefficients_of all c) ≡ slice_coefficient_count p c n) → list_any is_large (all.y ++ all.c1 ++ all.c2) ≡ large
      → ◌≡◌ {A = Result Coefficients Unsound} (if large then Err CoefficientRange else Ok all) (Ok s) → AreSliceCoefficients p n s
  whole_in_range all true count small e = absurd cc
  whole_in_range all false count small e =
      let same : all ≡ s = cc in
      record {
        count = λ c. ap (λ t. length (coefficients_of t c)) (sym same) ∙ count c;
        small = λ c. ap (λ t. list_any is_large (coefficients_of t c)) (sym same) ∙ none_large all c small;
      }

  whole_indexed : (coded : CodedSlice) (high : Bool) → ◌≡◌ {A = Result Coefficients Unsound} (if high then Err IndexRange else in_range (all_coefficients p n coded)) (Ok s) → AreSliceCoefficients p n s
  whole_indexed coded true e = absurd cc
  whole_indexed coded false e = whole_in_range (all_coefficients p n coded) (list_any is_large ((all_coefficients p n coded).y ++ (all_coefficients p n coded).c1 ++ (all_coefficients p n coded).c2)) (length-all p n coded) refl e

  pub whole_decoded : (coded : CodedSlice) → decoded_slice p n coded ≡ Ok s → AreSliceCoefficients p n s
  unfolding decoded_slice
  whole_decoded coded e = whole_indexed coded (nat_lt 127 coded.index) e

  whole_from : (read : Result (CodedSlice × List ℕ) (Unit {0})) → decoded_from p n read ≡ Ok s → AreSliceCoefficients p n s
  whole_from (Ok read) e = whole_decoded read.0 e
  whole_from (Err short) e = absurd cc

  -- what decoding a sound slice answers
  pub whole_slice : (bytes : List ℕ) → slice_coefficients p n bytes ≡ Ok s → AreSliceCoefficients p n s
  unfolding slice_coefficients
  whole_slice bytes e = whole_from (coded_slice p.prefix p.scaler bytes) e

-- ---- slices in raster order

-- one slice more
pub whole_push : (p : Parameters) (slices : List Coefficients) (s : Coefficients) → ArePictureCoefficients p slices → AreSliceCoefficients p (length slices) s → ArePictureCoefficients p (slices ++ s ∷ [])
whole_push p slices s before own n none h = elim (cases_eq n (length slices)) [
  | inl e ↦ rw (get_or_push slices s none n (sym e)) (rw e own)
  | inr ne ↦ (
      let count = length-append slices (s ∷ []) in
      let earlier : n < length slices = omega (arith, count) in
      rw (get_or_append_left slices (s ∷ []) none n earlier) (before n none earlier))
]

-- ---- small coefficients

not_large : (z : ℤ) (large : Bool) → nat_le (2 ^ 60) (unsigned_abs z) ≡ large → large ≡ false → unsigned_abs z < 2 ^ 60
not_large z large e f = grind (arith, nat_tests)

-- each of a list that has no large number is below 2 ^ 60
pub small_at : (zs : List ℤ) (i : ℕ) → list_any is_large zs ≡ false → i < length zs → unsigned_abs (slice_index_or zs i (pos 0)) < 2 ^ 60
small_at zs i none within =
    let z = slice_index_or zs i (pos 0) in
    not_large z (is_large z) refl (small_by (is_large z) refl none (λ e. list_any_at is_large zs i (pos 0) within e))
  where
    small_by : (large : Bool) {any : Bool} → large ≡ large → any ≡ false → (large ≡ true → any ≡ true) → large ≡ false
    small_by true {any} e none at = absurd (let now = at refl in cc)
    small_by false e none at = refl

-- and so is each coefficient of a whole slice
pub coefficient-small : (p : Parameters) (n : ℕ) (s : Coefficients) (c : Component) (i : ℕ) → AreSliceCoefficients p n s → i < slice_coefficient_count p c n → unsigned_abs (slice_index_or (coefficients_of s c) i (pos 0)) < 2 ^ 60
coefficient-small p n s c i whole h =
    let zs = coefficients_of s c in
    let count = whole.count c in
    small_at zs i (whole.small c) (omega (arith, count))
