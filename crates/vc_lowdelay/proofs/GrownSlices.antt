-- A slice with the values of LL that are kept: it is the one of the definition, and whole.
use Rattle.std.proofs.Common.{◌≡◌, ℕ, ◌^◌, ◌<◌, false, List, length, map, ℤ, pos, unsigned_abs, refl, sym, ap, subst, ◌∙◌, arith, inl, inr}
use Rattle.std.specs.Prelude.{slice_index_or, nat_lt}
use Rattle.std.specs.List.{list_any, range_with_len}
use mathlib.Core.Path.{fun_ext}
use Rattle.std.proofs.lemmas.Bool.{cases_lt, lt-ltb, le-ltb, cond-true, cond-false}
use Rattle.std.proofs.lemmas.List.Elements.{All-from_get_or}
use Rattle.std.proofs.lemmas.List.Folds.{list_any_none}
use Rattle.vc_types.specs.declared.video.Component.{Component}
use Rattle.vc_types.specs.declared.video.Component.TheVariants.{Y, C1, C2}
use Rattle.vc_types.specs.Lifting.{line_of}
use Rattle.vc_types.specs.Rasters.{Lattice}
use Rattle.vc_types.specs.SliceCoefficients.{AreSliceCoefficients}
use Rattle.vc_types.specs.Slices.{Coefficients, coefficients_of, is_large}
use Rattle.vc_types.specs.Subbands.{area, place_in, slice_count, slice_coefficient_count}
use Rattle.vc_types.specs.TransformParameters.{Parameters}
use Rattle.vc_types.specs.Transforms.{Cells}
use Rattle.picture_build.specs.Kept.{no_coefficients}
use Rattle.picture_build.proofs.WholeSlices.{small_at}
use Rattle.vc_lowdelay.specs.Bands.{IsGrown, lowest_rectangle, value_in}
use Rattle.vc_lowdelay.specs.Grown.{IsGrownSlice, Lowest, grown_lowest, grown_or, grown_slice, grown_slices, lowest_in, value_at, with_lowest}
use Rattle.vc_lowdelay.specs.LowDelay.{LowParameters, LowSlice, all_low_coefficients, low_coefficients, low_slices, slice_at}
use Rattle.vc_lowdelay.proofs.GrownPictures as pictures
use Rattle.vc_lowdelay.proofs.GrownPictures.{lowest_of, grown_of, length-grown, grown_at}
use Rattle.vc_lowdelay.proofs.LowAnswers.{length-low_slices, low_slice_at}
use Rattle.vc_lowdelay.proofs.LowCoefficients.{length-low}
use Rattle.vc_lowdelay.proofs.PlacedValues.{lowest_inside}
use Rattle.vc_lowdelay.proofs.Soundness.{small_is}

module _ (p : Parameters) (n : ℕ) where
  -- ---- the values at the slice's places decide

  one_same : (c : Component) (f g : Cells) (zs : List ℤ)
      → ((i : ℕ) → i < area (lowest_rectangle p c n) → value_at f (place_in (lowest_rectangle p c n) i) ≡ value_at g (place_in (lowest_rectangle p c n) i))
      → with_lowest p c n f zs ≡ with_lowest p c n g zs
  one_same c f g zs same = ap (λ (h : ℕ → ℤ). map h (range_with_len 0 (length zs))) (fun_ext each)
    where
      each : (i : ℕ) → grown_or p c n f (line_of zs) i ≡ grown_or p c n g (line_of zs) i
      each i = elim (cases_lt i (area (lowest_rectangle p c n))) [
        | inl lt ↦
            cond-true (nat_lt i (area (lowest_rectangle p c n))) (value_at f (place_in (lowest_rectangle p c n) i)) (line_of zs i) (lt-ltb i (area (lowest_rectangle p c n)) lt)
            ∙ same i lt
            ∙ sym (cond-true (nat_lt i (area (lowest_rectangle p c n))) (value_at g (place_in (lowest_rectangle p c n) i)) (line_of zs i) (lt-ltb i (area (lowest_rectangle p c n)) lt))
        | inr ge ↦
            cond-false (nat_lt i (area (lowest_rectangle p c n))) (value_at f (place_in (lowest_rectangle p c n) i)) (line_of zs i) (le-ltb i (area (lowest_rectangle p c n)) ge)
            ∙ sym (cond-false (nat_lt i (area (lowest_rectangle p c n))) (value_at g (place_in (lowest_rectangle p c n) i)) (line_of zs i) (le-ltb i (area (lowest_rectangle p c n)) ge))
      ]

  pub slice_same : (a b : Lowest) (s : Coefficients)
      → ((c : Component) (i : ℕ) → i < area (lowest_rectangle p c n) → value_at (lowest_of a c) (place_in (lowest_rectangle p c n) i) ≡ value_at (lowest_of b c) (place_in (lowest_rectangle p c n) i))
      → grown_slice p n a s ≡ grown_slice p n b s
  unfolding grown_slice
  slice_same a b s same =
      let y = one_same Y a.y b.y s.y (same Y) in
      let c1 = one_same C1 a.c1 b.c1 s.c1 (same C1) in
      let c2 = one_same C2 a.c2 b.c2 s.c2 (same C2) in
      cc

  -- ---- whole

  module _ (s : LowSlice) (lowest : Lowest) (made : Coefficients) (is : IsGrownSlice p n s lowest made)
      (small : (c : Component) (i : ℕ) → i < area (lowest_rectangle p c n) → unsigned_abs (value_at (lowest_of lowest c) (place_in (lowest_rectangle p c n) i)) < 2 ^ 60) where
    abbrev before : Coefficients
    before = all_low_coefficients p n s

    own : (c : Component) → coefficients_of before c ≡ low_coefficients p n s c
    own Y = refl
    own C1 = refl
    own C2 = refl

    long : (c : Component) → length (coefficients_of before c) ≡ slice_coefficient_count p c n
    long c = ap length (own c) ∙ length-low p n s c

    made_of : (c : Component) → coefficients_of made c ≡ coefficients_of (grown_slice p n lowest before) c
    made_of c = ap (λ (t : Coefficients). coefficients_of t c) is.value

    whole_count : (c : Component) → length (coefficients_of made c) ≡ slice_coefficient_count p c n
    whole_count c = ap length (made_of c) ∙ length-grown p n lowest before c ∙ long c

    each_small : (c : Component) (i : ℕ) → i < slice_coefficient_count p c n → unsigned_abs (line_of (coefficients_of made c) i) < 2 ^ 60
    each_small c i h =
        subst (λ (z : ℤ). unsigned_abs z < 2 ^ 60) (sym (ap (λ (zs : List ℤ). line_of zs i) (made_of c) ∙ grown_at p n lowest before c i (omega (arith, h, long c))))
        (elim (cases_lt i (area (lowest_rectangle p c n))) [
          | inl lt ↦ subst (λ (z : ℤ). unsigned_abs z < 2 ^ 60)
              (sym (cond-true (nat_lt i (area (lowest_rectangle p c n))) (value_at (lowest_of lowest c) (place_in (lowest_rectangle p c n) i)) (line_of (coefficients_of before c) i) (lt-ltb i (area (lowest_rectangle p c n)) lt)))
              (small c i lt)
          | inr ge ↦ subst (λ (z : ℤ). unsigned_abs z < 2 ^ 60)
              (sym (cond-false (nat_lt i (area (lowest_rectangle p c n))) (value_at (lowest_of lowest c) (place_in (lowest_rectangle p c n) i)) (line_of (coefficients_of before c) i) (le-ltb i (area (lowest_rectangle p c n)) ge)))
              (small_at (coefficients_of before c) i (ap (list_any is_large) (own c) ∙ is.sound c) (omega (arith, h, long c)))
        ])

    pub is_whole : AreSliceCoefficients p n made
    is_whole = record {
      count = whole_count;
      small = λ c. list_any_none is_large (coefficients_of made c) (All-from_get_or (λ (z : ℤ). is_large z ≡ false) (coefficients_of made c) (pos 0) (λ i h. small_is (line_of (coefficients_of made c) i) (each_small c i (omega (arith, h, whole_count c)))));
    }

-- ---- with LL as it is kept

pub record AllGrown (p : Parameters) (slices : List Coefficients) (y c1 c2 : Lattice) : Type 0 where
  pub y_grown : IsGrown p Y slices y
  pub c1_grown : IsGrown p C1 slices c1
  pub c2_grown : IsGrown p C2 slices c2

module _ (p : Parameters) (some_across : 0 < p.slices_x) (some_down : 0 < p.slices_y) (slices : List Coefficients) (y c1 c2 : Lattice) (grown : AllGrown p slices y c1 c2) where
  abbrev band : Component → Lattice
  band Y = y
  band C1 = c1
  band C2 = c2

  is_grown : (c : Component) → IsGrown p c slices (band c)
  is_grown Y = grown.y_grown
  is_grown C1 = grown.c1_grown
  is_grown C2 = grown.c2_grown

  kept : (c : Component) → lowest_of (lowest_in y c1 c2) c ≡ value_in (band c)
  kept Y = refl
  kept C1 = refl
  kept C2 = refl

  module _ (n : ℕ) (numbered : n < slice_count p) where
    kept_value : (c : Component) (i : ℕ) → i < area (lowest_rectangle p c n) → value_at (lowest_of (lowest_in y c1 c2) c) (place_in (lowest_rectangle p c n) i) ≡ value_at (lowest_of (grown_lowest p slices) c) (place_in (lowest_rectangle p c n) i)
    kept_value c i h =
        let place = place_in (lowest_rectangle p c n) i in
        let inside = lowest_inside p c some_across some_down n i numbered h in
        let g = is_grown c in
        ap (λ (f : Cells). f place.0 place.1) (kept c)
        ∙ g.values place.0 place.1 (omega (arith, inside.0, g.size.width)) (omega (arith, inside.1, g.size.height))
        ∙ ap (λ (f : Cells). f place.0 place.1) (sym (pictures.lowest_of-grown p slices c))

    pub kept_small : (c : Component) (i : ℕ) → i < area (lowest_rectangle p c n) → unsigned_abs (value_at (lowest_of (lowest_in y c1 c2) c) (place_in (lowest_rectangle p c n) i)) < 2 ^ 60
    kept_small c i h =
        let place = place_in (lowest_rectangle p c n) i in
        let inside = lowest_inside p c some_across some_down n i numbered h in
        let g = is_grown c in
        subst (λ (f : Cells). unsigned_abs (f place.0 place.1) < 2 ^ 60) (sym (kept c))
        (g.small place.0 place.1 (omega (arith, inside.0, g.size.width)) (omega (arith, inside.1, g.size.height)))

    -- the slice of the definition
    pub made_is : (s : Coefficients) → grown_slice p n (lowest_in y c1 c2) s ≡ grown_slice p n (grown_lowest p slices) s
    made_is s = slice_same p n (lowest_in y c1 c2) (grown_lowest p slices) s kept_value

module _ (p : LowParameters) (bytes : List ℕ) (some_across : 0 < p.parameters.slices_x) (some_down : 0 < p.parameters.slices_y) (y c1 c2 : Lattice)
    (grown : AllGrown p.parameters (low_slices p bytes) y c1 c2) (n : ℕ) (numbered : n < slice_count p.parameters)
    (made : Coefficients) (is : IsGrownSlice p.parameters n (slice_at p bytes n) (lowest_in y c1 c2) made) where
  pub made_whole : AreSliceCoefficients p.parameters n made
  made_whole = is_whole p.parameters n (slice_at p bytes n) (lowest_in y c1 c2) made is (kept_small p.parameters some_across some_down (low_slices p bytes) y c1 c2 grown n numbered)

  pub made_slice : slice_index_or (grown_slices p.parameters (low_slices p bytes)) n no_coefficients ≡ made
  made_slice =
      pictures.slice_at p.parameters (low_slices p bytes) n no_coefficients (omega (arith, numbered, length-low_slices p bytes))
      ∙ ap (grown_slice p.parameters n (grown_lowest p.parameters (low_slices p bytes))) (low_slice_at p bytes n numbered)
      ∙ sym (is.value ∙ made_is p.parameters some_across some_down (low_slices p bytes) y c1 c2 grown n numbered (all_low_coefficients p.parameters n (slice_at p bytes n)))
