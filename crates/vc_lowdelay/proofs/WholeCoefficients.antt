-- The coefficients of a slice that was read, component by component, with LL as it has grown.
use Rattle.std.proofs.Common.{◌≡◌, ℕ, ◌^◌, ◌<◌, false, List, length, get_or, ℤ, pos, unsigned_abs, refl, sym, ap, subst, ◌∙◌, arith}
use Rattle.std.specs.List.{list_any}
use Rattle.std.proofs.lemmas.List.{ext_get_or}
use Rattle.std.proofs.lemmas.List.Elements.{All-from_get_or}
use Rattle.std.proofs.lemmas.List.Folds.{list_any_at, list_any_none}
use Rattle.vc_types.specs.declared.video.Component.{Component}
use Rattle.vc_types.specs.declared.video.Component.TheVariants.{Y, C1, C2}
use Rattle.vc_types.specs.Lifting.{line_of}
use Rattle.vc_types.specs.Quantisation.{dequantised}
use Rattle.vc_types.specs.Slices.{Coefficients, is_large, quantisers}
use Rattle.vc_types.specs.TransformParameters.{Parameters}
use Rattle.vc_types.specs.Transforms.{Cells}
use Rattle.vc_golomb.specs.Numbers.{number_at}
use Rattle.vc_slice.specs.declared.bands.SliceBands.{SliceBands}
use Rattle.vc_slice.specs.Bands.{coefficient_count}
use Rattle.vc_lowdelay.specs.declared.bands.LowestBands.{LowestBands}
use Rattle.vc_lowdelay.specs.declared.slice.LowSlice.{LowSlice}
use Rattle.vc_lowdelay.specs.LowDelay as low
use Rattle.vc_lowdelay.specs.LowDelay.{all_low_coefficients, low_coefficients}
use Rattle.vc_lowdelay.specs.Bands.{value_in}
use Rattle.vc_lowdelay.specs.Coded.{slice_of}
use Rattle.vc_lowdelay.specs.Components.{AreGrown, ReadsLargeOf}
use Rattle.vc_lowdelay.specs.Grown.{Lowest, grown_slice, lowest_in, with_lowest}
use Rattle.vc_lowdelay.specs.OfBands.{IsLargeSlice, IsSliceOf, grown_in, parameters_in, read_in}
use Rattle.vc_lowdelay.specs.Placed.{place_of_number}
use Rattle.vc_lowdelay.proofs.GrownValues.{coefficient, grown_same, length-with, with_at}
use Rattle.vc_lowdelay.proofs.LowCoefficients.{block_of, length-low, low_at}
use Rattle.vc_lowdelay.proofs.Soundness.{small_is}

-- three lists are known
same_three : (y c1 c2 ys us vs : List ℤ) → y ≡ ys → c1 ≡ us → c2 ≡ vs → ◌≡◌ {A = Coefficients} (record { y = y; c1 = c1; c2 = c2 }) (record { y = ys; c1 = us; c2 = vs })
same_three y c1 c2 ys us vs e0 e1 e2 = rw e0 (rw e1 (rw e2 refl))

whole_of : (p : Parameters) (n : ℕ) (lowest : Lowest) (s : low.LowSlice)
    → ◌≡◌ {A = Coefficients} (record { y = with_lowest p Y n lowest.y (low_coefficients p n s Y); c1 = with_lowest p C1 n lowest.c1 (low_coefficients p n s C1); c2 = with_lowest p C2 n lowest.c2 (low_coefficients p n s C2) }) (grown_slice p n lowest (all_low_coefficients p n s))
unfolding grown_slice
whole_of p n lowest s = refl

module _ (bands : SliceBands) (coded : LowSlice) (lowest : LowestBands) (index : bands.index ≡ coded.index) where
  abbrev p : Parameters
  p = parameters_in bands

  abbrev n : ℕ
  n = bands.parts.now.slice

  abbrev s : low.LowSlice
  s = slice_of coded

  abbrev kept : Component → Cells
  kept Y = value_in lowest.y
  kept C1 = value_in lowest.c1
  kept C2 = value_in lowest.c2

  abbrev count : Component → ℕ
  count c = coefficient_count bands.parts.now c

  abbrev whole : Component → List ℤ
  whole c = with_lowest p c n (kept c) (low_coefficients p n s c)

  -- ---- one coefficient

  same_read : (c : Component) (k : ℕ) → read_in bands c (block_of s c) k ≡ coefficient p c n (kept c) s k
  same_read c k = ap (λ (q : ℕ). dequantised (number_at (block_of s c) (place_of_number c k)) (get_or (quantisers p c n q) k 0)) index

  same_low : (c : Component) (k : ℕ) → k < count c → read_in bands c (block_of s c) k ≡ line_of (low_coefficients p n s c) k
  same_low c k h = same_read c k ∙ sym (low_at p n s c k h)

  whole_at : (c : Component) (k : ℕ) → k < count c → grown_in bands c (kept c) (read_in bands c (block_of s c)) k ≡ line_of (whole c) k
  whole_at c k h = grown_same p c n (kept c) (read_in bands c (block_of s c)) (coefficient p c n (kept c) s) k (same_read c k) ∙ with_at p c n (kept c) s k h

  long : (c : Component) → length (whole c) ≡ count c
  long c = length-with p c n (kept c) s

  -- ---- a component

  pub small_sound : (c : Component) → ((i : ℕ) → i < count c → unsigned_abs (read_in bands c (block_of s c) i) < 2 ^ 60) → list_any is_large (low_coefficients p n s c) ≡ false
  small_sound c small =
      list_any_none is_large (low_coefficients p n s c) (All-from_get_or (λ (z : ℤ). is_large z ≡ false) (low_coefficients p n s c) (pos 0) (λ i h. (
      let below : i < count c = omega (arith, h, length-low p n s c) in
      small_is (line_of (low_coefficients p n s c) i) (subst (λ (z : ℤ). unsigned_abs z < 2 ^ 60) (same_low c i below) (small i below)))))

  pub large_slice : (c : Component) → ReadsLargeOf bands c (block_of s c) → IsLargeSlice bands coded
  large_slice c has = (
    c,
    list_any_at is_large (low_coefficients p n s c) has.place (pos 0) (omega (arith, has.below, length-low p n s c))
        (ap is_large (sym (same_low c has.place has.below)) ∙ has.large),
  )

  one_whole : (c : Component) (made : List ℤ) → AreGrown bands c (block_of s c) (kept c) made → made ≡ whole c
  one_whole c made grown =
      ext_get_or (pos 0) made (whole c) (grown.count ∙ sym (long c))
      (λ i h. (let below : i < count c = omega (arith, h, grown.count) in grown.each i below ∙ whole_at c i below))

  -- ---- all three, each in a list

  pub wide_slice : (y c1 c2 : List ℤ) → AreGrown bands Y (block_of s Y) (kept Y) y → AreGrown bands C1 (block_of s C1) (kept C1) c1 → AreGrown bands C2 (block_of s C2) (kept C2) c2
      → IsSliceOf bands coded lowest (record { y = y; c1 = c1; c2 = c2 })
  wide_slice y c1 c2 gy g1 g2 = record {
    value = same_three y c1 c2 (whole Y) (whole C1) (whole C2) (one_whole Y y gy) (one_whole C1 c1 g1) (one_whole C2 c2 g2)
        ∙ whole_of p n (lowest_in lowest.y lowest.c1 lowest.c2) s;
    sound = λ c. small_sound c (small_of c);
  }
    where
      small_of : (c : Component) (i : ℕ) → i < count c → unsigned_abs (read_in bands c (block_of s c) i) < 2 ^ 60
      small_of Y = gy.small
      small_of C1 = g1.small
      small_of C2 = g2.small
