-- A slice whose coefficients stand in narrow cells is the one of the definition.
use Rattle.std.proofs.Common.{◌≡◌, ℕ, Bool, ◌+◌, ◌*◌, ◌^◌, ◌<◌, false, List, ◌++◌, take, drop, length, get_or, ℤ, unsigned_abs, refl, sym, ap, subst, ◌∙◌, arith}
use Rattle.std.specs.List.{list_any}
use Rattle.vc_types.specs.declared.video.Component.{Component}
use Rattle.vc_types.specs.declared.video.Component.TheVariants.{Y, C1, C2}
use Rattle.vc_types.specs.Lifting.{line_of}
use Rattle.vc_types.specs.Quantisation.{dequantised}
use Rattle.vc_types.specs.Slices.{is_large, quantisers}
use Rattle.vc_types.specs.TransformParameters.{Parameters}
use Rattle.vc_golomb.specs.Numbers.{number_at}
use Rattle.vc_slice.specs.declared.bands.SliceBands.{SliceBands}
use Rattle.vc_slice.specs.Bands.{coefficient_count, quantisers_of}
use Rattle.vc_slice.proofs.ColourParts.{colour_counts}
use Rattle.vc_slice.proofs.NarrowRuns.{none_large}
use Rattle.picture_build.specs.PartsKept.{FillsPart, PutsCoefficients}
use Rattle.picture_build.proofs.GridCells.{written_over}
use Rattle.vc_lowdelay.specs.declared.slice.LowSlice.{LowSlice}
use Rattle.vc_lowdelay.specs.Coded.{slice_of}
use Rattle.vc_lowdelay.specs.Grown.{IsSound}
use Rattle.vc_lowdelay.specs.LowDelay as low
use Rattle.vc_lowdelay.specs.LowDelay.{low_coefficients}
use Rattle.vc_lowdelay.specs.OfBands.{parameters_in, read_in, turned_in}
use Rattle.vc_lowdelay.specs.Placed.{place_of_number}
use Rattle.vc_lowdelay.proofs.LowCoefficients.{block_of, length-low, low_at}

-- other words for the same coefficients
pub puts_same : (bands : SliceBands) (c : Component) (f g : ℕ → ℤ) (old new : List ℤ) → ((i : ℕ) → i < coefficient_count bands.parts.now c → f i ≡ g i)
    → PutsCoefficients bands c f old new → PutsCoefficients bands c g old new
puts_same bands c f g old new same puts = record {
  on = λ i h. puts.on i h ∙ same i h;
  narrow = λ i h. subst (λ (z : ℤ). unsigned_abs z < 2 ^ 29) (same i h) (puts.narrow i h);
  only = puts.only;
}

-- cells that are written through a borrow of their list
pub puts_through : (bands : SliceBands) (c : Component) (f : ℕ → ℤ) (items old new : List ℤ) (len : ℕ) → old ≡ items → len ≡ length items
    → PutsCoefficients bands c f old new → PutsCoefficients bands c f items (take len (new ++ drop (length new) items))
puts_through bands c f items old new len same long puts =
    let whole : len ≡ length new = omega (arith, long, ap length same, puts.only.length) in
    subst (PutsCoefficients bands c f items) (sym (written_over len new (drop (length new) items) whole))
    (subst (λ (zs : List ℤ). PutsCoefficients bands c f zs new) same puts)

-- ---- the colours, whose numbers take turns

module _ (bands : SliceBands) (bits : List Bool) (turns : List ℤ) (read : (i : ℕ) → i < 2 * coefficient_count bands.parts.now C1 → line_of turns i ≡ number_at bits i) where
  pub first_read : (k : ℕ) → k < coefficient_count bands.parts.now C1 → turned_in bands C1 turns k ≡ read_in bands C1 bits k
  first_read k h =
      ap (λ (z : ℤ). dequantised z (get_or (quantisers_of bands C1) k 0))
      (read (2 * k + 0) (omega (arith, h)) ∙ (let same : 2 * k + 0 ≡ 2 * k = omega arith in ap (number_at bits) same))

  pub second_read : (k : ℕ) → k < coefficient_count bands.parts.now C2 → turned_in bands C2 turns k ≡ read_in bands C2 bits k
  second_read k h =
      ap (λ (z : ℤ). dequantised z (get_or (quantisers_of bands C2) k 0))
      (read (2 * k + 1) (omega (arith, h, colour_counts (parameters_in bands) bands.parts.now.slice)))

-- ---- a slice

module _ (bands : SliceBands) (coded : LowSlice) (index : bands.index ≡ coded.index) where
  abbrev p : Parameters
  p = parameters_in bands

  abbrev n : ℕ
  n = bands.parts.now.slice

  abbrev s : low.LowSlice
  s = slice_of coded

  -- ---- one coefficient

  pub read_is : (c : Component) (k : ℕ) → k < coefficient_count bands.parts.now c → read_in bands c (block_of s c) k ≡ line_of (low_coefficients p n s c) k
  read_is c k h =
      ap (λ (q : ℕ). dequantised (number_at (block_of s c) (place_of_number c k)) (get_or (quantisers p c n q) k 0)) index
      ∙ sym (low_at p n s c k h)

  -- ---- those of a component

  module _ (c : Component) (old new : List ℤ) (puts : PutsCoefficients bands c (read_in bands c (block_of s c)) old new) where
    pub fills : FillsPart bands.parts.now c (low_coefficients p n s c) old new
    fills = record { only = puts.only; own = λ i h. puts.on i h ∙ read_is c i h }

    pub is_small : list_any is_large (low_coefficients p n s c) ≡ false
    is_small =
        let zs = low_coefficients p n s c in
        none_large zs zs (coefficient_count bands.parts.now c) (length-low p n s c) (λ i h. refl)
        (λ i h. subst (λ (z : ℤ). unsigned_abs z < 2 ^ 29) (read_is c i h) (puts.narrow i h))

  pub sound : list_any is_large (low_coefficients p n s Y) ≡ false → list_any is_large (low_coefficients p n s C1) ≡ false → list_any is_large (low_coefficients p n s C2) ≡ false → IsSound p n s
  sound y c1 c2 Y = y
  sound y c1 c2 C1 = c1
  sound y c1 c2 C2 = c2
