-- The coefficients of a low-delay slice, one by one.
use Rattle.std.proofs.Common.{◌≡◌, ℕ, ◌+◌, ◌-◌, ◌*◌, ◌<◌, Bool, true, List, length, get_or, ℤ, pos, sym, ap, ◌∙◌, arith}
use Rattle.std.specs.Prelude.{slice_index_or}
use Rattle.std.specs.List.{list_any, zip}
use Rattle.std.proofs.lemmas.List.{get_or-map, length-map}
use Rattle.std.proofs.lemmas.List.Folds.{list_any_at}
use Rattle.std.proofs.lemmas.List.FromFn.{length-map-range_with_len, get_or-map-range_with_len}
use Rattle.std.proofs.lemmas.Slice.Zip.{get_or-zip}
use Rattle.vc_types.specs.declared.video.Component.{Component}
use Rattle.vc_types.specs.declared.video.Component.TheVariants.{Y, C1, C2}
use Rattle.vc_types.specs.Bounded.{bounded_sints}
use Rattle.vc_types.specs.Lifting.{line_of}
use Rattle.vc_types.specs.Quantisation.{dequantised}
use Rattle.vc_types.specs.Slices.{is_large, quantisers}
use Rattle.vc_types.specs.Subbands.{Subband, area, slice_coefficient_count, slice_rectangle}
use Rattle.vc_types.specs.TransformParameters.{Parameters}
use Rattle.vc_types.proofs.SliceRectangles.{coefficients_before-none}
use Rattle.vc_golomb.specs.Numbers.{number_at}
use Rattle.vc_golomb.proofs.NumberLists.{number_listed}
use Rattle.vc_slice.proofs.BlockCoefficients.{length-quantisers}
use Rattle.vc_slice.proofs.NarrowRuns.{length-numbers, length-pairs, index_in}
use Rattle.vc_lowdelay.specs.Bands.{lowest_rectangle}
use Rattle.vc_lowdelay.specs.LowDelay.{LowSlice, every_other, low_numbers, low_coefficients}
use Rattle.vc_lowdelay.specs.Placed.{place_of_number, read_at}
use Rattle.vc_lowdelay.proofs.LowestPlaces.{first_subband, lowest_within}

-- the block that has a component's numbers
abbrev pub block_of : LowSlice → Component → List Bool
block_of s Y = s.luma
block_of s C1 = s.colour
block_of s C2 = s.colour

pub length-low_numbers : (s : LowSlice) (c : Component) (n : ℕ) → length (low_numbers s c n) ≡ n
length-low_numbers s Y n = length-numbers n s.luma
length-low_numbers s C1 n = length-map-range_with_len (λ i. line_of (bounded_sints (2 * n) s.colour) (2 * i + 0)) 0 n
length-low_numbers s C2 n = length-map-range_with_len (λ i. line_of (bounded_sints (2 * n) s.colour) (2 * i + 1)) 0 n

turn_at : (first n i : ℕ) (numbers : List ℤ) → i < n → line_of (every_other first n numbers) i ≡ line_of numbers (2 * i + first)
turn_at first n i numbers h = get_or-map-range_with_len (λ i. line_of numbers (2 * i + first)) 0 n i i (pos 0) h (omega arith)

pub number_of_slice : (s : LowSlice) (c : Component) (n i : ℕ) → i < n → line_of (low_numbers s c n) i ≡ number_at (block_of s c) (place_of_number c i)
number_of_slice s Y n i h = number_listed n i s.luma h
number_of_slice s C1 n i h =
    let bits = s.colour in
    let place : 2 * i + 0 ≡ 2 * i = omega arith in
    turn_at 0 n i (bounded_sints (2 * n) bits) h ∙ number_listed (2 * n) (2 * i + 0) bits (omega arith) ∙ ap (number_at bits) place
number_of_slice s C2 n i h =
    let bits = s.colour in
    turn_at 1 n i (bounded_sints (2 * n) bits) h ∙ number_listed (2 * n) (2 * i + 1) bits (omega arith)

module _ (p : Parameters) (n : ℕ) (s : LowSlice) (c : Component) where
  abbrev count : ℕ
  count = slice_coefficient_count p c n

  pairs : length (zip (low_numbers s c count) (quantisers p c n s.index)) ≡ count
  pairs =
      let long = length-low_numbers s c count in
      length-pairs (low_numbers s c count) (quantisers p c n s.index) (long ∙ sym (length-quantisers p c n s.index)) ∙ long

  pub length-low : length (low_coefficients p n s c) ≡ slice_coefficient_count p c n
  unfolding low_coefficients
  length-low = length-map (zip (low_numbers s c count) (quantisers p c n s.index)) (λ (z : ℤ × ℕ). dequantised z.0 z.1) ∙ pairs

  -- each by its number
  pub low_at : (i : ℕ) → i < slice_coefficient_count p c n
      → line_of (low_coefficients p n s c) i ≡ dequantised (number_at (block_of s c) (place_of_number c i)) (get_or (quantisers p c n s.index) i 0)
  unfolding low_coefficients
  low_at i h =
      let numbers = low_numbers s c count in
      let indices = quantisers p c n s.index in
      let long = length-low_numbers s c count in
      let many = length-quantisers p c n s.index in
      get_or-map (λ (z : ℤ × ℕ). dequantised z.0 z.1) (zip numbers indices) i (pos 0, 0) (pos 0) (omega (arith, pairs, h))
      ∙ ap (λ (z : ℤ × ℕ). dequantised z.0 z.1) (get_or-zip numbers indices i (pos 0, 0) (omega (arith, long, h)) (omega (arith, many, h)))
      ∙ ap (λ (z : ℤ). dequantised z (get_or indices i 0)) (number_of_slice s c count i h)

  -- those of LL have one quantiser
  pub lowest_index : (i : ℕ) → i < area (lowest_rectangle p c n) → get_or (quantisers p c n s.index) i 0 ≡ s.index - slice_index_or p.matrix 0 0
  lowest_index i h =
      let own = ap (λ (b : Subband). area (slice_rectangle p c b n)) (first_subband p.depth_ho p.depth) in
      index_in p c n s.index 0 i 0 (area (lowest_rectangle p c n)) (omega arith) (sym (coefficients_before-none p c n)) (omega (arith, own)) (omega arith) h

  pub lowest_at : (i : ℕ) → i < area (lowest_rectangle p c n)
      → read_at (block_of s c) (s.index - slice_index_or p.matrix 0 0) (place_of_number c i) ≡ line_of (low_coefficients p n s c) i
  lowest_at i h =
      ap (dequantised (number_at (block_of s c) (place_of_number c i))) (sym (lowest_index i h))
      ∙ sym (low_at i (omega (arith, h, lowest_within p c n)))

  -- a large one among them
  pub large_among : (i : ℕ) → i < area (lowest_rectangle p c n)
      → is_large (read_at (block_of s c) (s.index - slice_index_or p.matrix 0 0) (place_of_number c i)) ≡ true
      → list_any is_large (low_coefficients p n s c) ≡ true
  large_among i h large =
      list_any_at is_large (low_coefficients p n s c) i (pos 0) (omega (arith, length-low, h, lowest_within p c n))
      (ap is_large (sym (lowest_at i h)) ∙ large)
