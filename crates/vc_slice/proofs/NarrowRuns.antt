-- The coefficients of a block from its numbers, subband by subband.
use Rattle.std.proofs.Common.{◌≡◌, ℕ, zero, suc, ◌+◌, ◌-◌, ◌<◌, ◌≤◌, Bool, List, length, get_or, replicate, false, ◌^◌, ℤ, pos, unsigned_abs, arith, refl, sym, ap, subst, ◌∙◌, ◌⊎◌, inl, inr}
use Rattle.std.specs.Prelude.{slice_index_or}
use Rattle.std.specs.List.{zip, list_any}
use Rattle.std.proofs.Math.Seq.{get_or-append_right}
use Rattle.std.proofs.lemmas.Bool.{cases_lt}
use Rattle.std.proofs.lemmas.List.{get_or-map, get_or-replicate, get_or_append_left, length-map, length-replicate}
use Rattle.std.proofs.lemmas.List.Elements.{All-from_get_or}
use Rattle.std.proofs.lemmas.List.Folds.{list_any_none}
use Rattle.std.proofs.lemmas.Bool.Decides.{nat_tests}
use Rattle.std.proofs.lemmas.Slice.Zip.{get_or-zip, length-zip}
use Rattle.vc_types.specs.declared.video.Component.{Component}
use Rattle.vc_types.specs.Bits.{bits_of}
use Rattle.vc_types.specs.Bounded.{bounded_sint, bounded_sints}
use Rattle.vc_types.specs.Lifting.{line_of}
use Rattle.vc_types.specs.Quantisation.{dequantised, subband_count}
use Rattle.vc_types.specs.Slices.{quantisers, block_coefficients, is_large}
use Rattle.vc_types.specs.Subbands.{area, slice_rectangle, subband_at, slice_coefficient_count}
use Rattle.vc_types.specs.TransformParameters.{Parameters}
use Rattle.vc_types.proofs.SliceRectangles.{coefficients_before, coefficients_before-none, coefficients_before-more, coefficients_before-rest}
use Rattle.vc_slice.proofs.BlockCoefficients.{quantisers_from, quantisers_from-all, quantisers_from-more, length-quantisers}

pub length-numbers : (n : ℕ) (bits : List Bool) → length (bounded_sints n bits) ≡ n
unfolding bounded_sints
length-numbers zero bits = refl
length-numbers (suc n) bits = ap suc (length-numbers n (bounded_sint bits).1)

pub length-pairs : (xs : List ℤ) (ys : List ℕ) → length xs ≡ length ys → length (zip xs ys) ≡ length xs
length-pairs xs ys e = omega (arith, length-zip xs ys)

-- a block has as many coefficients as the slice
pub length-block : (p : Parameters) (c : Component) (n index : ℕ) (block : List ℕ) → length (block_coefficients p c n index block) ≡ slice_coefficient_count p c n
unfolding block_coefficients
length-block p c n index block = grind (arith, length-numbers, length-quantisers, length-map, length-pairs)

-- what is done of those before a run, and of the run at its index, is done of those up to its end
pub run_done : (from to : ℕ) (indices : List ℕ) (first old new : List ℤ) (f : ℤ → ℕ → ℤ) (q : ℕ)
    → ((i : ℕ) → from ≤ i → i < to → get_or indices i 0 ≡ q)
    → ((i : ℕ) → i < from → line_of old i ≡ f (line_of first i) (get_or indices i 0))
    → ((i : ℕ) → from ≤ i → i < to → line_of new i ≡ f (line_of first i) q)
    → ((i : ℕ) → (i < from) ⊎ (to ≤ i) → line_of new i ≡ line_of old i)
    → (i : ℕ) → i < to → line_of new i ≡ f (line_of first i) (get_or indices i 0)
run_done from to indices first old new f q alike done on off i below = elim (cases_lt i from) [
  | inl before ↦ off i (inl before) ∙ done i before
  | inr past ↦ on i past below ∙ ap (f (line_of first i)) (sym (alike i past below))
]

module _ (p : Parameters) (c : Component) (slice index : ℕ) where
  -- coefficients up to this subband are at most all of them
  pub before_within : (b : ℕ) → coefficients_before p c slice b ≤ slice_coefficient_count p c slice
  before_within b = let rest = coefficients_before-rest p c slice b in omega (arith, rest)

  abbrev pub own : ℕ → ℕ
  own b = area (slice_rectangle p c (subband_at p.depth_ho p.depth b) slice)

  more : (b : ℕ) → b < subband_count p.depth_ho p.depth → coefficients_before p c slice (b + 1) ≡ coefficients_before p c slice b + own b
  more b h = coefficients_before-more p c slice b h

  -- the indices from a subband on
  indices_from : (b j : ℕ) → b ≤ subband_count p.depth_ho p.depth → get_or (quantisers p c slice index) (coefficients_before p c slice b + j) 0 ≡ get_or (quantisers_from p c slice index b) j 0
  indices_from zero j h =
      (let none : coefficients_before p c slice 0 + j ≡ j = (let e = coefficients_before-none p c slice in omega (arith, e)) in ap (λ (n : ℕ). get_or (quantisers p c slice index) n 0) none)
      ∙ ap (λ (qs : List ℕ). get_or qs j 0) (sym (quantisers_from-all p c slice index))
  indices_from (suc b) j h =
      let next : suc b ≡ b + 1 = omega arith in
      let place : coefficients_before p c slice (suc b) + j ≡ coefficients_before p c slice b + (own b + j) = (let e = more b (omega arith) in let same = ap (coefficients_before p c slice) next in omega (arith, e, same)) in
      let run = replicate (own b) (index - slice_index_or p.matrix b 0) in
      let long : length run ≡ own b = length-replicate (own b) (index - slice_index_or p.matrix b 0) in
      let back : own b + j - length run ≡ j = omega (arith, long) in
      ap (λ (n : ℕ). get_or (quantisers p c slice index) n 0) place
      ∙ indices_from b (own b + j) (omega arith)
      ∙ ap (λ (qs : List ℕ). get_or qs (own b + j) 0) (quantisers_from-more p c slice index b (omega arith))
      ∙ get_or-append_right run (quantisers_from p c slice index (b + 1)) (own b + j) 0 (omega (arith, long))
      ∙ ap (λ (n : ℕ). get_or (quantisers_from p c slice index (b + 1)) n 0) back
      ∙ ap (λ (n : ℕ). get_or (quantisers_from p c slice index n) j 0) (sym next)

  -- the index of each coefficient of a subband
  pub index_in : (b i from to : ℕ) → b < subband_count p.depth_ho p.depth → from ≡ coefficients_before p c slice b → to ≡ from + own b → from ≤ i → i < to
      → get_or (quantisers p c slice index) i 0 ≡ index - slice_index_or p.matrix b 0
  index_in b i from to h at end low high =
      let run = replicate (own b) (index - slice_index_or p.matrix b 0) in
      let long : length run ≡ own b = length-replicate (own b) (index - slice_index_or p.matrix b 0) in
      let place : i ≡ coefficients_before p c slice b + (i - from) = omega (arith, at) in
      ap (λ (n : ℕ). get_or (quantisers p c slice index) n 0) place
      ∙ indices_from b (i - from) (omega arith)
      ∙ ap (λ (qs : List ℕ). get_or qs (i - from) 0) (quantisers_from-more p c slice index b h)
      ∙ get_or_append_left run (quantisers_from p c slice index (b + 1)) 0 (i - from) (omega (arith, long))
      ∙ get_or-replicate (own b) (i - from) (index - slice_index_or p.matrix b 0) 0 (omega arith)

  -- each coefficient from its number
  pub coefficient_of : (block : List ℕ) (i : ℕ) → i < slice_coefficient_count p c slice
      → line_of (block_coefficients p c slice index block) i ≡ dequantised (line_of (bounded_sints (slice_coefficient_count p c slice) (bits_of block)) i) (get_or (quantisers p c slice index) i 0)
  unfolding block_coefficients
  coefficient_of block i h =
      let numbers = bounded_sints (slice_coefficient_count p c slice) (bits_of block) in
      let indices = quantisers p c slice index in
      let many = length-quantisers p c slice index in
      let count = length-numbers (slice_coefficient_count p c slice) (bits_of block) in
      let pairs = length-pairs numbers indices (count ∙ sym many) in
      get_or-map (λ (z : ℤ × ℕ). dequantised z.0 z.1) (zip numbers indices) i (pos 0, 0) (pos 0) (omega (arith, pairs, count))
      ∙ ap (λ (z : ℤ × ℕ). dequantised z.0 z.1) (get_or-zip numbers indices i (pos 0, 0) (omega (arith, count)) (omega (arith, many)))

  -- ---- a subband more

  module _ (b from n : ℕ) (h : b < subband_count p.depth_ho p.depth) (at : from ≡ coefficients_before p c slice b) (count : n ≡ own b) where
    pub run_more : from + n ≡ coefficients_before p c slice (b + 1)
    run_more = omega (arith, at, count, more b h)

    pub run_within : from + n ≤ slice_coefficient_count p c slice
    run_within = omega (arith, run_more, before_within (b + 1))

    -- a run of subbands that have the index of this one ends behind it
    pub alike_more : (start : ℕ) → ((i : ℕ) → start ≤ i → i < from → get_or (quantisers p c slice index) i 0 ≡ index - slice_index_or p.matrix b 0)
        → (i : ℕ) → start ≤ i → i < from + n → get_or (quantisers p c slice index) i 0 ≡ index - slice_index_or p.matrix b 0
    alike_more start alike i low below = elim (cases_lt i from) [
      | inl before ↦ alike i low before
      | inr past ↦ index_in b i from (from + n) h at (ap (λ (k : ℕ). from + k) count) past below
    ]

    pub done_more : (first old new : List ℤ) (f : ℤ → ℕ → ℤ) (q : ℕ) → q ≡ index - slice_index_or p.matrix b 0
        → ((i : ℕ) → i < from → line_of old i ≡ f (line_of first i) (get_or (quantisers p c slice index) i 0))
        → ((i : ℕ) → from ≤ i → line_of old i ≡ line_of first i)
        → ((i : ℕ) → from ≤ i → i < from + n → line_of new i ≡ f (line_of old i) q)
        → ((i : ℕ) → (i < from) ⊎ (from + n ≤ i) → line_of new i ≡ line_of old i)
        → (i : ℕ) → i < from + n → line_of new i ≡ f (line_of first i) (get_or (quantisers p c slice index) i 0)
    done_more first old new f q is done left on off =
        run_done from (from + n) (quantisers p c slice index) first old new f q
        (λ i low high. index_in b i from (from + n) h at (ap (λ (k : ℕ). from + k) count) low high ∙ sym is)
        done (λ i low high. on i low high ∙ ap (λ (z : ℤ). f z q) (left i low)) off

pub narrow_more : (from to : ℕ) (old new : List ℤ) → ((i : ℕ) → i < from → unsigned_abs (line_of old i) < 2 ^ 29)
    → ((i : ℕ) → from ≤ i → i < to → unsigned_abs (line_of new i) < 2 ^ 29) → ((i : ℕ) → (i < from) ⊎ (to ≤ i) → line_of new i ≡ line_of old i)
    → (i : ℕ) → i < to → unsigned_abs (line_of new i) < 2 ^ 29
narrow_more from to old new before on off i h = grind arith

-- ---- what is narrow isn't large

pub none_large : (zs numbers : List ℤ) (count : ℕ) → length zs ≡ count → ((i : ℕ) → i < count → line_of numbers i ≡ line_of zs i)
    → ((i : ℕ) → i < count → unsigned_abs (line_of numbers i) < 2 ^ 29) → list_any is_large zs ≡ false
none_large zs numbers count long same narrow =
    list_any_none is_large zs (All-from_get_or (λ (z : ℤ). is_large z ≡ false) zs (pos 0) (λ i h. (
    let within : i < count = omega (arith, long) in
    small_one (line_of zs i) (subst (λ (z : ℤ). unsigned_abs z < 2 ^ 29) (same i within) (narrow i within)))))
  where
    small_one : (z : ℤ) → unsigned_abs z < 2 ^ 29 → is_large z ≡ false
    small_one z h = grind (arith, nat_tests)
