-- The coefficients of a block, read subband by subband.
use Rattle.std.proofs.Common.{◌≡◌, ℕ, suc, ◌+◌, ◌-◌, ◌<◌, ℤ, Bool, true, false, List, [], ◌∷◌, ◌++◌, length, drop, replicate, refl, sym, ap, ◌∙◌, arith, append_assoc, append-nil, add-one, zero-add, length-append}
use Rattle.std.specs.Prelude.{slice_index_or, map}
use Rattle.std.specs.List.{flat_map, list_any, enumerate_from, zip, sum_by}
use Rattle.std.proofs.Math.Bool.{or-true}
use Rattle.std.proofs.Math.Seq.{drop-cons}
use Rattle.std.proofs.lemmas.List.{drop_all, length-replicate}
use Rattle.std.proofs.lemmas.List.Folds.{list_any-append}
use Rattle.std.proofs.lemmas.List.FromFn.{length-enumerate_from, get_or-enumerate_from}
use Rattle.std.proofs.lemmas.List.Sums.{sum_by-cons}
use Rattle.vc_types.specs.declared.video.Component.{Component}
use Rattle.vc_types.specs.declared.rect.Rect.{Rect}
use Rattle.vc_types.specs.Bits.{bits_of}
use Rattle.vc_types.specs.Bounded.{bounded_sint, bounded_sints}
use Rattle.vc_types.specs.Quantisation.{subband_count, dequantised}
use Rattle.vc_types.specs.Slices.{is_large, quantisers, block_coefficients}
use Rattle.vc_types.specs.Subbands.{Subband, subband, LL, area, subbands, subband_at, slice_rectangle, slice_coefficient_count}
use Rattle.vc_types.specs.TransformParameters.{Parameters}
use Rattle.vc_types.proofs.SubbandOrder.{length-subbands}
use Rattle.vc_slice.specs.Inside.{coefficients_by}

-- ---- one coefficient more

next_of : (index : ℕ) (indices : List ℕ) (bits : List Bool) → coefficients_by (index ∷ indices) bits ≡ dequantised (bounded_sint bits).0 index ∷ coefficients_by indices (bounded_sint bits).1
unfolding coefficients_by
next_of index indices bits = refl

more_of : (out : List ℤ) (n left index : ℕ) (indices : List ℕ) (bits : List Bool) → n ≡ suc left
    → out ++ coefficients_by (replicate n index ++ indices) bits ≡ out ++ (dequantised (bounded_sint bits).0 index ∷ coefficients_by (replicate left index ++ indices) (bounded_sint bits).1)
more_of out n left index indices bits e = ap (λ (k : ℕ). out ++ coefficients_by (replicate k index ++ indices) bits) e ∙ ap (λ (zs : List ℤ). out ++ zs) (next_of index (replicate left index ++ indices) bits)

pub read_more : (out whole : List ℤ) (n left index : ℕ) (indices : List ℕ) (bits after : List Bool) (z : ℤ) → n ≡ suc left
    → z ≡ dequantised (bounded_sint bits).0 index → after ≡ (bounded_sint bits).1
    → out ++ coefficients_by (replicate n index ++ indices) bits ≡ whole
    → (out ++ z ∷ []) ++ coefficients_by (replicate left index ++ indices) after ≡ whole
read_more out whole n left index indices bits after z e is behind read = grind (arith, append_assoc, more_of)

any_at : (out rest : List ℤ) (z : ℤ) → is_large z ≡ true → list_any is_large (out ++ (z ∷ rest)) ≡ true
any_at out rest z h = list_any-append is_large out (z ∷ rest) ∙ (rw h (or-true (list_any is_large out)))

pub large_met : (out whole : List ℤ) (n left index : ℕ) (indices : List ℕ) (bits : List Bool) → n ≡ suc left
    → is_large (dequantised (bounded_sint bits).0 index) ≡ true
    → out ++ coefficients_by (replicate n index ++ indices) bits ≡ whole
    → list_any is_large whole ≡ true
large_met out whole n left index indices bits e large read =
    ap (list_any is_large) (sym read ∙ more_of out n left index indices bits e)
    ∙ any_at out (coefficients_by (replicate left index ++ indices) (bounded_sint bits).1) (dequantised (bounded_sint bits).0 index) large

pub sound_more : (out : List ℤ) (z x : ℤ) → list_any is_large out ≡ false → z ≡ x → is_large x ≡ false → list_any is_large (out ++ z ∷ []) ≡ false
sound_more out z x before is small =
    list_any-append is_large out (z ∷ []) ∙ rw before (rw is (rw small refl))

-- ---- the quantisation indices, subband by subband

by_indices : (indices : List ℕ) (bits : List Bool) → map (λ (z : ℤ × ℕ). dequantised z.0 z.1) (zip (bounded_sints (length indices) bits) indices) ≡ coefficients_by indices bits
unfolding bounded_sints coefficients_by
by_indices [] bits = refl
by_indices (index ∷ indices) bits = ap (λ (zs : List ℤ). dequantised (bounded_sint bits).0 index ∷ zs) (by_indices indices (bounded_sint bits).1)

length_of : (rectangle : Subband → Rect) (index : ℕ → ℕ) (n : ℕ) (bands : List Subband)
    → length (flat_map (λ (b : ℕ × Subband). replicate (area (rectangle b.1)) (index b.0)) (enumerate_from n bands)) ≡ sum_by area (map rectangle bands)
length_of rectangle index n [] = refl
length_of rectangle index n (b ∷ bands) =
    length-append (replicate (area (rectangle b)) (index n)) _
    ∙ ap (λ (k : ℕ). k + length (flat_map (λ (b : ℕ × Subband). replicate (area (rectangle b.1)) (index b.0)) (enumerate_from (n + 1) bands))) (length-replicate (area (rectangle b)) (index n))
    ∙ ap (λ (k : ℕ). area (rectangle b) + k) (length_of rectangle index (n + 1) bands)
    ∙ sym (sum_by-cons area (rectangle b) (map rectangle bands))

module _ (p : Parameters) (c : Component) (slice index : ℕ) where
  pub length-quantisers : length (quantisers p c slice index) ≡ slice_coefficient_count p c slice
  unfolding quantisers slice_coefficient_count
  length-quantisers = length_of (λ b. slice_rectangle p c b slice) (λ b. index - slice_index_or p.matrix b 0) 0 (subbands p.depth_ho p.depth)

  pub block_coefficients-by : (block : List ℕ) → block_coefficients p c slice index block ≡ coefficients_by (quantisers p c slice index) (bits_of block)
  unfolding block_coefficients
  block_coefficients-by block = grind (arith, length-quantisers, by_indices)

  -- the indices of the subbands from number b on
  unfoldable pub quantisers_from : ℕ → List ℕ
  quantisers_from b = flat_map (λ (b : ℕ × Subband). replicate (area (slice_rectangle p c b.1 slice)) (index - slice_index_or p.matrix b.0 0)) (drop b (enumerate_from 0 (subbands p.depth_ho p.depth)))

  pub quantisers_from-all : quantisers_from 0 ≡ quantisers p c slice index
  unfolding quantisers_from quantisers
  quantisers_from-all = refl

  length_all : length (enumerate_from 0 (subbands p.depth_ho p.depth)) ≡ subband_count p.depth_ho p.depth
  length_all = length-enumerate_from 0 (subbands p.depth_ho p.depth) ∙ length-subbands p.depth_ho p.depth

  pub quantisers_from-none : (b : ℕ) → b ≡ subband_count p.depth_ho p.depth → quantisers_from b ≡ []
  unfolding quantisers_from
  quantisers_from-none b e = ap (λ (bs : List (ℕ × Subband)). flat_map (λ (b : ℕ × Subband). replicate (area (slice_rectangle p c b.1 slice)) (index - slice_index_or p.matrix b.0 0)) bs) (drop_all b (enumerate_from 0 (subbands p.depth_ho p.depth)) (let count = length_all in omega (arith, count)))

  pub quantisers_from-more : (b : ℕ) → b < subband_count p.depth_ho p.depth → quantisers_from b ≡ replicate (area (slice_rectangle p c (subband_at p.depth_ho p.depth b) slice)) (index - slice_index_or p.matrix b 0) ++ quantisers_from (b + 1)
  unfolding quantisers_from
  quantisers_from-more b h =
      let count = length_all in
      let few = length-subbands p.depth_ho p.depth in
      let first : drop b (enumerate_from 0 (subbands p.depth_ho p.depth)) ≡ (b, subband_at p.depth_ho p.depth b) ∷ drop (b + 1) (enumerate_from 0 (subbands p.depth_ho p.depth)) = rw add-one (drop-cons (enumerate_from 0 (subbands p.depth_ho p.depth)) b (0, subband 0 LL) (omega (arith, count)) ∙ ap (λ (x : ℕ × Subband). x ∷ drop (suc b) (enumerate_from 0 (subbands p.depth_ho p.depth))) (get_or-enumerate_from 0 (subbands p.depth_ho p.depth) b (0, subband 0 LL) (omega (arith, few)) ∙ ap (λ (k : ℕ). (k, subband_at p.depth_ho p.depth b)) (zero-add b))) in
      ap (λ (bs : List (ℕ × Subband)). flat_map (λ (b : ℕ × Subband). replicate (area (slice_rectangle p c b.1 slice)) (index - slice_index_or p.matrix b.0 0)) bs) first

  -- a subband more
  pub subband_read : (out after whole : List ℤ) (b n q : ℕ) (bits behind : List Bool) → b < subband_count p.depth_ho p.depth
      → n ≡ area (slice_rectangle p c (subband_at p.depth_ho p.depth b) slice) → q ≡ index - slice_index_or p.matrix b 0
      → out ++ coefficients_by (quantisers_from b) bits ≡ whole
      → ((indices : List ℕ) → after ++ coefficients_by indices behind ≡ out ++ coefficients_by (replicate n q ++ indices) bits)
      → after ++ coefficients_by (quantisers_from (b + 1)) behind ≡ whole
  subband_read out after whole b n q bits behind h count quantiser before read =
      grind (arith, quantisers_from-more)

  -- a subband with a large coefficient
  pub subband_large : (out whole : List ℤ) (b n q : ℕ) (bits : List Bool) → b < subband_count p.depth_ho p.depth
      → n ≡ area (slice_rectangle p c (subband_at p.depth_ho p.depth b) slice) → q ≡ index - slice_index_or p.matrix b 0
      → out ++ coefficients_by (quantisers_from b) bits ≡ whole
      → ((indices : List ℕ) → list_any is_large (out ++ coefficients_by (replicate n q ++ indices) bits) ≡ true)
      → list_any is_large whole ≡ true
  subband_large out whole b n q bits h count quantiser before large = grind (arith, quantisers_from-more)

  -- no subband was read
  pub none_read : (out : List ℤ) (bits : List Bool) (block : List ℕ) → bits ≡ bits_of block → out ++ coefficients_by (quantisers_from 0) bits ≡ out ++ block_coefficients p c slice index block
  none_read out bits block whole = grind (arith, quantisers_from-all, block_coefficients-by)

  -- every subband was read
  pub all_read : (out whole : List ℤ) (b : ℕ) (bits : List Bool) → b ≡ subband_count p.depth_ho p.depth → out ++ coefficients_by (quantisers_from b) bits ≡ whole → out ≡ whole
  unfolding coefficients_by
  all_read out whole b bits e read = sym (append-nil out) ∙ sym (ap (λ (qs : List ℕ). out ++ coefficients_by qs bits) (quantisers_from-none b e)) ∙ read
