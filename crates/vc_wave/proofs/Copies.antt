-- Lines copied to a block and back, and how large a block's samples are.
use Rattle.std.proofs.Common.{◌≡◌, ◌≢◌, ℕ, suc, ◌+◌, ◌-◌, ◌*◌, ◌/◌, ◌%◌, ◌^◌, ◌<◌, ◌≤◌, List, length, ℤ, pos}
use Rattle.std.proofs.Common.{arith, ap, sym, ◌∙◌, ◌⊎◌, inl, inr, unsigned_abs, All, Bool, true, false, subst}
use Rattle.std.specs.Prelude.{if◌then◌else◌}
use Rattle.std.proofs.lemmas.Bool.{cases_lt, cases_eq}
use Rattle.std.proofs.lemmas.List.Elements.{All-from_get_or}
use Rattle.std.proofs.lemmas.Nat.{mul-add-lt, div_below}
use Rattle.std.proofs.Math.Nat.{mul-le-mul_left, mul-le-mul_right}
use Rattle.vc_types.specs.Lifting.{line_of}
use Rattle.vc_types.specs.Transforms.{source_of, doubled}
use Rattle.vc_types.specs.Wavelets.{synthesised, analysed}
use Rattle.vc_lift.proofs.LineLaws.{synthesis_grows_little, synthesis_is_local, analysis_is_local}
use Rattle.vc_wave.specs.Remade.{half_place, on_samples, halves_together, merged}
use Rattle.vc_wave.proofs.PlaneLines.{rearranged_in, on_samples_in}
use Rattle.vc_wave.proofs.PlaneGrowth.{doubled_below}
use Rattle.vc_wave.proofs.Weaving.{half_place_below, source_of-half_place}
use Rattle.vc_lift.specs.Columns.{column_of}
use Rattle.vc_wave.specs.Remade.{sample_place}
use Rattle.vc_wave.specs.declared.lines.Lines.{Lines}
use Rattle.vc_wave.specs.Lines.{IsInside}

-- ---- places

pub place_below : (apart : Bool) (half k : ℕ) → k < 2 * half → sample_place apart half k < 2 * half
place_below true half k h = half_place_below half k h
place_below false half k h = h

place_back : (half j k : ℕ) → j < 2 * half → k < 2 * half → half_place half j ≡ half_place half k → j ≡ k
place_back half j k h lt e = sym (source_of-half_place half j h) ∙ ap (source_of half) e
    ∙ source_of-half_place half k lt

pub places_differ : (apart : Bool) (half j k : ℕ) → j < 2 * half → k < 2 * half → j ≢ k
    → sample_place apart half j ≢ sample_place apart half k
places_differ true half j k h lt ne e = ne (place_back half j k h lt e)
places_differ false half j k h lt ne e = ne e

-- a row of the lines is inside the grid
pub placed_inside : (lines : Lines) (cells : ℕ) → IsInside lines cells → (apart : Bool) (k : ℕ)
    → k < 2 * lines.half
    → lines.start + sample_place apart lines.half k * lines.step + lines.width ≤ cells
placed_inside lines cells inside apart k h =
    let below = place_below apart lines.half k h in
    let last : sample_place apart lines.half k ≤ 2 * lines.half - 1 = omega arith in
    omega (arith, mul-le-mul_right lines.step last, inside.inside)

pub block_inside : (half width k n : ℕ) → k < 2 * half → n ≡ 2 * half * width → k * width + width ≤ n
block_inside half width k n h e = let more : k + 1 ≤ 2 * half = omega arith in
    omega (arith, mul-le-mul_right width more)

pub half_small : (half width n : ℕ) → 0 < width → n ≡ 2 * half * width → n < 2 ^ 60 → half < 2 ^ 59
half_small half width n some e h = omega (arith, mul-le-mul_left (2 * half) some)

-- ---- copies

pub not_between : (at width x i : ℕ) → x < width → (i < at) ⊎ (at + width ≤ i) → i ≢ at + x
not_between at width x i h (inl before) e = omega arith
not_between at width x i h (inr after) e = omega arith

pub gathered_more : (width k : ℕ) (old new : List ℤ) (value : ℕ → ℕ → ℤ)
    → ((x : ℕ) → x < width → line_of new (k * width + x) ≡ value x k)
    → ((i : ℕ) → (i < k * width) ⊎ (k * width + width ≤ i) → line_of new i ≡ line_of old i)
    → ((x j : ℕ) → x < width → j < k → column_of width old x j ≡ value x j) → (x j : ℕ) → x < width
    → j < k + 1 → column_of width new x j ≡ value x j
gathered_more width k old new value on off before x j h lt = elim (cases_eq j k) [
  | inl e ↦ rw e (on x h)
  | inr ne ↦ (let earlier : j < k = omega arith in
      let place : j * width + x < k * width = omega (arith, mul-add-lt j width x k earlier h) in
      off (j * width + x) (inl place) ∙ before x j h earlier)
]

rows_apart : (start step width p q x : ℕ) → x < width → width ≤ step → (p < q) ⊎ (q < p)
    → (start + p * step + x < start + q * step) ⊎ (start + q * step + width ≤ start + p * step + x)
rows_apart start step width p q x h wide (inl lt) = let below : suc p * step ≤ q * step =
    mul-le-mul_right step lt in inl (omega (arith, below))
rows_apart start step width p q x h wide (inr lt) = let above : suc q * step ≤ p * step =
    mul-le-mul_right step lt in inr (omega (arith, above))

pub either_way : (p q : ℕ) → p ≢ q → (p < q) ⊎ (q < p)
either_way p q ne = elim (cases_lt p q) [ inl lt ↦ inl lt | inr ge ↦ inr (omega arith) ]

module _ (start step width half : ℕ) (apart : Bool) (wide : width ≤ step) (k : ℕ) (below : k < 2 * half)
    (old new block : List ℤ)
    (on : (x : ℕ) → x < width
    → line_of new (start + sample_place apart half k * step + x) ≡ line_of block (k * width + x))
    (off : (i : ℕ) → (i < start + sample_place apart half k * step)
    ⊎ (start + sample_place apart half k * step + width ≤ i) → line_of new i ≡ line_of old i) where
  pub scattered_on : ((x j : ℕ) → x < width → j < k
      → line_of old (start + sample_place apart half j * step + x) ≡ column_of width block x j) → (x j : ℕ)
      → x < width → j < k + 1
      → line_of new (start + sample_place apart half j * step + x) ≡ column_of width block x j
  scattered_on before x j h lt = elim (cases_eq j k) [
    | inl e ↦ rw e (on x h)
    | inr ne ↦ (let earlier : j < k = omega arith in
        off (start + sample_place apart half j * step + x)
        (rows_apart start step width (sample_place apart half j) (sample_place apart half k) x h wide
        (either_way _ _ (places_differ apart half j k (omega arith) below ne))) ∙ before x j h earlier)
  ]

  pub scattered_off : (first : List ℤ)
      → ((i : ℕ) → ((x j : ℕ) → x < width → j < 2 * half → i ≢ start + j * step + x)
      → line_of old i ≡ line_of first i) → (i : ℕ)
      → ((x j : ℕ) → x < width → j < 2 * half → i ≢ start + j * step + x) → line_of new i ≡ line_of first i
  scattered_off first before i none =
      off i (outside (cases_lt i (start + sample_place apart half k * step))
      (cases_lt i (start + sample_place apart half k * step + width))) ∙ before i none
    where
      outside : (i < start + sample_place apart half k * step)
          ⊎ (start + sample_place apart half k * step ≤ i)
          → (i < start + sample_place apart half k * step + width)
          ⊎ (start + sample_place apart half k * step + width ≤ i)
          → (i < start + sample_place apart half k * step)
          ⊎ (start + sample_place apart half k * step + width ≤ i)
      outside (inl before) second = inl before
      outside (inr from) (inr past) = inr past
      outside (inr from) (inl within) =
          absurd (none (i - (start + sample_place apart half k * step)) (sample_place apart half k)
          (omega arith) (place_below apart half k below) (omega arith))

-- ---- blocks

pub all_of_block : (m half width : ℕ) (block : List ℤ) → length block ≡ 2 * half * width
    → ((x k : ℕ) → x < width → k < 2 * half → unsigned_abs (column_of width block x k) < m)
    → All (λ z. unsigned_abs z < m) block
all_of_block m half width block whole small =
    All-from_get_or (λ z. unsigned_abs z < m) block (pos 0) (λ i h. at i (omega arith) (cases_lt 0 width))
  where
    at : (i : ℕ) → i < 2 * half * width → (0 < width) ⊎ (width ≤ 0) → unsigned_abs (line_of block i) < m
    at i h (inl some) =
        let place : i / width * width + i % width ≡ i = omega arith in
        let column : i % width < width = omega arith in
        subst (λ j. unsigned_abs (line_of block j) < m) place
        (small (i % width) (i / width) column (div_below i width (2 * half) some h))
    at i h (inr none) = (let zero : width ≡ 0 = omega arith in
        absurd (omega (arith, subst (λ n. i < 2 * half * n) zero h)))

module _ (wavelet half width : ℕ) (line : ℕ → ℤ) (gathered made : List ℤ) (x : ℕ)
    (from : (k : ℕ) → k < 2 * half → column_of width gathered x k ≡ line (half_place half k))
    (synth : column_of width made x ≡ synthesised wavelet (2 * half) (column_of width gathered x)) where
  pub merged_column : (k : ℕ) → k < 2 * half → column_of width made x k ≡ merged wavelet half line k
  merged_column k h = ap (λ f. f k) synth
      ∙ synthesis_is_local wavelet (2 * half) (column_of width gathered x) (halves_together half line)
      (omega arith) (λ j lt. from j lt ∙ sym (rearranged_in (2 * half) (half_place half) line j lt)) k h

  pub made_within : (m : ℕ) → 2 ^ 16 ≤ m
      → ((k : ℕ) → k < 2 * half → unsigned_abs (line (half_place half k)) < m) → (k : ℕ)
      → k < 2 * half → unsigned_abs (column_of width made x k) < 16 * m
  made_within m large small k h =
      rw (ap (λ f. f k) synth)
      (synthesis_grows_little wavelet (2 * half) m (column_of width gathered x) (omega arith) large
      (λ j lt. rw (from j lt) (small j lt)) k h)

  pub made_below : (m : ℕ) → 2 ^ 16 ≤ m → ((k : ℕ) → k < 2 * half → unsigned_abs (line k) < m) → (k : ℕ)
      → k < 2 * half → unsigned_abs (column_of width made x k) < 16 * m
  made_below m large small =
      made_within m large (λ j lt. small (half_place half j) (half_place_below half j lt))

-- samples that were gathered in their order, and then doubled
module _ (half width : ℕ) (shifted : Bool) (line : ℕ → ℤ) (gathered twice : List ℤ) (x : ℕ)
    (column : x < width) (whole : length gathered ≡ 2 * half * width)
    (from : (k : ℕ) → k < 2 * half → column_of width gathered x k ≡ line k)
    (double : (i : ℕ) → i < length gathered
    → line_of twice i ≡ (if shifted then doubled (line_of gathered i) else line_of gathered i)) where
  pub doubled_column : (k : ℕ) → k < 2 * half
      → column_of width twice x k ≡ on_samples doubled shifted (2 * half) line k
  doubled_column k h =
      let inside = block_inside half width k (length gathered) h whole in
      double (k * width + x) (omega (arith, inside)) ∙ ap (λ z. if shifted then doubled z else z) (from k h)
      ∙ sym (on_samples_in doubled shifted (2 * half) line k h)

  pub doubled_small : (m : ℕ) → ((k : ℕ) → k < 2 * half → unsigned_abs (line k) < m) → (k : ℕ) → k < 2 * half
      → unsigned_abs (column_of width twice x k) < 2 * m
  doubled_small m small k h = grind (arith, doubled_column, on_samples_in, doubled_below)

  -- and then taken apart
  pub parted_column : (wavelet : ℕ) (taken : List ℤ)
      → column_of width taken x ≡ analysed wavelet (2 * half) (column_of width twice x) → (k : ℕ)
      → k < 2 * half → column_of width taken x k
      ≡ analysed wavelet (2 * half) (on_samples doubled shifted (2 * half) line) k
  parted_column wavelet taken analyse k h = ap (λ f. f k) analyse
      ∙ analysis_is_local wavelet (2 * half) (column_of width twice x)
      (on_samples doubled shifted (2 * half) line) (omega arith) doubled_column k h
