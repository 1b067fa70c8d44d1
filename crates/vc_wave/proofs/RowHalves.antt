-- Rows in 32 bits: put together from two halves, and taken apart into two halves, in place.
use Rattle.std.proofs.Common.{◌≡◌, ◌≢◌, ℕ, zero, suc, ◌+◌, ◌*◌, ◌%◌, ◌^◌, ◌<◌, ◌≤◌, ◌⊎◌, inl, inr, List}
use Rattle.std.proofs.Common.{length, set}
use Rattle.std.proofs.Common.{slice_index_or, ℤ, pos, unsigned_abs, arith, ap, sym, subst, ◌∙◌, Bool, true}
use Rattle.std.proofs.Common.{Some}
use Rattle.std.specs.Prelude.{if◌then◌else◌, ◌==◌}
use Rattle.std.proofs.lemmas.List.{get_or-set_same, get_or-set_other, length-set}
use Rattle.vc_types.specs.Lifting.{Line, line_of}
use Rattle.vc_types.specs.Transforms.{halved, doubled, source_of}
use Rattle.vc_types.specs.Wavelets.{is_shifted, synthesised, analysed}
use Rattle.vc_lift.specs.declared.halves.Halves.{Halves}
use Rattle.vc_lift.specs.Halves.{halves_place, line_in, IsBeside}
use Rattle.vc_lift.specs.Ranges.{StaysNarrow, counted_synthesis, counted_analysis}
use Rattle.vc_lift.proofs.LineLaws.{synthesis_is_local, analysis_is_local}
use Rattle.vc_lift.proofs.NarrowGrowth.{synthesis_after}
use Rattle.vc_wave.specs.declared.pass.Direction.TheVariants.{Synthesis, Analysis}
use Rattle.vc_wave.specs.ForwardBounds.{parted_rows_bound}
use Rattle.vc_wave.specs.Lines.{row_from, IsRowMade}
use Rattle.vc_wave.specs.NarrowBounds.{RowHasBound, rows_bound}
use Rattle.vc_wave.specs.Remade.{half_place, halves_together, halves_apart, on_samples, merged, remade}
use Rattle.vc_wave.specs.Remade.{shifted_down}
use Rattle.vc_wave.proofs.CarriedBounds.{RowsMade, RowsParted, rows_made, rows_parted, readied_at_most}
use Rattle.vc_wave.proofs.PlaneLines.{rearranged_in, on_samples_in, on_samples_pass}
use Rattle.vc_wave.proofs.Weaving.{half_place_below, source_below, half_place-source_of, source_of-half_place}

-- ---- two samples more of a row

module _ {A : Type 0} (none : A) (cells : List A) (p q : ℕ) (v w : A) where
  abbrev pub both_set : List A
  both_set = set (set cells p v) q w

  pub both_left : (i : ℕ) → i ≢ p → i ≢ q → slice_index_or both_set i none ≡ slice_index_or cells i none
  both_left i np nq = get_or-set_other (set cells p v) q i w none nq ∙ get_or-set_other cells p i v none np

-- the next two in turn
module _ {A : Type 0} (none : A) (cells : List A) (start k : ℕ) (v w : A)
    (within : start + 2 * k + 1 < length cells) where
  abbrev pub one_set : List A
  one_set = set cells (start + 2 * k) v

  abbrev pub two_set : List A
  two_set = set one_set (start + 2 * k + 1) w

  last_within : start + 2 * k + 1 < length one_set
  last_within = simp length-set within

  pub even_more : (g : ℕ → A) → v ≡ g k → ((i : ℕ) → i < k → slice_index_or cells (start + 2 * i) none ≡ g i)
      → (i : ℕ) → i < k + 1 → slice_index_or two_set (start + 2 * i) none ≡ g i
  even_more g is before i h = grind (arith, get_or-set_other, get_or-set_same)

  pub odd_more : (g : ℕ → A) → w ≡ g k
      → ((i : ℕ) → i < k → slice_index_or cells (start + (2 * i + 1)) none ≡ g i)
      → (i : ℕ) → i < k + 1 → slice_index_or two_set (start + (2 * i + 1)) none ≡ g i
  odd_more g is before i h = grind (arith, get_or-set_same, last_within, get_or-set_other)

  pub off_more : (first : List A)
      → ((i : ℕ) → (i < start) ⊎ (start + 2 * k ≤ i)
      → slice_index_or cells i none ≡ slice_index_or first i none)
      → (i : ℕ) → (i < start) ⊎ (start + 2 * (k + 1) ≤ i)
      → slice_index_or two_set i none ≡ slice_index_or first i none
  off_more first before i (inl h) = both_left none cells _ _ v w i (λ p. omega arith) (λ p. omega arith)
      ∙ before i (inl h)
  off_more first before i (inr h) =
      both_left none cells _ _ v w i (λ p. omega arith) (λ p. omega arith) ∙ before i (inr (omega arith))

-- the next one of each half
module _ (cells : List ℤ) (start half k : ℕ) (v w : ℤ) (below : k < half)
    (within : start + 2 * half ≤ length cells) where
  abbrev pub low_set : List ℤ
  low_set = set cells (start + k) v

  abbrev pub halves_set : List ℤ
  halves_set = set low_set (start + half + k) w

  high_within : start + half + k < length low_set
  high_within = simp length-set (omega arith)

  pub low_more : (g : ℕ → ℤ) → v ≡ g k → ((i : ℕ) → i < k → line_of cells (start + i) ≡ g i)
      → (i : ℕ) → i < k + 1 → line_of halves_set (start + i) ≡ g i
  low_more g is before i h = grind (arith, get_or-set_other, get_or-set_same)

  pub high_more : (g : ℕ → ℤ) → w ≡ g k → ((i : ℕ) → i < k → line_of cells (start + (half + i)) ≡ g i)
      → (i : ℕ) → i < k + 1 → line_of halves_set (start + (half + i)) ≡ g i
  high_more g is before i h = grind (arith, get_or-set_same, high_within, get_or-set_other)

  pub halves_off : (first : List ℤ)
      → ((i : ℕ) → (i < start) ⊎ (start + 2 * half ≤ i) → line_of cells i ≡ line_of first i)
      → (i : ℕ) → (i < start) ⊎ (start + 2 * half ≤ i) → line_of halves_set i ≡ line_of first i
  halves_off first before i (inl h) = both_left (pos 0) cells _ _ v w i (λ p. omega arith) (λ p. omega arith)
      ∙ before i (inl h)
  halves_off first before i (inr h) = both_left (pos 0) cells _ _ v w i (λ p. omega arith) (λ p. omega arith)
      ∙ before i (inr h)

-- samples that are put in turn from two halves
pub halves_met : {A : Type 0} (pairs half : ℕ) (made from : ℕ → A)
    → ((k : ℕ) → k < pairs → made (2 * k) ≡ from k)
    → ((k : ℕ) → k < pairs → made (2 * k + 1) ≡ from (half + k)) → (k : ℕ) → k < 2 * pairs
    → made k ≡ from (half_place half k)
halves_met pairs half made from even odd k h = grind arith

module _ (start half : ℕ) (shifted : Bool) (old new : List ℤ)
    (off : (i : ℕ) → (i < start) ⊎ (start + 2 * half ≤ i) → line_of new i ≡ line_of old i) where
  pub woven : ((k : ℕ) → k < half
      → line_of new (start + 2 * k) ≡ shifted_down shifted (line_of old (start + k)))
      → ((k : ℕ) → k < half
      → line_of new (start + (2 * k + 1)) ≡ shifted_down shifted (line_of old (start + (half + k))))
      → IsRowMade (λ l. on_samples halved shifted (2 * half) (halves_together half l)) start
      (2 * half) old new
  woven even odd = record {
    on = λ k h.
        halves_met half half (row_from new start)
        (λ j. shifted_down shifted (row_from old start j)) even odd k h
        ∙ ap (shifted_down shifted)
        (sym (rearranged_in (2 * half) (half_place half) (row_from old start) k h))
        ∙ sym (on_samples_in halved shifted (2 * half) (halves_together half (row_from old start)) k h);
    off = off;
  }

-- samples that are readied, and put apart into two halves
module _ (start half : ℕ) (shifted : Bool) (given : Line) (new : List ℤ) where
  abbrev readied : Line
  readied k = if shifted then doubled (given k) else given k

  pub unwoven : ((k : ℕ) → k < half → line_of new (start + k) ≡ readied (2 * k))
      → ((k : ℕ) → k < half → line_of new (start + (half + k)) ≡ readied (2 * k + 1)) → (k : ℕ) → k < 2 * half
      → row_from new start k ≡ halves_apart half (on_samples doubled shifted (2 * half) given) k
  unwoven even odd k h =
      let below = source_below half k h in
      let place : start + k ≡ start + half_place half (source_of half k) =
      ap (λ n. start + n) (sym (half_place-source_of half k h)) in
      ap (line_of new) place
      ∙ sym (halves_met half half readied (row_from new start) (λ j lt. sym (even j lt))
      (λ j lt. sym (odd j lt)) (source_of half k) below)
      ∙ sym (on_samples_in doubled shifted (2 * half) given (source_of half k) below)
      ∙ sym (rearranged_in (2 * half) (source_of half) (on_samples doubled shifted (2 * half) given) k h)

-- ---- a row whose halves stand apart

abbrev pub row_halves : ℕ → ℕ → Halves
row_halves start half = record { even = start; odd = start + half; pitch = 1; half = half }

start_of : (start half q : ℕ) → q < 2 → (if q == 0 then start else start + half) ≡ start + q * half
start_of start half zero h = omega arith
start_of start half (suc zero) h = omega arith
start_of start half (suc (suc q)) h = absurd (omega arith)

module _ (start half : ℕ) where
  pub row_place : (k : ℕ) → halves_place (row_halves start half) k ≡ start + half_place half k
  row_place k = (let first = start_of start half (k % 2) (omega arith) in omega (arith, first))

  row_at : (cells : List ℤ) (k : ℕ)
      → line_in (row_halves start half) cells 0 k ≡ row_from cells start (half_place half k)
  row_at cells k = (let place = row_place k in ap (line_of cells) (omega (arith, place)))

  -- in the order of the whole line
  together : (cells : List ℤ) (k : ℕ) → k < 2 * half
      → halves_together half (row_from cells start) k ≡ line_in (row_halves start half) cells 0 k
  together cells k h = rearranged_in (2 * half) (half_place half) (row_from cells start) k h
      ∙ sym (row_at cells k)

  -- a cell outside the row
  pub row_beside : (old new : List ℤ)
      → ((i : ℕ) → IsBeside (row_halves start half) 1 i → line_of new i ≡ line_of old i)
      → (i : ℕ) → (i < start) ⊎ (start + 2 * half ≤ i) → line_of new i ≡ line_of old i
  row_beside old new beside i out = grind (arith, row_place, half_place_below)

  module _ (wavelet : ℕ) (some : 0 < half) where
    module _ (old : List ℤ) (bound : RowHasBound (rows_bound wavelet) old start (2 * half)) where
      made : RowsMade wavelet bound.most bound.after
      made = rows_made wavelet bound.most bound.after bound.fits

      old_small : (k : ℕ) → k < 2 * half → unsigned_abs (line_in (row_halves start half) old 0 k) ≤ bound.most
      old_small k h = rw (row_at old k) (bound.small (half_place half k) (half_place_below half k h))

      pub synthesis_narrow : (x : ℕ) → x < 1
          → StaysNarrow (counted_synthesis wavelet) half (line_in (row_halves start half) old x)
      synthesis_narrow x one =
          let first : 0 ≡ x = omega arith in
          subst (λ u. StaysNarrow (counted_synthesis wavelet) half
          (line_in (row_halves start half) old u)) first
          (record { most = bound.most; after = made.made; small = old_small; fits = made.synthesised })

      module _ (mid : List ℤ)
          (synth : (x k : ℕ) → x < 1 → k < 2 * half → line_in (row_halves start half) mid x k
          ≡ synthesised wavelet (2 * half) (line_in (row_halves start half) old x) k) where
        mid_small : (k : ℕ) → k < 2 * half → unsigned_abs (row_from mid start (half_place half k)) ≤ made.made
        mid_small k h =
            rw (sym (row_at mid k) ∙ synth 0 k (omega arith) h)
            (synthesis_after wavelet half bound.most made.made
            (line_in (row_halves start half) old 0) some made.synthesised old_small k h)

        pub shift_room : is_shifted wavelet ≡ true → (k : ℕ) → k < 2 * half
            → unsigned_abs (line_of mid (start + k)) + 1 < 2 ^ 31
        shift_room h k lt =
            let small = mid_small (source_of half k) (source_below half k lt) in
            let here = rw (half_place-source_of half k lt) at small in
            omega (arith, here, made.room h)

        -- the line with its halves together
        merged_at : (k : ℕ) → k < 2 * half
            → halves_together half (row_from mid start) k ≡ merged wavelet half (row_from old start) k
        merged_at k h =
            together mid k h ∙ synth 0 k (omega arith) h
            ∙ sym (synthesis_is_local wavelet (2 * half) (halves_together half (row_from old start))
            (line_in (row_halves start half) old 0)
            (omega arith) (together old) k h)

        pub row_value : (shifted : Bool) (k : ℕ) → k < 2 * half
            → on_samples halved shifted (2 * half) (halves_together half (row_from mid start)) k
            ≡ remade Synthesis wavelet shifted half (row_from old start) k
        row_value shifted = (on_samples_pass halved shifted (2 * half)).reads _ _ merged_at

        -- a sample of the row, where it stands in its half
        pub sample_value : (k : ℕ) → k < 2 * half
            → shifted_down (is_shifted wavelet) (line_of mid (start + half_place half k))
            ≡ remade Synthesis wavelet (is_shifted wavelet) half (row_from old start) k
        sample_value k h =
            ap (shifted_down (is_shifted wavelet))
            (sym (rearranged_in (2 * half) (half_place half) (row_from mid start) k h))
            ∙ sym (on_samples_in halved (is_shifted wavelet) (2 * half)
            (halves_together half (row_from mid start)) k h)
            ∙ row_value (is_shifted wavelet) k h

        pub row_merged : (shifted : Bool) (new : List ℤ)
            → ((i : ℕ) → IsBeside (row_halves start half) 1 i → line_of mid i ≡ line_of old i)
            → IsRowMade (λ l. on_samples halved shifted (2 * half) (halves_together half l)) start
            (2 * half) mid new
            → IsRowMade (remade Synthesis wavelet shifted half) start (2 * half) old new
        row_merged shifted new beside weave = record {
          on = λ k h. weave.on k h ∙ row_value shifted k h;
          off = λ i out. weave.off i out ∙ row_beside old mid beside i out;
        }

    -- samples that are taken apart
    module _ (given : Line) (most after : ℕ) (fits : parted_rows_bound wavelet most ≡ Some after)
        (small : (k : ℕ) → k < 2 * half → unsigned_abs (given k) ≤ most) where
      parts : RowsParted wavelet most after
      parts = rows_parted wavelet most after fits

      pub double_room : is_shifted wavelet ≡ true → (k : ℕ) → k < 2 * half
          → 2 * unsigned_abs (given k) < 2 ^ 31
      double_room h k lt = (let room = parts.room h in let own = small k lt in omega (arith, room, own))

      abbrev doubles : Line
      doubles = on_samples doubled (is_shifted wavelet) (2 * half) given

      module _ (mid : List ℤ)
          (apart : (k : ℕ) → k < 2 * half → row_from mid start k ≡ halves_apart half doubles k) where
        -- the samples as they are doubled
        doubled_at : (k : ℕ) → k < 2 * half → line_in (row_halves start half) mid 0 k ≡ doubles k
        doubled_at k h =
            let below = half_place_below half k h in
            row_at mid k ∙ apart (half_place half k) below
            ∙ rearranged_in (2 * half) (source_of half) doubles (half_place half k) below
            ∙ ap doubles (source_of-half_place half k h)

        mid_doubled : (k : ℕ) → k < 2 * half
            → unsigned_abs (line_in (row_halves start half) mid 0 k) ≤ parts.twice
        mid_doubled k h =
            rw (doubled_at k h ∙ on_samples_in doubled (is_shifted wavelet) (2 * half) given k h)
            (readied_at_most wavelet most after parts (given k) (small k h))

        pub analysis_narrow : (x : ℕ) → x < 1
            → StaysNarrow (counted_analysis wavelet) half (line_in (row_halves start half) mid x)
        analysis_narrow x one =
            let first : 0 ≡ x = omega arith in
            subst (λ u. StaysNarrow (counted_analysis wavelet) half
            (line_in (row_halves start half) mid u)) first
            (record { most = parts.twice; after = after; small = mid_doubled; fits = parts.analysed })

        pub row_parted : (new : List ℤ)
            → ((x k : ℕ) → x < 1 → k < 2 * half → line_in (row_halves start half) new x k
            ≡ analysed wavelet (2 * half) (line_in (row_halves start half) mid x) k)
            → (k : ℕ) → k < 2 * half
            → row_from new start k ≡ remade Analysis wavelet (is_shifted wavelet) half given k
        row_parted new analyse k h =
            let j = source_of half k in
            let below = source_below half k h in
            ap (row_from new start) (sym (half_place-source_of half k h)) ∙ sym (row_at new j)
            ∙ analyse 0 j (omega arith) below
            ∙ analysis_is_local wavelet (2 * half) (line_in (row_halves start half) mid 0) doubles
            (omega arith) doubled_at j below
            ∙ sym (rearranged_in (2 * half) (source_of half) (analysed wavelet (2 * half) doubles) k h)
