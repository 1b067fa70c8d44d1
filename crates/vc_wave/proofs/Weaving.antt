-- A level of the transform, with its subbands put together and taken apart column by column and row by row.
use Rattle.std.proofs.Common.{◌≡◌, ℕ, zero, suc, ◌+◌, ◌-◌, ◌*◌, ◌/◌, ◌%◌, ◌<◌, ◌≤◌, ℤ, arith, sym, ap, ◌∙◌}
use Rattle.std.proofs.Common.{◌⊎◌, inl, inr, Bool, true, false, refl}
use Rattle.std.specs.Prelude.{if◌then◌else◌, nat_lt, ◌&&◌, ◌==◌}
use mathlib.Core.Path.{fun_ext}
use Rattle.std.proofs.lemmas.Bool.{cases_lt, cases_eq}
use Rattle.std.proofs.lemmas.Bool.Decides.{nat_tests}
use Rattle.vc_types.specs.Lifting.{Line}
use Rattle.vc_types.specs.Subbands.{LL, H, HL, LH, HH}
use Rattle.vc_types.specs.Transforms.{is_within, is_even, coefficient_in, orientation_across}
use Rattle.vc_types.specs.Transforms.{orientation_both_ways}
use Rattle.vc_types.specs.Transforms.{Cells, source_of, interleaved_across, interleaved, deinterleaved}
use Rattle.vc_types.specs.Transforms.{level_across, on_columns, on_rows, on_cells, halved, doubled}
use Rattle.vc_types.specs.Transforms.{inverse_level, forward_level}
use Rattle.vc_types.specs.Wavelets.{is_shifted, synthesised, analysed}
use Rattle.vc_lift.proofs.LineLaws.{synthesis_is_local, analysis_is_local, synthesis_past, analysis_past}
use Rattle.vc_wave.proofs.PlaneLines.{StaysBelow, IsPass, both_passes, column_in, column_out, row_in, row_out}
use Rattle.vc_wave.proofs.PlaneLines.{on_columns-on_columns, on_rows-on_rows, rearranged_in, rearranged_past}
use Rattle.vc_wave.proofs.PlaneLines.{rearranged_pass, on_columns-rearranged, on_samples_pass, on_cells_rows}
use Rattle.vc_wave.specs.declared.pass.Direction.{Direction}
use Rattle.vc_wave.specs.declared.pass.Direction.TheVariants.{Synthesis, Analysis}
use Rattle.vc_wave.specs.Remade.{half_place, rearranged, halves_together, halves_apart, on_samples, merged}
use Rattle.vc_wave.specs.Remade.{parted, remade}

-- ---- a line of two halves

pub half_place_below : (half : ℕ) → StaysBelow (2 * half) (half_place half)
half_place_below half k h = grind arith

pub source_below : (half : ℕ) → StaysBelow (2 * half) (source_of half)
source_below half k h = grind (arith, nat_tests)

pub first_source : (half k : ℕ) → k < half → source_of half k ≡ 2 * k
first_source half k h = grind (arith, nat_tests)

second_source : (half k : ℕ) → half ≤ k → source_of half k ≡ 2 * (k - half) + 1
second_source half k h = grind (arith, nat_tests)

pub source_of-half_place : (half k : ℕ) → k < 2 * half → source_of half (half_place half k) ≡ k
source_of-half_place half k h = elim (cases_eq (k % 2) 0) [
  | inl e ↦ (let place : half_place half k ≡ k / 2 = rw e (omega arith) in ap (source_of half) place
      ∙ first_source half (k / 2) (omega arith) ∙ omega arith)
  | inr ne ↦ (let odd : k % 2 ≡ 1 = omega arith in
      let place : half_place half k ≡ k / 2 + half = rw odd (omega arith) in ap (source_of half) place
      ∙ second_source half (k / 2 + half) (omega arith) ∙ omega arith)
]

pub half_place-source_of : (half k : ℕ) → k < 2 * half → half_place half (source_of half k) ≡ k
half_place-source_of half k h = grind (arith, first_source, second_source)

split_back : (half : ℕ) (l : ℕ → ℤ) (k : ℕ) → (k < 2 * half) ⊎ (2 * half ≤ k)
    → halves_apart half (halves_together half l) k ≡ l k
split_back half l k h = grind (arith, rearranged_in, source_below, half_place-source_of, rearranged_past)

pub halves_apart-halves_together : (half : ℕ) (l : ℕ → ℤ) → halves_apart half (halves_together half l) ≡ l
halves_apart-halves_together half l = fun_ext (λ k. split_back half l k (cases_lt k (2 * half)))

twice_even : (half : ℕ) → 2 * half % 2 ≡ 0
twice_even half = omega arith

-- ---- what is made of a line

pub synthesis_pass : (wavelet half : ℕ) → IsPass (2 * half) (synthesised wavelet (2 * half))
synthesis_pass wavelet half = record {
  past = synthesis_past wavelet half;
  reads = λ l m e. synthesis_is_local wavelet (2 * half) l m (twice_even half) e;
}

pub analysis_pass : (wavelet half : ℕ) → IsPass (2 * half) (analysed wavelet (2 * half))
analysis_pass wavelet half = record {
  past = analysis_past wavelet half;
  reads = λ l m e. analysis_is_local wavelet (2 * half) l m (twice_even half) e;
}

pub merged_pass : (wavelet half : ℕ) → IsPass (2 * half) (merged wavelet half)
merged_pass wavelet half =
    both_passes (2 * half) (synthesised wavelet (2 * half)) (halves_together half)
    (synthesis_pass wavelet half) (rearranged_pass (2 * half) (half_place half) (half_place_below half))

pub parted_pass : (wavelet half : ℕ) → IsPass (2 * half) (parted wavelet half)
parted_pass wavelet half =
    both_passes (2 * half) (halves_apart half) (analysed wavelet (2 * half))
    (rearranged_pass (2 * half) (source_of half) (source_below half)) (analysis_pass wavelet half)

pub remade_pass : (d : Direction) (wavelet : ℕ) (shifted : Bool) (half : ℕ)
    → IsPass (2 * half) (remade d wavelet shifted half)
remade_pass Synthesis wavelet shifted half =
    both_passes (2 * half) (on_samples halved shifted (2 * half)) (merged wavelet half)
    (on_samples_pass halved shifted (2 * half)) (merged_pass wavelet half)
remade_pass Analysis wavelet shifted half =
    both_passes (2 * half) (parted wavelet half) (on_samples doubled shifted (2 * half))
    (parted_pass wavelet half) (on_samples_pass doubled shifted (2 * half))

not_changed : (f : ℤ → ℤ) (n : ℕ) (l : Line) → on_samples f false n l ≡ l
unfolding on_samples
not_changed f n l = refl

-- on columns nothing is shifted
pub remade_merged : (wavelet half : ℕ) → merged wavelet half ≡ remade Synthesis wavelet false half
remade_merged wavelet half = fun_ext (λ l. sym (not_changed halved (2 * half) (merged wavelet half l)))

pub remade_parted : (wavelet half : ℕ) → parted wavelet half ≡ remade Analysis wavelet false half
remade_parted wavelet half = fun_ext (λ l. ap (parted wavelet half) (sym (not_changed doubled (2 * half) l)))

-- ---- four quarters, by direction

-- where a half begins, by parity
pub parity_start : (half q : ℕ) → q < 2 → (if q == 0 then 0 else half) ≡ q * half
parity_start half zero h = omega arith
parity_start half (suc zero) h = omega arith
parity_start half (suc (suc q)) h = absurd (omega arith)

start_place : (half k : ℕ) → (if is_even k then 0 else half) + k / 2 ≡ half_place half k
start_place half k = (let first = parity_start half (k % 2) (omega arith) in omega (arith, first))

module _ (w h x y : ℕ) (c : Cells) where
  across_half : (column : Bool) → coefficient_in (if column then LL else H) w h c (x / 2) y
      ≡ c ((if column then 0 else w) + x / 2) (0 + y)
  across_half true = refl
  across_half false = refl

  across_place : coefficient_in (orientation_across x) w h c (x / 2) y ≡ c (half_place w x) y
  across_place =
      let row : 0 + y ≡ y = omega arith in
      across_half (is_even x) ∙ ap (λ n. c n (0 + y)) (start_place w x) ∙ ap (c (half_place w x)) row

  quarter : (column row : Bool)
      → coefficient_in (if row then (if column then LL else HL) else (if column then LH else HH)) w h c
      (x / 2) (y / 2)
      ≡ c ((if column then 0 else w) + x / 2) ((if row then 0 else h) + y / 2)
  quarter true true = refl
  quarter true false = refl
  quarter false true = refl
  quarter false false = refl

  both_ways_place : coefficient_in (orientation_both_ways x y) w h c (x / 2) (y / 2)
      ≡ c (half_place w x) (half_place h y)
  both_ways_place =
      quarter (is_even x) (is_even y)
      ∙ ap (λ n. c n ((if is_even y then 0 else h) + y / 2)) (start_place w x)
      ∙ ap (c (half_place w x)) (start_place h y)

-- a level's cells, by the places of its columns and rows in their halves
pub interleaved_places : (w h : ℕ) (c : Cells) → interleaved w h c
    ≡ (λ x y. if is_within (2 * w) (2 * h) x y then c (half_place w x) (half_place h y) else c x y)
unfolding interleaved
interleaved_places w h c = fun_ext (λ x. fun_ext (λ y.
    ap (λ z. if is_within (2 * w) (2 * h) x y then z else c x y) (both_ways_place w h x y c)))

interleaved_across_places : (w h : ℕ) (c : Cells) → interleaved_across w h c
    ≡ (λ x y. if is_within (2 * w) h x y then c (half_place w x) y else c x y)
unfolding interleaved_across
interleaved_across_places w h c = fun_ext (λ x. fun_ext (λ y.
    ap (λ z. if is_within (2 * w) h x y then z else c x y) (across_place w h x y c)))

module _ (n m : ℕ) (across down : ℕ → ℕ) (stays : StaysBelow n across) (c : Cells) where
  outside : (x y : ℕ) → (n ≤ x) ⊎ (m ≤ y)
      → (if nat_lt x n && nat_lt y m then c (across x) (down y) else c x y) ≡ c x y
  outside x y (inl h) = grind (arith, nat_tests)
  outside x y (inr h) = grind (arith, nat_tests)

  quarters_at : (x y : ℕ) → (x < n) ⊎ (n ≤ x) → (y < m) ⊎ (m ≤ y)
      → (if nat_lt x n && nat_lt y m then c (across x) (down y) else c x y)
      ≡ on_rows (rearranged n across) m (on_columns (rearranged m down) n c) x y
  quarters_at x y h g =
      grind (arith, row_in, rearranged_in, column_in, outside, rearranged_past, column_out, row_out)

  quarters : (λ x y. if nat_lt x n && nat_lt y m then c (across x) (down y) else c x y)
      ≡ on_rows (rearranged n across) m (on_columns (rearranged m down) n c)
  quarters = fun_ext (λ x. fun_ext (λ y. quarters_at x y (cases_lt x n) (cases_lt y m)))

pub interleaved_woven : (w h : ℕ) (c : Cells)
    → interleaved w h c ≡ on_rows (halves_together w) (2 * h) (on_columns (halves_together h) (2 * w) c)
interleaved_woven w h c =
    interleaved_places w h c ∙ quarters (2 * w) (2 * h) (half_place w) (half_place h) (half_place_below w) c

pub deinterleaved_unwoven : (w h : ℕ) (c : Cells)
    → deinterleaved w h c ≡ on_rows (halves_apart w) (2 * h) (on_columns (halves_apart h) (2 * w) c)
unfolding deinterleaved
deinterleaved_unwoven w h c = quarters (2 * w) (2 * h) (source_of w) (source_of h) (source_below w) c

-- ---- one level, by direction

-- rows that are put together, and then shifted
rows_remade : (wavelet w rows : ℕ) (c : Cells)
    → on_cells halved (is_shifted wavelet) (2 * w) rows
    (on_rows (synthesised wavelet (2 * w)) rows (on_rows (halves_together w) rows c))
    ≡ on_rows (remade Synthesis wavelet (is_shifted wavelet) w) rows c
rows_remade wavelet w rows c = grind (arith, on_rows-on_rows, on_cells_rows)

both_tests : (inside above : Bool) (a b : ℤ)
    → (if inside && above then a else b) ≡ (if above then (if inside then a else b) else b)
both_tests inside above a b = grind arith

across_together : (w h : ℕ) (c : Cells) → interleaved_across w h c ≡ on_rows (halves_together w) h c
unfolding on_rows rearranged
across_together w h c =
    interleaved_across_places w h c
    ∙ fun_ext (λ x. fun_ext (λ y. both_tests (nat_lt x (2 * w)) (nat_lt y h) (c (half_place w x) y) (c x y)))

pub level_across_remade : (wavelet w h : ℕ) (c : Cells)
    → level_across wavelet w h c ≡ on_rows (remade Synthesis wavelet (is_shifted wavelet) w) h c
unfolding level_across
level_across_remade wavelet w h c =
    ap (λ p. on_cells halved (is_shifted wavelet) (2 * w) h (on_rows (synthesised wavelet (2 * w)) h p))
    (across_together w h c)
    ∙ rows_remade wavelet w h c

pub inverse_level_remade : (vertical horizontal w h : ℕ) (c : Cells)
    → inverse_level vertical horizontal w h c
    ≡ on_rows (remade Synthesis horizontal (is_shifted horizontal) w) (2 * h)
    (on_columns (remade Synthesis vertical false h) (2 * w) c)
unfolding inverse_level
inverse_level_remade vertical horizontal w h c =
    let down = synthesised vertical (2 * h) in
    let rows = λ (p : Cells). on_cells halved (is_shifted horizontal) (2 * w) (2 * h)
    (on_rows (synthesised horizontal (2 * w)) (2 * h) p) in
    ap (λ p. rows (on_columns down (2 * w) p)) (interleaved_woven w h c)
    ∙ ap rows (on_columns-rearranged down (2 * h) (2 * w) (half_place w) (synthesis_pass vertical h)
    (half_place_below w)
    (on_columns (halves_together h) (2 * w) c))
    ∙ ap (λ p. rows (on_rows (halves_together w) (2 * h) p))
    (on_columns-on_columns down (halves_together h) (2 * w) c)
    ∙ rows_remade horizontal w (2 * h) (on_columns (merged vertical h) (2 * w) c)
    ∙ ap (λ f. on_rows (remade Synthesis horizontal (is_shifted horizontal) w) (2 * h)
    (on_columns f (2 * w) c)) (remade_merged vertical h)

pub forward_level_remade : (wavelet w h : ℕ) (c : Cells)
    → forward_level wavelet w h c
    ≡ on_columns (remade Analysis wavelet false h) (2 * w)
    (on_rows (remade Analysis wavelet (is_shifted wavelet) w) (2 * h) c)
unfolding forward_level
forward_level_remade wavelet w h c =
    let across = analysed wavelet (2 * w) in
    let down = analysed wavelet (2 * h) in
    let first = on_cells doubled (is_shifted wavelet) (2 * w) (2 * h) c in
    let row = on_samples doubled (is_shifted wavelet) (2 * w) in
    deinterleaved_unwoven w h (on_columns down (2 * w) (on_rows across (2 * h) first))
    ∙ ap (on_rows (halves_apart w) (2 * h))
    (on_columns-on_columns (halves_apart h) down (2 * w) (on_rows across (2 * h) first))
    ∙ sym (on_columns-rearranged (parted wavelet h) (2 * h) (2 * w) (source_of w) (parted_pass wavelet h)
    (source_below w)
    (on_rows across (2 * h) first))
    ∙ ap (on_columns (parted wavelet h) (2 * w)) (on_rows-on_rows (halves_apart w) across (2 * h) first)
    ∙ ap (λ p. on_columns (parted wavelet h) (2 * w) (on_rows (parted wavelet w) (2 * h) p))
    (on_cells_rows doubled (is_shifted wavelet) (2 * w) (2 * h) c)
    ∙ ap (on_columns (parted wavelet h) (2 * w)) (on_rows-on_rows (parted wavelet w) row (2 * h) c)
    ∙ ap (λ f. on_columns f (2 * w) (on_rows (remade Analysis wavelet (is_shifted wavelet) w) (2 * h) c))
    (remade_parted wavelet h)
