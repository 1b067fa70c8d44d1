-- A bound on all magnitudes is carried through lines, passes and levels in 32 bits.
use Rattle.std.proofs.Common.{◌≡◌, ℕ, zero, suc, ◌+◌, ◌-◌, ◌*◌, ◌/◌, ◌^◌, ◌<◌, ◌≤◌, inl, inr, List, ℤ, pos}
use Rattle.std.proofs.Common.{negsuc}
use Rattle.std.proofs.Common.{◌+ℤ◌, unsigned_abs, arith, ap, sym, subst, refl, ◌∙◌, Bool, true, false, max}
use Rattle.std.proofs.Common.{Option, Some, None}
use Rattle.std.specs.Prelude.{if◌then◌else◌, nat_lt}
use Rattle.std.specs.Option.{option_and_then, is_some}
use Rattle.std.specs.Int.{int_shr}
use Rattle.std.proofs.lemmas.Bool.{cases_lt, false≢true}
use Rattle.std.proofs.lemmas.Bool.Decides.{nat_tests}
use Rattle.std.proofs.lemmas.Int.{ints}
use Rattle.std.proofs.lemmas.Option.{option_and_then_some}
use Rattle.std.proofs.Math.Numerals.{add-one}
use Rattle.vc_types.specs.Lifting.{Line}
use Rattle.vc_types.specs.Transforms.{Cells, source_of, halved, doubled, on_columns, on_rows}
use Rattle.vc_types.specs.Wavelets.{is_shifted, synthesised, analysed}
use Rattle.vc_lift.specs.Ranges.{narrow_bound, narrow_analysis_bound}
use Rattle.vc_lift.proofs.LineLaws.{synthesis_past, analysis_past}
use Rattle.vc_lift.proofs.NarrowGrowth.{synthesis_after, analysis_after, narrow_covers}
use Rattle.vc_lift.proofs.NarrowGrowth.{narrow_analysis_covers}
use Rattle.vc_wave.specs.declared.pass.Direction.TheVariants.{Synthesis, Analysis}
use Rattle.vc_wave.specs.ForwardBounds.{doubled_bound, parted_rows_bound, parted_level_bound}
use Rattle.vc_wave.specs.NarrowBounds.{AreWithin, CarriesTo, HasBound, shifted_bound, rows_bound, bound_over}
use Rattle.vc_wave.specs.Planes.{plane_of}
use Rattle.vc_wave.specs.Remade.{half_place, rearranged, halves_together, on_samples, merged, remade}
use Rattle.vc_wave.specs.Remade.{parted_in_turn}
use Rattle.vc_wave.proofs.PlaneLines.{column_in, column_out, row_in, row_out, rearranged_in, rearranged_past}
use Rattle.vc_wave.proofs.PlaneLines.{on_samples_in}
use Rattle.vc_wave.proofs.PlaneLines.{on_samples_past}
use Rattle.vc_wave.proofs.PlaneSteps.{plane_small, cells_small}
use Rattle.vc_wave.proofs.Weaving.{remade_pass}

-- ---- samples

shr_once : (n : ℕ) (z : ℤ) → unsigned_abs z + 1 ≤ n → unsigned_abs (int_shr z 1) ≤ (n + 1) / 2
shr_once n (pos j) h = omega arith
shr_once n (negsuc j) h = omega arith

halved_at_most : (n : ℕ) (z : ℤ) → unsigned_abs z ≤ n → unsigned_abs (halved z) ≤ (n + 1) / 2
halved_at_most n (pos k) h = omega arith
halved_at_most n (negsuc zero) h = omega arith
halved_at_most n (negsuc (suc k)) h = shr_once n (negsuc (suc k) +ℤ pos 1) (omega (arith, ints))

-- what a bound says that a test lets through
room_of : (shifted below : Bool) (n m after : ℕ)
    → (if shifted then (if below then Some n else None) else Some m) ≡ Some after
    → shifted ≡ true → below ≡ true
room_of true true n m after e h = refl
room_of true false n m after e h = grind (arith, nat_tests)
room_of false below n m after e h = grind (arith, nat_tests)

chosen : (shifted below : Bool) (n m after : ℕ)
    → (if shifted then (if below then Some n else None) else Some m) ≡ Some after
    → (if shifted then n else m) ≡ after
chosen true true n m after e = grind (arith, nat_tests)
chosen true false n m after e = grind (arith, nat_tests)
chosen false below n m after e = grind (arith, nat_tests)

halved_kept : (shifted : Bool) (most made after : ℕ) (z : ℤ)
    → (if shifted then max most ((made + 1) / 2) else max most made) ≡ after
    → unsigned_abs z ≤ made → unsigned_abs (if shifted then halved z else z) ≤ after
halved_kept true most made after z is h = (let half = halved_at_most made z h in omega (arith, is, half))
halved_kept false most made after z is h = omega (arith, is)

halved_covers : (shifted : Bool) (most made after : ℕ)
    → (if shifted then max most ((made + 1) / 2) else max most made) ≡ after → most ≤ after
halved_covers true most made after is = omega (arith, is)
halved_covers false most made after is = omega (arith, is)

doubled_kept : (shifted : Bool) (most twice : ℕ) (z : ℤ) → (if shifted then 2 * most else most) ≡ twice
    → unsigned_abs z ≤ most → unsigned_abs (if shifted then doubled z else z) ≤ twice
doubled_kept true most twice z is h = omega (arith, ints, is)
doubled_kept false most twice z is h = omega (arith, is)

doubled_covers : (shifted : Bool) (most twice : ℕ) → (if shifted then 2 * most else most) ≡ twice
    → most ≤ twice
doubled_covers true most twice is = omega (arith, is)
doubled_covers false most twice is = omega (arith, is)

-- ---- lines

abbrev pub Carries : ℕ → ℕ → (Line → Line) → Type 0
Carries most after f =
    (l : Line) → ((k : ℕ) → unsigned_abs (l k) ≤ most) → (k : ℕ) → unsigned_abs (f l k) ≤ after

rearranged_carries : (n most : ℕ) (source : ℕ → ℕ) → Carries most most (rearranged n source)
rearranged_carries n most source l small k = grind (arith, rearranged_in, rearranged_past)

module _ (wavelet half most after : ℕ) (some : 0 < half) where
  pub synthesis_carries : narrow_bound wavelet most ≡ Some after
      → Carries most after (synthesised wavelet (2 * half))
  synthesis_carries fits l small k = elim (cases_lt k (2 * half)) [
    | inl h ↦ synthesis_after wavelet half most after l some fits (λ j lt. small j) k h
    | inr past ↦ rw (synthesis_past wavelet half l k past)
        (omega (arith, narrow_covers wavelet most after fits, small k))
  ]

  pub analysis_carries : narrow_analysis_bound wavelet most ≡ Some after
      → Carries most after (analysed wavelet (2 * half))
  analysis_carries fits l small k = elim (cases_lt k (2 * half)) [
    | inl h ↦ analysis_after wavelet half most after l some fits (λ j lt. small j) k h
    | inr past ↦ rw (analysis_past wavelet half l k past)
        (omega (arith, narrow_analysis_covers wavelet most after fits, small k))
  ]

-- ---- rows: a bound in its two parts

pub record RowsMade (wavelet most after : ℕ) : Type 0 where
  pub made : ℕ
  pub synthesised : narrow_bound wavelet most ≡ Some made
  pub room : is_shifted wavelet ≡ true → made + 1 < 2 ^ 31
  pub last : (if is_shifted wavelet then max most ((made + 1) / 2) else max most made) ≡ after

pub record RowsParted (wavelet most after : ℕ) : Type 0 where
  pub twice : ℕ
  pub room : is_shifted wavelet ≡ true → 2 * most < 2 ^ 31
  pub first : (if is_shifted wavelet then 2 * most else most) ≡ twice
  pub analysed : narrow_analysis_bound wavelet twice ≡ Some after

module _ (wavelet most after : ℕ) where
  pub rows_made : rows_bound wavelet most ≡ Some after → RowsMade wavelet most after
  unfolding rows_bound
  rows_made fits =
      option_and_then_some (λ (made : ℕ). shifted_bound wavelet most made)
      (narrow_bound wavelet most) after fits
      (λ made is last. record {
        made = made;
        synthesised = is;
        room = λ h. (let below = room_of (is_shifted wavelet) (nat_lt (made + 1) (2 ^ 31)) _ _ after last h in
            grind (arith, nat_tests));
        last = chosen (is_shifted wavelet) (nat_lt (made + 1) (2 ^ 31)) _ _ after last;
      })

  pub rows_parted : parted_rows_bound wavelet most ≡ Some after → RowsParted wavelet most after
  unfolding parted_rows_bound
  rows_parted fits =
      option_and_then_some (λ (twice : ℕ). narrow_analysis_bound wavelet twice)
      (doubled_bound wavelet most) after fits
      (λ twice is last. record {
        twice = twice;
        room = λ h. (let below = room_of (is_shifted wavelet) (nat_lt (2 * most) (2 ^ 31)) _ _ twice is h in
            grind (arith, nat_tests));
        first = chosen (is_shifted wavelet) (nat_lt (2 * most) (2 ^ 31)) _ _ twice is;
        analysed = last;
      })

  pub rows_cover : rows_bound wavelet most ≡ Some after → most ≤ after
  rows_cover fits = (let m = rows_made fits in halved_covers (is_shifted wavelet) most m.made after m.last)

  pub parted_rows_cover : parted_rows_bound wavelet most ≡ Some after → most ≤ after
  parted_rows_cover fits =
      let m = rows_parted fits in
      let twice = doubled_covers (is_shifted wavelet) most m.twice m.first in
      omega (arith, twice, narrow_analysis_covers wavelet m.twice after m.analysed)

  -- samples that are synthesised are shifted, and samples are doubled before they are analysed
  pub shifted_at_most : (m : RowsMade wavelet most after) (z : ℤ) → unsigned_abs z ≤ m.made
      → unsigned_abs (if is_shifted wavelet then halved z else z) ≤ after
  shifted_at_most m z = halved_kept (is_shifted wavelet) most m.made after z m.last

  pub readied_at_most : (m : RowsParted wavelet most after) (z : ℤ) → unsigned_abs z ≤ most
      → unsigned_abs (if is_shifted wavelet then doubled z else z) ≤ m.twice
  readied_at_most m z = doubled_kept (is_shifted wavelet) most m.twice z m.first

  module _ (half : ℕ) (some : 0 < half) where
    pub rows_carry : rows_bound wavelet most ≡ Some after
        → Carries most after (remade Synthesis wavelet (is_shifted wavelet) half)
    rows_carry fits l small k =
        let m = rows_made fits in
        let made : Carries most m.made (merged wavelet half) = λ j within.
        synthesis_carries wavelet half most m.made some m.synthesised (halves_together half j)
        (rearranged_carries (2 * half) most (half_place half) j within) in
        elim (cases_lt k (2 * half)) [
          | inl h ↦ rw (on_samples_in halved (is_shifted wavelet) (2 * half) (merged wavelet half l) k h)
              (shifted_at_most m (merged wavelet half l k) (made l small k))
          | inr past ↦ rw ((remade_pass Synthesis wavelet (is_shifted wavelet) half).past l k past)
              (omega (arith, rows_cover fits, small k))
        ]

    pub parted_rows_carry : parted_rows_bound wavelet most ≡ Some after
        → Carries most after (remade Analysis wavelet (is_shifted wavelet) half)
    parted_rows_carry fits l small k =
        let m = rows_parted fits in
        let readied = on_samples doubled (is_shifted wavelet) (2 * half) l in
        let within : (j : ℕ) → unsigned_abs (readied j) ≤ m.twice = λ j. elim (cases_lt j (2 * half)) [
          | inl h ↦ rw (on_samples_in doubled (is_shifted wavelet) (2 * half) l j h)
              (readied_at_most m (l j) (small j))
          | inr past ↦ rw (on_samples_past doubled (is_shifted wavelet) (2 * half) l j past)
              (omega (arith, doubled_covers (is_shifted wavelet) most m.twice m.first, small j))
        ] in
        rearranged_carries (2 * half) after (source_of half) (analysed wavelet (2 * half) readied)
        (analysis_carries wavelet half m.twice after some m.analysed readied within) k

-- ---- planes

abbrev pub AtMost : ℕ → Cells → Type 0
AtMost m c = (x y : ℕ) → unsigned_abs (c x y) ≤ m

module _ (f : Line → Line) (n most after : ℕ) (c : Cells) (carries : Carries most after f)
    (more : most ≤ after)
    (small : AtMost most c) where
  pub columns_at_most : AtMost after (on_columns f n c)
  columns_at_most x y = elim (cases_lt x n) [
    | inl h ↦ rw (column_in f n c x y h) (carries (λ k. c x k) (small x) y)
    | inr h ↦ rw (column_out f n c x y h) (omega (arith, small x y))
  ]

  pub rows_at_most : AtMost after (on_rows f n c)
  rows_at_most x y = elim (cases_lt y n) [
    | inl h ↦ rw (row_in f n c x y h) (carries (λ k. c k y) (λ k. small k y) x)
    | inr h ↦ rw (row_out f n c x y h) (omega (arith, small x y))
  ]

-- of cells that are kept row by row
pub made_within : (pitch most after : ℕ) (f : Cells → Cells) (old new : List ℤ) → 0 < pitch
    → AreWithin most old
    → plane_of pitch new ≡ f (plane_of pitch old)
    → (AtMost most (plane_of pitch old) → AtMost after (f (plane_of pitch old)))
    → AreWithin after new
made_within pitch most after f old new some small is grows =
    cells_small pitch after new some
    (subst (λ (p : Cells). AtMost after p) (sym is) (grows (plane_small pitch most old small)))

pub has_bound : {carry : ℕ → Option ℕ} {cells : List ℤ} {after : ℕ} → CarriesTo carry cells after
    → HasBound carry cells
has_bound {after = after} r = record { most = r.most; after = after; small = r.small; fits = r.fits }

module _ (wavelet half n pitch after : ℕ) (old new : List ℤ) (some : 0 < half) (wide : 0 < pitch) where
  pub columns_within : CarriesTo (narrow_bound wavelet) old after
      → plane_of pitch new ≡ on_columns (synthesised wavelet (2 * half)) n (plane_of pitch old)
      → AreWithin after new
  columns_within r is =
      made_within pitch r.most after (on_columns (synthesised wavelet (2 * half)) n) old new wide r.small is
      (columns_at_most (synthesised wavelet (2 * half)) n r.most after (plane_of pitch old)
      (synthesis_carries wavelet half r.most after some r.fits) (narrow_covers wavelet r.most after r.fits))

  pub rows_within : CarriesTo (rows_bound wavelet) old after
      → plane_of pitch new
      ≡ on_rows (remade Synthesis wavelet (is_shifted wavelet) half) n (plane_of pitch old)
      → AreWithin after new
  rows_within r is =
      made_within pitch r.most after
      (on_rows (remade Synthesis wavelet (is_shifted wavelet) half) n) old new wide r.small is
      (rows_at_most (remade Synthesis wavelet (is_shifted wavelet) half) n r.most after (plane_of pitch old)
      (rows_carry wavelet r.most after half some r.fits) (rows_cover wavelet r.most after r.fits))

-- ---- levels

-- a bound over a level, in its two parts
pub record LevelParted (wavelet most after : ℕ) : Type 0 where
  pub made : ℕ
  pub across : parted_rows_bound wavelet most ≡ Some made
  pub down : narrow_analysis_bound wavelet made ≡ Some after

module _ (wavelet most after : ℕ) (fits : parted_level_bound wavelet most ≡ Some after) where
  pub level_bounds : LevelParted wavelet most after
  unfolding parted_level_bound
  level_bounds =
      option_and_then_some (λ (made : ℕ). narrow_analysis_bound wavelet made)
      (parted_rows_bound wavelet most) after fits
      (λ made is last. record { made = made; across = is; down = last })

  module _ (w h : ℕ) (c : Cells) (wide : 0 < w) (small : AtMost most c) where
    pub level_rows_at_most : AtMost level_bounds.made
        (on_rows (remade Analysis wavelet (is_shifted wavelet) w) (2 * h) c)
    level_rows_at_most =
        let m = level_bounds in
        rows_at_most (remade Analysis wavelet (is_shifted wavelet) w) (2 * h) most m.made c
        (parted_rows_carry wavelet most m.made w wide m.across)
        (parted_rows_cover wavelet most m.made m.across) small

    pub parted_at_most : 0 < h → AtMost after (parted_in_turn wavelet w h c)
    unfolding parted_in_turn
    parted_at_most high =
        let m = level_bounds in
        columns_at_most (analysed wavelet (2 * h)) (2 * w) m.made after
        (on_rows (remade Analysis wavelet (is_shifted wavelet) w) (2 * h) c)
        (analysis_carries wavelet h m.made after high m.down)
        (narrow_analysis_covers wavelet m.made after m.down)
        level_rows_at_most

-- a bound that is carried over one level after another
module _ (carry : ℕ → Option ℕ) (most : ℕ) where
  pub bound_zero : (b : ℕ) → bound_over carry 0 most ≡ Some b → most ≡ b
  unfolding bound_over
  bound_zero b e = grind (arith, nat_tests)

  pub bound_start : bound_over carry 0 most ≡ Some most
  unfolding bound_over
  bound_start = refl

  bound_step : (n : ℕ) → bound_over carry (n + 1) most ≡ option_and_then carry (bound_over carry n most)
  unfolding bound_over
  bound_step n = ap (λ k. bound_over carry k most) (add-one n)

  pub bound_next : (n b : ℕ) → bound_over carry n most ≡ Some b → bound_over carry (n + 1) most ≡ carry b
  bound_next n b e = bound_step n ∙ ap (option_and_then carry) e

  -- where there is none after some levels, there is none after more
  none_more : (d n : ℕ) → bound_over carry n most ≡ None → bound_over carry (d + n) most ≡ None
  unfolding bound_over
  none_more zero n e = (let same : 0 + n ≡ n = omega arith in ap (λ k. bound_over carry k most) same ∙ e)
  none_more (suc d) n e =
      let sum : suc d + n ≡ suc (d + n) = omega arith in
      ap (λ k. bound_over carry k most) sum ∙ ap (option_and_then carry) (none_more d n e)

  pub none_after : (levels n : ℕ) → n ≤ levels → bound_over carry n most ≡ None
      → bound_over carry levels most ≡ None
  none_after levels n le e =
      let sum : levels ≡ levels - n + n = omega arith in
      ap (λ k. bound_over carry k most) sum ∙ none_more (levels - n) n e

-- one after some levels, and one after one level more
pub record OneMore (carry : ℕ → Option ℕ) (n most after : ℕ) : Type 0 where
  pub before : ℕ
  pub so_far : bound_over carry n most ≡ Some before
  pub next : carry before ≡ Some after

pub one_more : (carry : ℕ → Option ℕ) (n most after : ℕ) → bound_over carry (n + 1) most ≡ Some after
    → OneMore carry n most after
one_more carry n most after fits =
    option_and_then_some carry (bound_over carry n most) after (sym (bound_step carry most n) ∙ fits)
    (λ before is last. record { before = before; so_far = is; next = last })

-- a bound over all levels is one over the first of them
pub record Reached (carry : ℕ → Option ℕ) (n most : ℕ) : Type 0 where
  pub bound : ℕ
  pub is : bound_over carry n most ≡ Some bound

reached : (carry : ℕ → Option ℕ) (d n most after : ℕ) → bound_over carry (d + n) most ≡ Some after
    → Reached carry n most
reached carry zero n most after fits =
    let none : 0 + n ≡ n = omega arith in
    record { bound = after; is = ap (λ k. bound_over carry k most) (sym none) ∙ fits }
reached carry (suc d) n most after fits =
    let sum : suc d + n ≡ d + n + 1 = omega arith in
    let m = one_more carry (d + n) most after (ap (λ k. bound_over carry k most) (sym sum) ∙ fits) in
    reached carry d n most m.before m.so_far

pub reached_at : (carry : ℕ → Option ℕ) (levels n most after : ℕ) → n ≤ levels
    → bound_over carry levels most ≡ Some after
    → Reached carry n most
reached_at carry levels n most after le fits =
    let sum : levels ≡ levels - n + n = omega arith in
    reached carry (levels - n) n most after (ap (λ k. bound_over carry k most) (sym sum) ∙ fits)

some_of : (o : Option ℕ) {P : Type 0} → is_some o ≡ true → ((n : ℕ) → o ≡ Some n → P) → P
some_of (Some n) h f = f n refl
some_of None h f = absurd (false≢true h)

pub bound_there : (carry : ℕ → Option ℕ) (levels most : ℕ) → is_some (bound_over carry levels most) ≡ true
    → Reached carry levels most
bound_there carry levels most fits =
    some_of (bound_over carry levels most) fits (λ n e. record { bound = n; is = e })

-- a bound that is carried over a level
pub record LevelReached (wavelet most : ℕ) : Type 0 where
  pub after : ℕ
  pub parts : LevelParted wavelet most after

pub level_reached : (wavelet most : ℕ) → is_some (parted_level_bound wavelet most) ≡ true
    → LevelReached wavelet most
level_reached wavelet most fits =
    some_of (parted_level_bound wavelet most) fits
    (λ after is. record { after = after; parts = level_bounds wavelet most after is })

-- a bound over levels is one over the first of them, which is carried over the others
pub record FirstCarried (carry : ℕ → Option ℕ) (levels most : ℕ) : Type 0 where
  pub first : ℕ
  pub over : carry most ≡ Some first
  pub last : ℕ
  pub rest : bound_over carry (levels - 1) first ≡ Some last

bound_after_first : (carry : ℕ → Option ℕ) (most first n : ℕ) → carry most ≡ Some first
    → bound_over carry n first ≡ bound_over carry (suc n) most
unfolding bound_over
bound_after_first carry most first zero over = sym over
bound_after_first carry most first (suc n) over =
    ap (option_and_then carry) (bound_after_first carry most first n over)

pub first_carried : (carry : ℕ → Option ℕ) (levels most : ℕ) → 1 ≤ levels
    → is_some (bound_over carry levels most) ≡ true → FirstCarried carry levels most
first_carried carry levels most some fits =
    let all = bound_there carry levels most fits in
    let one = reached_at carry levels (0 + 1) most all.bound (omega (arith, some)) all.is in
    let over : carry most ≡ Some one.bound = sym (bound_next carry most 0 most (bound_start carry most)) ∙ one.is in
    let whole : suc (levels - 1) ≡ levels = omega (arith, some) in
    record {
      first = one.bound;
      over = over;
      last = all.bound;
      rest = bound_after_first carry most one.bound (levels - 1) over ∙ ap (λ n. bound_over carry n most) whole ∙ all.is;
    }
