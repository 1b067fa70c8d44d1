-- A picture's slices in cells: what the slices of a run change together, and what they leave.
use Rattle.std.proofs.Common.{◌≡◌, ℕ, suc, zero, ◌+◌, ◌-◌, ◌<◌, ◌≤◌, ◌⊎◌, Bool, true, false, List, [], ◌∷◌, length, ℤ, Some, None, arith, refl, sym, ap, subst, ◌∙◌, inl, inr, length-set}
use Rattle.std.specs.Prelude.{slice_index_or, Option}
use Rattle.std.proofs.lemmas.Bool.{cases_lt}
use Rattle.std.proofs.lemmas.List.{get_or_past, get_or-set_same, get_or-set_other}
use Rattle.std.proofs.lemmas.List.FromFn.{length-map-range_with_len, get_or-map-range_with_len}
use Rattle.vc_types.specs.declared.video.Component.{Component}
use Rattle.vc_types.specs.declared.video.Component.TheVariants.{Y, C1, C2}
use Rattle.vc_types.specs.SliceCoefficients.{AreSliceCoefficients}
use Rattle.vc_types.specs.Slices.{Coefficients}
use Rattle.vc_types.specs.Subbands.{slice_count}
use Rattle.vc_types.specs.TransformParameters.{Parameters}
use Rattle.vc_geometry.specs.Runs.{IsRun}
use Rattle.vc_geometry.proofs.RunPlaces.{numbered}
use Rattle.vc_slice.specs.Strips.{strip_component, strip_slice, strip_slices}
use Rattle.vc_slice.proofs.StripBlocks.{cut-length, cut-at}
use Rattle.picture_build.specs.Kept.{PartPicture, slice_that_came, with_slice, with_run, kept_at, kept_of, kept_slice, kept_entry, kept_slices, IsKept, FillsRun}
use Rattle.picture_build.proofs.PlacedNumbers.{kept_apart}
use Rattle.picture_build.proofs.SeenSlices.{seen}
use Rattle.picture_build.proofs.KeptSlices.{kept_of-is, kept_of-at, kept_of-length, came_is, entry_at, entries_count, entries_are}

-- ---- a run more, entry by entry

abbrev some : Coefficients → Option Coefficients
some s = Some s

pub run-parameters : (picture : PartPicture) (n : ℕ) (slices : List Coefficients) → (with_run picture n slices).parameters ≡ picture.parameters
unfolding with_run
run-parameters picture n [] = refl
run-parameters picture n (s ∷ slices) = run-parameters (with_slice picture n s) (n + 1) slices

pub run-length : (picture : PartPicture) (n : ℕ) (slices : List Coefficients) → length (with_run picture n slices).slices ≡ length picture.slices
unfolding with_run
run-length picture n [] = refl
run-length picture n (s ∷ slices) = run-length (with_slice picture n s) (n + 1) slices ∙ length-set picture.slices n (Some s)

pub run-off : (picture : PartPicture) (n : ℕ) (slices : List Coefficients) (m : ℕ) → (m < n) ⊎ (n + length slices ≤ m) → slice_index_or (with_run picture n slices).slices m None ≡ slice_index_or picture.slices m None
unfolding with_run
run-off picture n [] m h = refl
run-off picture n (s ∷ slices) m (inl low) = run-off (with_slice picture n s) (n + 1) slices m (inl (omega (arith, low))) ∙ get_or-set_other picture.slices n m (Some s) None (λ e. omega (arith, low, e))
run-off picture n (s ∷ slices) m (inr high) = run-off (with_slice picture n s) (n + 1) slices m (inr (omega (arith, high))) ∙ get_or-set_other picture.slices n m (Some s) None (λ e. omega (arith, high, e))

pub run-on : (picture : PartPicture) (n : ℕ) (slices : List Coefficients) (k : ℕ) (d : Coefficients) → k < length slices → n + length slices ≤ length picture.slices
    → slice_index_or (with_run picture n slices).slices (n + k) None ≡ Some (slice_index_or slices k d)
unfolding with_run
run-on picture n [] k d h fits = absurd (omega (arith, h))
run-on picture n (s ∷ slices) zero d h fits =
    let same : n + 0 ≡ n = omega arith in
    ap (λ m. slice_index_or (with_run (with_slice picture n s) (n + 1) slices).slices m None) same
    ∙ run-off (with_slice picture n s) (n + 1) slices n (inl (omega arith)) ∙ get_or-set_same picture.slices n (Some s) None (omega (arith, fits))
run-on picture n (s ∷ slices) (suc k) d h fits =
    let next : n + suc k ≡ n + 1 + k = omega arith in
    let long = length-set picture.slices n (Some s) in
    ap (λ m. slice_index_or (with_run (with_slice picture n s) (n + 1) slices).slices m None) next
    ∙ run-on (with_slice picture n s) (n + 1) slices k d (omega (arith, h)) (omega (arith, fits, long))

-- a run lies in its picture
pub run-inside : (p : Parameters) (first count : ℕ) → IsRun p first count → first + count ≤ slice_count p
run-inside p first count run = elim (cases_lt 0 count) [
  | inl some ↦ (let last = numbered p Y first count run (count - 1) (omega (arith, some)) in omega (arith, last, some))
  | inr none ↦ (let inside = run.in_plan in omega (arith, none, inside))
]

-- ---- in cells

module _ (p : Parameters) (some_across : 0 < p.slices_x) (some_down : 0 < p.slices_y) (came : List Bool) (y c1 c2 : List ℤ) (room : ℕ) (kept : IsKept p came y c1 c2 room)
    (first count : ℕ) (run : IsRun p first count) (once : (k : ℕ) → k < count → slice_index_or (kept_slices p came y c1 c2) (first + k) None ≡ None)
    (came2 : List Bool) (y2 c12 c22 : List ℤ) (strip : Coefficients)
    (fy : FillsRun p Y first count strip.y y y2) (f1 : FillsRun p C1 first count strip.c1 c1 c12) (f2 : FillsRun p C2 first count strip.c2 c2 c22)
    (on : (k : ℕ) → k < count → slice_index_or came2 (first + k) false ≡ true) (off : (n : ℕ) → (n < first) ⊎ (first + count ≤ n) → slice_index_or came2 n false ≡ slice_index_or came n false) (long : length came2 ≡ length came) where
  within : first + count ≤ slice_count p
  within = run-inside p first count run

  -- cells of another slice
  stays : (c : Component) (cut old new : List ℤ) → FillsRun p c first count cut old new → (m : ℕ) → m < slice_count p → (m < first) ⊎ (first + count ≤ m) → kept_of p c m new ≡ kept_of p c m old
  stays c cut old new filled m h apart =
      kept_of-is p c m new (kept_of p c m old) (kept_of-length p c m old)
      (λ i below. filled.only.others (kept_at p c m i) (λ k j hk g e. out m k apart hk ((kept_apart p c some_across some_down m i (first + k) j h below (numbered p c first count run k hk) g e).0)) ∙ sym (kept_of-at p c m old i below))
    where
      out : (m k : ℕ) → (m < first) ⊎ (first + count ≤ m) → k < count → m ≡ first + k → ⊥
      out m k (inl low) hk e = omega (arith, low, e)
      out m k (inr high) hk e = omega (arith, high, hk, e)

  -- cells of a slice of the run
  comes : (c : Component) (cut old new : List ℤ) → FillsRun p c first count cut old new → (k : ℕ) → k < count → kept_of p c (first + k) new ≡ strip_component p c first count cut (first + k)
  comes c cut old new filled k hk =
      kept_of-is p c (first + k) new (strip_component p c first count cut (first + k)) (cut-length p first count c (first + k) cut)
      (λ i below. filled.own k i hk below ∙ sym (cut-at p first count c (first + k) cut i below))

  same_three : {a b d e f g : List ℤ} → a ≡ e → b ≡ f → d ≡ g → ◌≡◌ {A = Coefficients} (record { y = a; c1 = b; c2 = d }) (record { y = e; c1 = f; c2 = g })
  same_three h i j = cc

  other_slice : (m : ℕ) → m < slice_count p → (m < first) ⊎ (first + count ≤ m) → kept_slice p y2 c12 c22 m ≡ kept_slice p y c1 c2 m
  other_slice m h apart = same_three (stays Y strip.y y y2 fy m h apart) (stays C1 strip.c1 c1 c12 f1 m h apart) (stays C2 strip.c2 c2 c22 f2 m h apart)

  pub own_slice : (k : ℕ) → k < count → kept_slice p y2 c12 c22 (first + k) ≡ strip_slice p first count strip (first + k)
  unfolding strip_slice
  own_slice k hk = same_three (comes Y strip.y y y2 fy k hk) (comes C1 strip.c1 c1 c12 f1 k hk) (comes C2 strip.c2 c2 c22 f2 k hk)

  other_entry : (m : ℕ) → m < slice_count p → (m < first) ⊎ (first + count ≤ m) → kept_entry p came2 y2 c12 c22 m ≡ kept_entry p came y c1 c2 m
  other_entry m h apart = by (slice_index_or came m false) refl
    where
      by : (entry : Bool) → slice_index_or came m false ≡ entry → kept_entry p came2 y2 c12 c22 m ≡ kept_entry p came y c1 c2 m
      by true e = came_is p y2 c12 c22 came2 m true (off m apart ∙ e) ∙ ap some (other_slice m h apart) ∙ sym (came_is p y c1 c2 came m true e)
      by false e = came_is p y2 c12 c22 came2 m false (off m apart ∙ e) ∙ sym (came_is p y c1 c2 came m false e)

  placed : (m : ℕ) → (m < first) ⊎ (first + count ≤ m) ⊎ (first ≤ m × m < first + count)
  placed m = elim (cases_lt m first) [
    | inl low ↦ inl low
    | inr past ↦ elim (cases_lt m (first + count)) [
      | inl inside ↦ inr (inr (past, inside))
      | inr high ↦ inr (inl high)
    ]
  ]

  cut-slices : List Coefficients
  cut-slices = strip_slices p first count strip

  cut-count : length (strip_slices p first count strip) ≡ count
  cut-count = length-map-range_with_len (strip_slice p first count strip) first count

  cut-number : (k : ℕ) → k < count → slice_index_or (strip_slices p first count strip) k (strip_slice p first count strip 0) ≡ strip_slice p first count strip (first + k)
  cut-number k hk = get_or-map-range_with_len (strip_slice p first count strip) first count k (first + k) (strip_slice p first count strip 0) hk refl

  -- what is seen of the change
  pub run_more : kept_slices p came2 y2 c12 c22 ≡ (with_run (record { parameters = p; slices = kept_slices p came y c1 c2 }) first (strip_slices p first count strip)).slices
  run_more =
      let picture : PartPicture = record { parameters = p; slices = kept_slices p came y c1 c2 } in
      let own = entries_count p y c1 c2 came in
      entries_are p y2 c12 c22 came2 (with_run picture first (strip_slices p first count strip)).slices (run-length picture first (strip_slices p first count strip) ∙ own) (λ m h. by m h (placed m))
    where
      by : (m : ℕ) → m < slice_count p → (m < first) ⊎ (first + count ≤ m) ⊎ (first ≤ m × m < first + count)
          → kept_entry p came2 y2 c12 c22 m ≡ slice_index_or (with_run (record { parameters = p; slices = kept_slices p came y c1 c2 }) first (strip_slices p first count strip)).slices m None
      by m h (inl low) = other_entry m h (inl low) ∙ sym (run-off (record { parameters = p; slices = kept_slices p came y c1 c2 }) first (strip_slices p first count strip) m (inl low) ∙ entry_at p y c1 c2 came m None h)
      by m h (inr (inl high)) = other_entry m h (inr high) ∙ sym (run-off (record { parameters = p; slices = kept_slices p came y c1 c2 }) first (strip_slices p first count strip) m (inr (omega (arith, cut-count, high))) ∙ entry_at p y c1 c2 came m None h)
      by m h (inr (inr (low, high))) =
          let k = m - first in
          let hk : k < count = omega (arith, low, high) in
          let e : first + k ≡ m = omega (arith, low) in
          let own = entries_count p y c1 c2 came in
          subst (λ n. kept_entry p came2 y2 c12 c22 n ≡ slice_index_or (with_run (record { parameters = p; slices = kept_slices p came y c1 c2 }) first (strip_slices p first count strip)).slices n None) e
          (came_is p y2 c12 c22 came2 (first + k) true (on k hk) ∙ ap some (own_slice k hk)
          ∙ sym (run-on (record { parameters = p; slices = kept_slices p came y c1 c2 }) first (strip_slices p first count strip) k (strip_slice p first count strip 0) (omega (arith, cut-count, hk)) (omega (arith, cut-count, own, within)) ∙ ap some (cut-number k hk)))

  pub kept_run : ((k : ℕ) → k < count → AreSliceCoefficients p (first + k) (strip_slice p first count strip (first + k))) → IsKept p came2 y2 c12 c22 room
  kept_run sound = record {
    entries = long ∙ kept.entries;
    y_cells = fy.only.length ∙ kept.y_cells;
    c1_cells = f1.only.length ∙ kept.c1_cells;
    c2_cells = f2.only.length ∙ kept.c2_cells;
    sound = λ m e. by m e (placed m);
    largest = kept.largest;
  }
    where
      below : (m : ℕ) → slice_index_or came m false ≡ true → m < slice_count p
      below m e = elim (cases_lt m (slice_count p)) [
        | inl lt ↦ lt
        | inr ge ↦ absurd (let none = get_or_past came m false (omega (arith, kept.entries)) in let both = sym e ∙ none in cc)
      ]

      other : (m : ℕ) → slice_index_or came2 m false ≡ true → (m < first) ⊎ (first + count ≤ m) → AreSliceCoefficients p m (kept_slice p y2 c12 c22 m)
      other m e apart = (
          let before : slice_index_or came m false ≡ true = sym (off m apart) ∙ e in
          subst (AreSliceCoefficients p m) (sym (other_slice m (below m before) apart)) (kept.sound m before))

      by : (m : ℕ) → slice_index_or came2 m false ≡ true → (m < first) ⊎ (first + count ≤ m) ⊎ (first ≤ m × m < first + count) → AreSliceCoefficients p m (kept_slice p y2 c12 c22 m)
      by m e (inl low) = other m e (inl low)
      by m e (inr (inl high)) = other m e (inr high)
      by m e (inr (inr (low, high))) =
          let k = m - first in
          let hk : k < count = omega (arith, low, high) in
          let is : first + k ≡ m = omega (arith, low) in
          subst (λ n. AreSliceCoefficients p n (kept_slice p y2 c12 c22 n)) is (subst (AreSliceCoefficients p (first + k)) (sym (own_slice k hk)) (sound k hk))

-- ---- as a caller sees it

same_picture : (p : Parameters) (slices : List (Option Coefficients)) (q : PartPicture) → q.parameters ≡ p → slices ≡ q.slices → ◌≡◌ {A = PartPicture} (record { parameters = p; slices = slices }) q
same_picture p slices q e f = by q.parameters q.slices e f
  where
    by : (r : Parameters) (entries : List (Option Coefficients)) → r ≡ p → slices ≡ entries → ◌≡◌ {A = PartPicture} (record { parameters = p; slices = slices }) (record { parameters = r; slices = entries })
    by r entries g h = cc

module _ (p : Parameters) (some_across : 0 < p.slices_x) (some_down : 0 < p.slices_y) (came : List Bool) (y c1 c2 : List ℤ) (room : ℕ) (kept : IsKept p came y c1 c2 room)
    (now : PartPicture) (view : seen p came y c1 c2 ≡ now) (first count : ℕ) (run : IsRun now.parameters first count)
    (once : (k : ℕ) → k < count → slice_that_came now (first + k) ≡ None) where
  pub seen-is-run : IsRun p first count
  seen-is-run = subst (λ (q : PartPicture). IsRun q.parameters first count) (sym view) run

  pub seen-once : (k : ℕ) → k < count → slice_index_or (kept_slices p came y c1 c2) (first + k) None ≡ None
  seen-once = subst (λ (q : PartPicture). (k : ℕ) → k < count → slice_that_came q (first + k) ≡ None) (sym view) once

  module _ (came2 : List Bool) (y2 c12 c22 : List ℤ) (strip : Coefficients)
      (fy : FillsRun p Y first count strip.y y y2) (f1 : FillsRun p C1 first count strip.c1 c1 c12) (f2 : FillsRun p C2 first count strip.c2 c2 c22)
      (on : (k : ℕ) → k < count → slice_index_or came2 (first + k) false ≡ true) (off : (n : ℕ) → (n < first) ⊎ (first + count ≤ n) → slice_index_or came2 n false ≡ slice_index_or came n false) (long : length came2 ≡ length came) where
    pub seen_run : seen p came2 y2 c12 c22 ≡ with_run now first (strip_slices now.parameters first count strip)
    seen_run =
        let picture : PartPicture = seen p came y c1 c2 in
        same_picture p (kept_slices p came2 y2 c12 c22) (with_run picture first (strip_slices p first count strip)) (run-parameters picture first (strip_slices p first count strip))
        (run_more p some_across some_down came y c1 c2 room kept first count seen-is-run seen-once came2 y2 c12 c22 strip fy f1 f2 on off long)
        ∙ ap (λ (q : PartPicture). with_run q first (strip_slices q.parameters first count strip)) view

    pub kept_seen : ((k : ℕ) → k < count → AreSliceCoefficients now.parameters (first + k) (strip_slice now.parameters first count strip (first + k))) → (room2 : ℕ) → room2 ≡ room → IsKept p came2 y2 c12 c22 room2
    kept_seen sound room2 same =
        subst (IsKept p came2 y2 c12 c22) (sym same)
        (kept_run p some_across some_down came y c1 c2 room kept first count seen-is-run seen-once came2 y2 c12 c22 strip fy f1 f2 on off long
        (subst (λ (q : PartPicture). (k : ℕ) → k < count → AreSliceCoefficients q.parameters (first + k) (strip_slice q.parameters first count strip (first + k))) (sym view) sound))
